use Rattle.std.proofs.Common.{codes, refl, rules}
use Rattle.std.proofs.lemmas.Result.{err_from_is_err_and}
use Rattle.serde_json.specs.Data.{object}
use Rattle.serde_json.specs.View.{members_view}
use Rattle.iris_json.specs.LineTable.{owner_keys, has, a_name}
use Rattle.iris_json.proofs.PartReading.{name_fits, name_lacks, shaped}
use Rattle.iris_json.proofs.line.owner_of.Goals as goal

pub returns-in_err-name-clause-refused : goal.returns-in_err-name-clause-refused
returns-in_err-name-clause-refused c =
    let p = err_from_is_err_and c.from_residual.result c.from_residual.ensures.1 in
    let d = object (members_view c.args.members.now.entries) in
    let shape = shaped (codes "owner") owner_keys d c.has_slots.result refl c.requires.does c.has_slots.ensures (search rules) in
    rw (p.1, p.2) (name_lacks owner_keys d (has (codes "name") a_name) _ shape (λ all. all.0) c.in_err-name.ensures.refused)

pub returns-clause-found : goal.returns-clause-found
returns-clause-found c = let d = object (members_view c.args.members.now.entries) in record {
  keys = owner_keys;
  shape = shaped (codes "owner") owner_keys d c.has_slots.result refl c.requires.does c.has_slots.ensures (search rules);
  names = (name_fits d c.in_ok-name.name c.in_ok-name.ensures.found, tt);
  numbers = (λ v at. tt, tt);
  changes = (λ v at. tt, tt);
  says = (c.requires.does, c.in_ok-name.ensures.found);
}
