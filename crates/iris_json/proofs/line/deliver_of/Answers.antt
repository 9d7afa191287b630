use Rattle.std.proofs.Common.{codes, refl, rules}
use Rattle.std.proofs.lemmas.Result.{err_from_is_err_and}
use Rattle.serde_json.specs.Data.{object}
use Rattle.serde_json.specs.View.{members_view}
use Rattle.iris_base.specs.declared.limits.TheConstants.{MAX_NUMBER}
use Rattle.iris_json.specs.LineTable.{deliver_keys, has, a_number}
use Rattle.iris_json.proofs.PartReading.{number_fits, number_lacks, shaped}
use Rattle.iris_json.proofs.line.deliver_of.Goals as goal

pub returns-in_err-post-clause-refused : goal.returns-in_err-post-clause-refused
returns-in_err-post-clause-refused c =
    let p = err_from_is_err_and c.from_residual.result c.from_residual.ensures.1 in
    let d = object (members_view c.args.members.now.entries) in
    let shape = shaped (codes "deliver") deliver_keys d c.has_slots.result refl c.requires.does c.has_slots.ensures (search rules) in
    rw (p.1, p.2) (number_lacks deliver_keys d (has (codes "post") (a_number 0 MAX_NUMBER)) _ shape (λ v at. tt, tt) (λ all. all.0) c.in_err-post.ensures.refused)

pub returns-clause-found : goal.returns-clause-found
returns-clause-found c = let d = object (members_view c.args.members.now.entries) in record {
  keys = deliver_keys;
  shape = shaped (codes "deliver") deliver_keys d c.has_slots.result refl c.requires.does c.has_slots.ensures (search rules);
  names = (λ v at. tt, tt);
  numbers = (number_fits _ _ _ _ c.in_ok-post.ensures.found c.in_ok-post.ensures.range, tt);
  changes = (λ v at. tt, tt);
  says = (c.requires.does, c.in_ok-post.ensures.found);
}
