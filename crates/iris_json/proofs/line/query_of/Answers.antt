use Rattle.std.proofs.Common.{codes, refl, rules}
use Rattle.std.proofs.lemmas.Result.{err_from_is_err_and}
use Rattle.serde_json.specs.Data.{object}
use Rattle.serde_json.specs.View.{members_view}
use Rattle.iris_json.specs.LineTable.{query_keys, bound_key}
use Rattle.iris_json.proofs.PartReading.{bound_fits, number_lacks, shaped}
use Rattle.iris_json.proofs.line.query_of.Goals as goal

pub returns-in_err-bound-clause-refused : goal.returns-in_err-bound-clause-refused
returns-in_err-bound-clause-refused c =
    let p = err_from_is_err_and c.from_residual.result c.from_residual.ensures.1 in
    let d = object (members_view c.args.members.now.entries) in
    let shape = shaped (codes "query") query_keys d c.has_slots.result refl c.requires.does c.has_slots.ensures (search rules) in
    rw (p.1, p.2) (number_lacks query_keys d (bound_key) _ shape (λ v at. tt, (λ v at. tt, tt)) (λ all. all.1.0) c.in_err-bound.ensures.refused)

pub returns-clause-found : goal.returns-clause-found
returns-clause-found c = let d = object (members_view c.args.members.now.entries) in record {
  keys = query_keys;
  shape = shaped (codes "query") query_keys d c.has_slots.result refl c.requires.does c.has_slots.ensures (search rules);
  names = (λ v at. tt, (λ v at. tt, tt));
  numbers = (λ v at. tt, (bound_fits d c.in_ok-bound.bound c.in_ok-bound.ensures.found c.in_ok-bound.ensures.range, tt));
  changes = (λ v at. tt, (λ v at. tt, tt));
  says = (c.requires.does, search (rules, c.text_of.ensures), c.in_ok-bound.ensures.found);
}
