use Rattle.std.proofs.Common.{codes, refl, rules}
use Rattle.std.proofs.lemmas.Result.{err_from_is_err_and}
use Rattle.serde_json.specs.Data.{object}
use Rattle.serde_json.specs.View.{members_view}
use Rattle.iris_base.specs.declared.limits.TheConstants.{MAX_ARRIVAL, MAX_STAY, MAX_OFFERS}
use Rattle.iris_json.specs.LineTable.{find_keys, has, bound_key, an_id, a_number}
use Rattle.iris_json.proofs.PartReading.{bound_fits, id_fits, name_lacks, number_fits, number_lacks, shaped}
use Rattle.iris_json.proofs.line.find_of.Goals as goal

pub returns-in_err-hood-clause-refused : goal.returns-in_err-hood-clause-refused
returns-in_err-hood-clause-refused c =
    let p = err_from_is_err_and c.from_residual.result c.from_residual.ensures.1 in
    let d = object (members_view c.args.members.now.entries) in
    let shape = shaped (codes "find") find_keys d c.has_slots.result refl c.requires.does c.has_slots.ensures (search rules) in
    rw (p.1, p.2) (name_lacks find_keys d (has (codes "hood") an_id) _ shape (λ all. all.0) c.in_err-hood.ensures.refused)

pub returns-in_err-arrive-clause-refused : goal.returns-in_err-arrive-clause-refused
returns-in_err-arrive-clause-refused c =
    let p = err_from_is_err_and c.from_residual-in_err-arrive.result c.from_residual-in_err-arrive.ensures.1 in
    let d = object (members_view c.args.members.now.entries) in
    let shape = shaped (codes "find") find_keys d c.has_slots.result refl c.requires.does c.has_slots.ensures (search rules) in
    rw (p.1, p.2) (number_lacks find_keys d (has (codes "arrive") (a_number 0 MAX_ARRIVAL)) _ shape (id_fits _ _ c.in_ok-hood.ensures.found.0 c.in_ok-hood.ensures.found.1, (λ v at. tt, (λ v at. tt, (λ v at. tt, (λ v at. tt, tt))))) (λ all. all.1.0) c.in_err-arrive.ensures.refused)

pub returns-in_err-stay-clause-refused : goal.returns-in_err-stay-clause-refused
returns-in_err-stay-clause-refused c =
    let p = err_from_is_err_and c.from_residual-in_err-stay.result c.from_residual-in_err-stay.ensures.1 in
    let d = object (members_view c.args.members.now.entries) in
    let shape = shaped (codes "find") find_keys d c.has_slots.result refl c.requires.does c.has_slots.ensures (search rules) in
    rw (p.1, p.2) (number_lacks find_keys d (has (codes "stay") (a_number 1 MAX_STAY)) _ shape (id_fits _ _ c.in_ok-hood.ensures.found.0 c.in_ok-hood.ensures.found.1, (λ v at. tt, (λ v at. tt, (λ v at. tt, (λ v at. tt, tt))))) (λ all. all.1.1.0) c.in_err-stay.ensures.refused)

pub returns-in_err-top-clause-refused : goal.returns-in_err-top-clause-refused
returns-in_err-top-clause-refused c =
    let p = err_from_is_err_and c.from_residual-in_err-top.result c.from_residual-in_err-top.ensures.1 in
    let d = object (members_view c.args.members.now.entries) in
    let shape = shaped (codes "find") find_keys d c.has_slots.result refl c.requires.does c.has_slots.ensures (search rules) in
    rw (p.1, p.2) (number_lacks find_keys d (has (codes "top") (a_number 1 MAX_OFFERS)) _ shape (id_fits _ _ c.in_ok-hood.ensures.found.0 c.in_ok-hood.ensures.found.1, (λ v at. tt, (λ v at. tt, (λ v at. tt, (λ v at. tt, tt))))) (λ all. all.1.1.1.0) c.in_err-top.ensures.refused)

pub returns-in_err-bound-clause-refused : goal.returns-in_err-bound-clause-refused
returns-in_err-bound-clause-refused c =
    let p = err_from_is_err_and c.from_residual-in_err-bound.result c.from_residual-in_err-bound.ensures.1 in
    let d = object (members_view c.args.members.now.entries) in
    let shape = shaped (codes "find") find_keys d c.has_slots.result refl c.requires.does c.has_slots.ensures (search rules) in
    rw (p.1, p.2) (number_lacks find_keys d (bound_key) _ shape (id_fits _ _ c.in_ok-hood.ensures.found.0 c.in_ok-hood.ensures.found.1, (λ v at. tt, (λ v at. tt, (λ v at. tt, (λ v at. tt, tt))))) (λ all. all.1.1.1.1.0) c.in_err-bound.ensures.refused)

pub returns-clause-found : goal.returns-clause-found
returns-clause-found c = let d = object (members_view c.args.members.now.entries) in record {
  keys = find_keys;
  shape = shaped (codes "find") find_keys d c.has_slots.result refl c.requires.does c.has_slots.ensures (search rules);
  names = (id_fits _ _ c.in_ok-hood.ensures.found.0 c.in_ok-hood.ensures.found.1, (λ v at. tt, (λ v at. tt, (λ v at. tt, (λ v at. tt, tt)))));
  numbers = (λ v at. tt, (number_fits _ _ _ _ c.in_ok-arrive.ensures.found c.in_ok-arrive.ensures.range, (number_fits _ _ _ _ c.in_ok-stay.ensures.found c.in_ok-stay.ensures.range, (number_fits _ _ _ _ c.in_ok-top.ensures.found c.in_ok-top.ensures.range, (bound_fits d c.in_ok-bound.bound c.in_ok-bound.ensures.found c.in_ok-bound.ensures.range, tt)))));
  changes = (λ v at. tt, (λ v at. tt, (λ v at. tt, (λ v at. tt, (λ v at. tt, tt)))));
  says = (c.requires.does, c.in_ok-hood.ensures.found.0, c.in_ok-arrive.ensures.found, c.in_ok-stay.ensures.found, c.in_ok-top.ensures.found, c.in_ok-bound.ensures.found);
}
