use Rattle.std.proofs.Common.{codes, refl, rules}
use Rattle.std.proofs.lemmas.Result.{err_from_is_err_and}
use Rattle.serde_json.specs.Data.{object}
use Rattle.serde_json.specs.View.{members_view}
use Rattle.iris_base.specs.declared.limits.TheConstants.{MAX_NUMBER}
use Rattle.iris_json.specs.LineTable.{update_keys, has, a_name, a_number, a_change_list}
use Rattle.iris_json.proofs.PartReading.{not_shaped, changes_fit, changes_lack, name_fits, name_lacks, number_fits, number_lacks, shaped}
use Rattle.iris_json.proofs.line.update_of.Goals as goal

pub returns-then-not-has_slots-clause-refused : goal.returns-then-not-has_slots-clause-refused
returns-then-not-has_slots-clause-refused c =
    let d = object (members_view c.args.members.now.entries) in
    not_shaped (codes "update") update_keys d c.has_slots.result refl c.requires.does c.has_slots.ensures (search rules)

pub returns-in_err-name-clause-refused : goal.returns-in_err-name-clause-refused
returns-in_err-name-clause-refused c =
    let p = err_from_is_err_and c.from_residual.result c.from_residual.ensures.1 in
    let d = object (members_view c.args.members.now.entries) in
    let shape = shaped (codes "update") update_keys d c.has_slots.result refl c.requires.does c.has_slots.ensures (search rules) in
    rw (p.1, p.2) (name_lacks update_keys d (has (codes "name") a_name) _ shape (λ all. all.0) c.in_err-name.ensures.refused)

pub returns-in_err-no-clause-refused : goal.returns-in_err-no-clause-refused
returns-in_err-no-clause-refused c =
    let p = err_from_is_err_and c.from_residual-in_err-no.result c.from_residual-in_err-no.ensures.1 in
    let d = object (members_view c.args.members.now.entries) in
    let shape = shaped (codes "update") update_keys d c.has_slots.result refl c.requires.does c.has_slots.ensures (search rules) in
    rw (p.1, p.2) (number_lacks update_keys d (has (codes "no") (a_number 1 MAX_NUMBER)) _ shape (name_fits d c.in_ok-name.name c.in_ok-name.ensures.found, (λ v at. tt, (λ v at. tt, tt))) (λ all. all.1.0) c.in_err-no.ensures.refused)

pub returns-in_err-changes-clause-refused : goal.returns-in_err-changes-clause-refused
returns-in_err-changes-clause-refused c =
    let p = err_from_is_err_and c.from_residual-in_err-changes.result c.from_residual-in_err-changes.ensures.1 in
    let d = object (members_view c.args.members.now.entries) in
    let shape = shaped (codes "update") update_keys d c.has_slots.result refl c.requires.does c.has_slots.ensures (search rules) in
    rw (p.1, p.2) (changes_lack update_keys d (has (codes "change") a_change_list) _ shape (name_fits d c.in_ok-name.name c.in_ok-name.ensures.found, (λ v at. tt, (λ v at. tt, tt))) (λ v at. tt, (number_fits _ _ _ _ c.in_ok-no.ensures.found c.in_ok-no.ensures.range, (λ v at. tt, tt))) (λ all. all.1.1.0) c.in_err-changes.ensures.refused)

pub returns-clause-found : goal.returns-clause-found
returns-clause-found c = let d = object (members_view c.args.members.now.entries) in record {
  keys = update_keys;
  shape = shaped (codes "update") update_keys d c.has_slots.result refl c.requires.does c.has_slots.ensures (search rules);
  names = (name_fits d c.in_ok-name.name c.in_ok-name.ensures.found, (λ v at. tt, (λ v at. tt, tt)));
  numbers = (λ v at. tt, (number_fits _ _ _ _ c.in_ok-no.ensures.found c.in_ok-no.ensures.range, (λ v at. tt, tt)));
  changes = (λ v at. tt, (λ v at. tt, (changes_fit d c.in_ok-changes.changes c.in_ok-changes.ensures.found, tt)));
  says = (c.requires.does, c.in_ok-name.ensures.found, c.in_ok-no.ensures.found, c.in_ok-changes.ensures.found);
}
