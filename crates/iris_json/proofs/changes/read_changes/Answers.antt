use Rattle.std.proofs.Common.{◌≡◌, Some, refl, rules}
use Rattle.serde_json.specs.Find.{as_array}
use Rattle.serde_json.specs.View.{view, items_view}
use Rattle.iris_json.proofs.LineReading.{changes_found, changes_refused, changes_only, no_list}
use Rattle.iris_json.proofs.changes.read_changes.Goals as goal

pub returns-in-Some-clause-only : goal.returns-in-Some-clause-only
returns-in-Some-clause-only c =
    let list : Some (items_view c.as_slice.result.now) ≡ as_array (view c.in_ok-value.value) = search (rules, c.as_slice.ensures, c.in-Some.ensures) in
    changes_only c.args.text.now c.changes_in.result
    (changes_found c.args.text.now _ _ c.changes_in.result (search (rules, c.in_ok-value.ensures, c.as_bytes.ensures)) list c.changes_in.ensures.found)
    (changes_refused c.args.text.now _ _ c.changes_in.result (search (rules, c.in_ok-value.ensures, c.as_bytes.ensures)) list c.changes_in.ensures.refused)

pub returns-in-Some-clause-refused : goal.returns-in-Some-clause-refused
returns-in-Some-clause-refused c =
    let list : Some (items_view c.as_slice.result.now) ≡ as_array (view c.in_ok-value.value) = search (rules, c.as_slice.ensures, c.in-Some.ensures) in
    changes_refused c.args.text.now _ _ c.changes_in.result (search (rules, c.in_ok-value.ensures, c.as_bytes.ensures)) list c.changes_in.ensures.refused

pub returns-clause-refused : goal.returns-clause-refused
returns-clause-refused c = (refl, (view c.in_ok-value.value, search (rules, c.in_ok-value.ensures, c.as_bytes.ensures), no_list c.args.text.now (view c.in_ok-value.value) (search (rules, c.in_ok-value.ensures, c.as_bytes.ensures)) (search (rules, c.in-None.ensures, c.in-None.is))))
