use Rattle.std.proofs.Common.{List, ℕ, Bool, true, false, ◌||◌, ◌≡◌, cond, true≢false, ap, sym, ◌∙◌, refl, subst, rules, arith}
use Rattle.std.specs.HashSet.{contains}
use Rattle.std.specs.Cmp.Lexicographic.{pointwise}
use Rattle.std.proofs.lemmas.Result.{err_from_is_err_and}
use Rattle.serde_json.specs.View.{view, items_view}
use Rattle.iris_base.specs.declared.name.Label.{Label}
use Rattle.iris_base.specs.NameOrder.{label_eq}
use Rattle.iris_json.specs.Places.{ArePlacedAt}
use Rattle.iris_json.proofs.PlaceReading.{places_start, places_step, next_place, places_found, no_top, none_next, not_fresh, fresh_name}
use Rattle.iris_json.proofs.city_place.read_pairs.Goals as goal

pub returns-in_err-name-clause-refused : goal.returns-in_err-name-clause-refused
returns-in_err-name-clause-refused c =
    let p = err_from_is_err_and c.from_residual-in_err-name.result c.from_residual-in_err-name.ensures.1 in
    rw (p.1, p.2) (none_next c.args.agents.now c.args.tree.now (view c.item-item.result) (items_view c.args.items.now) _ c.in_err-name.ensures.refused
    (λ place at. let n = next_place c.args.agents.now c.args.tree.now (contains (pointwise label_eq) c.loop-item.names) c.args.items.now c.loop-item.item-index c.loop-item.place.items c.loop-item.top c.loop-item.invariant c.item-item.result c.loop-item-test.true c.item-item.is place at in (n.0, n.1)))

pub returns-then-not-branch-clause-refused : goal.returns-then-not-branch-clause-refused
returns-then-not-branch-clause-refused c place at =
    let n = next_place c.args.agents.now c.args.tree.now (contains (pointwise label_eq) c.loop-item.names) c.args.items.now c.loop-item.item-index c.loop-item.place.items c.loop-item.top c.loop-item.invariant c.item-item.result c.loop-item-test.true c.item-item.is place at in
    not_fresh c.args.agents.now c.args.tree.now (view c.item-item.result) (contains (pointwise label_eq) c.loop-item.names) c.in_ok-insert.field-0 c.in_ok-copy.field-0 (c.in_ok-name.name, c.in_ok-name.agent) n.0 c.in_ok-insert.ensures.added c.in_ok-copy.ensures c.in_ok-name.ensures.found n.1 n.2 c.if-not-branch.true

pub loop-item-preserved : goal.loop-item-preserved
loop-item-preserved c =
    places_step c.args.agents.now c.args.tree.now (contains (pointwise label_eq) c.loop-item.names) (contains (pointwise label_eq) c.insert.new.self) c.args.items.now c.loop-item.item-index c.loop-item.place.items c.loop-item.top c.either-top.result c.loop-item.invariant c.item-item.result c.loop-item-test.true c.item-item.is (c.in_ok-name.name, c.in_ok-name.agent) c.in_ok-name.ensures.found
    (subst (λ (n : List Label). (q : List Label) → contains (pointwise label_eq) c.insert.new.self q ≡ cond (pointwise label_eq n q) true (contains (pointwise label_eq) c.loop-item.names q)) c.in_ok-copy.ensures c.in_ok-insert.ensures.updates.0)
    (fresh_name (contains (pointwise label_eq) c.loop-item.names) c.in_ok-insert.field-0 c.in_ok-copy.field-0 c.in_ok-name.name c.in_ok-insert.ensures.added c.in_ok-copy.ensures c.if-not-branch.false)
    (c.either-top.ensures ∙ ap (λ (b : Bool). b || c.loop-item.top) c.is_top.ensures) _ c.in_ok-push.ensures.items

pub returns-then-not-top-clause-refused : goal.returns-then-not-top-clause-refused
returns-then-not-top-clause-refused c place at = no_top c.args.agents.now c.args.tree.now _ c.args.items.now c.loop-item.item-index c.loop-item.place.items c.loop-item.top c.loop-item.invariant c.loop-item-test.false (search rules) place at
