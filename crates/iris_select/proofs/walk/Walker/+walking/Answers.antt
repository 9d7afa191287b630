use Rattle.std.proofs.Common.{◌≡◌, ◌||◌, ℕ, ◌+◌, ◌*◌, ◌<◌, ◌≤◌, false, ◌++◌, ◌∷◌, [], List, drop, length, refl, sym, ap, ◌∙◌, Bor, Some, slice_get, arith}
use Rattle.std.specs.List.{flat_map}
use Rattle.std.proofs.lemmas.Result.{on_ok_weaker}
use Rattle.iris_tree.specs.Universe.{Node}
use Rattle.iris_tree.specs.Document.{whole, label, part_at_place}
use Rattle.iris_xpath.specs.declared.expression.Expression.{Expression}
use Rattle.iris_xpath.specs.declared.expression.Step.{Step}
use Rattle.iris_select.specs.declared.walk.Selected.{Selected}
use Rattle.iris_select.specs.Evaluating.{document_of, place_in, IsBack}
use Rattle.iris_select.specs.Parts.{child, child_of, children, child_part, edge_of, part_of, place_at}
use Rattle.iris_select.specs.Selected.{Adds}
use Rattle.iris_select.specs.Walking.{main_steps, further, found_at, found_below, found_here, ends_here}
use Rattle.iris_select.proofs.Adding.{adds_nothing, adds_as, adds_there, adds_here, adds_below, same_document, same_place, stands_below, place_entered, lower, visit_adds, one_child_more, below_there, looks_there, looks_here}
use Rattle.iris_select.proofs.Siblings.{child_found, part_snoc}
use Rattle.iris_select.proofs.Stopping.{found_none, found_only, found_by, order_at}
use Rattle.iris_select.proofs.Weights.{child_smaller, edge_smaller}
use Rattle.iris_select.specs.Looking.{path_looks_at, looks_found_at, looks_found_below, looks_found_by}
use Rattle.iris_select.proofs.Looked.{looked_none, looked_as, looked_then, looked_around, left_fewer, one_looks}
use Rattle.iris_select.proofs.PathLooks.{looks_form}
use Rattle.iris_select.proofs.StoppingLooks.{looks_none, looks_only}
use Rattle.iris_select.proofs.walk.Walker.+walking.Goals as goal

pub descend-returns-then-not-some_pending-clause-found : goal.descend-returns-then-not-some_pending-clause-found
descend-returns-then-not-some_pending-clause-found t c =
    let e = c.args.self.now.evaluator in
    let steps = main_steps c.args.self.now.steps.now in
    let all = c.args.self.now.selected.items in
    adds_as (document_of e) all all [] (found_below (document_of e) steps c.args.pending.now (place_in e) (part_of c.args.spot)) (found_none (document_of e) steps c.args.pending.now (place_in e) (part_of c.args.spot) (sym c.if-not-some_pending.ensures)) (adds_nothing (document_of e) all)

pub descend-visit-requires : goal.descend-visit-requires
descend-visit-requires t c =
    let e = c.args.self.now.evaluator in
    let part = part_of c.args.spot in
    let ordered = order_at (document_of e) whole (place_in e) part c.requires.stands.in_order c.requires.stands.there in
    let it = c.in-Some-node_child.child in
    let below : child_part (document_of e) part (label c.in-Some.label) ≡ Some (part_of it.spot) = sym c.in-Some-node_child.ensures.part in (
      omega (arith, c.decreases, edge_smaller (document_of e) part (part_of it.spot) (label c.in-Some.label) ordered below),
      (c.requires.stands.in_order, ap (λ x. part_at_place (document_of e) (place_in e ++ x ∷ [])) c.in-Some-node_child.ensures.edge ∙ part_snoc (document_of e) whole part (place_in e) (label c.in-Some.label) c.requires.stands.there ∙ below),
    )

pub descend-returns-in-Some-node_child-clause-found : goal.descend-returns-in-Some-node_child-clause-found
descend-returns-in-Some-node_child-clause-found t c =
    let e = c.args.self.now.evaluator in
    let steps = main_steps c.args.self.now.steps.now in
    let part = part_of c.args.spot in
    let l = c.in-Some.label in
    let ordered = order_at (document_of e) whole (place_in e) part c.requires.stands.in_order c.requires.stands.there in
    let f = found_at (document_of e) steps c.args.pending.now (place_in e) in
    let it = c.in-Some-node_child.child in
    on_ok_weaker c.visit.result
    (adds_as (document_of e) c.args.self.now.selected.items c.visit.new.self.selected.items (f (child (edge_of it.edge) (part_of it.spot))) (found_below (document_of e) steps c.args.pending.now (place_in e) part)
    (ap (λ x. f (child x (part_of it.spot))) c.in-Some-node_child.ensures.edge ∙ sym (found_only (document_of e) steps c.args.pending.now (place_in e) part l ordered c.in-Some.ensures.steps ∙ ap (found_by f l) (sym c.in-Some-node_child.ensures.part))))
    c.visit.ensures.found

pub descend-returns-in-None-clause-found : goal.descend-returns-in-None-clause-found
descend-returns-in-None-clause-found t c =
    let e = c.args.self.now.evaluator in
    let steps = main_steps c.args.self.now.steps.now in
    let part = part_of c.args.spot in
    let l = c.in-Some.label in
    let all = c.args.self.now.selected.items in
    let ordered = order_at (document_of e) whole (place_in e) part c.requires.stands.in_order c.requires.stands.there in
    let f = found_at (document_of e) steps c.args.pending.now (place_in e) in
    adds_as (document_of e) all all [] (found_below (document_of e) steps c.args.pending.now (place_in e) part)
    (sym (found_only (document_of e) steps c.args.pending.now (place_in e) part l ordered c.in-Some.ensures.steps ∙ ap (found_by f l) (sym c.in-None.ensures.part))) (adds_nothing (document_of e) all)

pub descend-visit-requires-in-loop-at : goal.descend-visit-requires-in-loop-at
descend-visit-requires-in-loop-at t c =
    let e = c.args.self.now.evaluator in
    let now = c.loop-at.self.evaluator in
    let part = part_of c.args.spot in
    let back = c.loop-at.invariant.back in
    let it : slice_get (children (document_of e) part) c.loop-at.at ≡ Some (child_of c.get-child.result) = ap (λ cs. slice_get cs c.loop-at.at) (sym c.children-children.ensures.value) ∙ c.get-child.ensures in
    let below = child_found (document_of e) part c.loop-at.at (child_of c.get-child.result) c.children-children.ensures.ordered it in (
      lower (document_of now) (document_of e) part (part_of c.get-child.result.spot) t (same_document e now back) (child_smaller (document_of e) part c.loop-at.at (child_of c.get-child.result) it) c.decreases,
      stands_below e now part (part_of c.get-child.result.spot) (edge_of c.get-child.result.edge) back c.requires.stands.in_order c.requires.stands.there below,
    )

pub descend-loop-at-preserved : goal.descend-loop-at-preserved
descend-loop-at-preserved t c =
    let e = c.args.self.now.evaluator in
    let now = c.loop-at.self.evaluator in
    let part = part_of c.args.spot in
    let steps = main_steps c.args.self.now.steps.now in
    let back = c.loop-at.invariant.back in
    let it : slice_get (children (document_of e) part) c.loop-at.at ≡ Some (child_of c.get-child.result) = ap (λ cs. slice_get cs c.loop-at.at) (sym c.children-children.ensures.value) ∙ c.get-child.ensures in
    let visited = adds_there (document_of now) (document_of e) (main_steps c.loop-at.self.steps.now) steps (place_in now) (place_in e) c.loop-at.self.selected.items c.visit-in-loop-at.new.self.selected.items c.args.pending.now (child_of c.get-child.result)
    (same_document e now back) (ap (λ (s : Bor (List (Step Expression))). main_steps s.now) c.loop-at.invariant.steps) (same_place e now back) c.in_ok-visit.ensures.found in
    record {
      steps = c.in_ok-visit.ensures.steps ∙ c.loop-at.invariant.steps;
      back = record { document = c.in_ok-visit.ensures.back.document ∙ back.document; trail = c.in_ok-visit.ensures.back.trail ∙ back.trail };
      looks = left_fewer e now c.visit-in-loop-at.new.self.evaluator (λ looks. looks_found_at (document_of e) looks steps c.args.pending.now (place_in e) (child_of c.get-child.result)) _ _ _ back.document
          (λ looks. one_looks (looks_found_at (document_of e) looks steps c.args.pending.now (place_in e)) (children (document_of e) part) c.loop-at.at (child_of c.get-child.result) it)
          (looked_as now c.visit-in-loop-at.new.self.evaluator _ _ (λ looks. looks_there (document_of now) (document_of e) (main_steps c.loop-at.self.steps.now) steps (place_in now) (place_in e) c.args.pending.now (child_of c.get-child.result) looks
          (same_document e now back) (ap (λ (s : Bor (List (Step Expression))). main_steps s.now) c.loop-at.invariant.steps) (same_place e now back)) c.in_ok-visit.ensures.looks)
          c.loop-at.invariant.looks;
      found = λ new more. c.loop-at.invariant.found new
          (one_child_more (document_of e) steps c.args.pending.now (place_in e) (children (document_of e) part) c.loop-at.at (child_of c.get-child.result) c.loop-at.self.selected.items c.visit-in-loop-at.new.self.selected.items new it visited more);
    }

pub visit-returns-clause-found : goal.visit-returns-clause-found
visit-returns-clause-found t c =
    let old = c.args.self.now.evaluator in
    let entered = c.enter.new.self in
    let taken = c.take.new.self.evaluator in
    let steps = main_steps c.args.self.now.steps.now in
    let it = child (edge_of c.args.edge) (part_of c.args.spot) in
    let place : place_in entered ≡ place_in old ++ edge_of c.args.edge ∷ [] = place_entered old.trail.items entered.trail.items c.args.edge c.in_ok-enter.ensures.trail in
    let document : document_of entered ≡ document_of old = ap (λ (r : Bor Node). r.now) c.in_ok-enter.ensures.document in
    let back = c.in_ok-further.ensures.back in
    let more : c.deref.result.now ≡ further (document_of old) (place_in old ++ edge_of c.args.edge ∷ []) false steps c.args.pending.now =
    c.deref.ensures.value ∙ c.in_ok-further.ensures.further ∙ ap (λ (d : Node). further d (place_in entered) false steps c.args.pending.now) document ∙ ap (λ p. further (document_of old) p false steps c.args.pending.now) place in
    visit_adds (document_of old) steps c.args.pending.now (place_in old) it c.args.self.now.selected.items c.take.new.self.selected.items c.descend.new.self.selected.items
    (adds_here (document_of entered) (document_of old) steps false (place_in entered) (place_in old ++ edge_of c.args.edge ∷ []) c.args.self.now.selected.items c.take.new.self.selected.items c.args.pending.now c.args.pending.now document place refl c.in_ok-further.ensures.found)
    (adds_below (document_of taken) (document_of old) (main_steps c.take.new.self.steps.now) steps (place_in taken) (place_in old ++ edge_of c.args.edge ∷ []) c.take.new.self.selected.items c.descend.new.self.selected.items c.deref.result.now
    (further (document_of old) (place_in old ++ edge_of c.args.edge ∷ []) false steps c.args.pending.now) (part_of c.args.spot)
    (same_document entered taken back ∙ document) (ap (λ (s : Bor (List (Step Expression))). main_steps s.now) c.in_ok-further.ensures.steps) (same_place entered taken back ∙ place) more c.in_ok-descend.ensures.found)

pub descend-returns-then-not-some_pending-clause-looks : goal.descend-returns-then-not-some_pending-clause-looks
descend-returns-then-not-some_pending-clause-looks t c =
    let e = c.args.self.now.evaluator in
    looked_none e e _ refl refl (λ looks. looks_none (document_of e) looks (main_steps c.args.self.now.steps.now) c.args.pending.now (place_in e) (part_of c.args.spot) (sym c.if-not-some_pending.ensures))

pub descend-returns-in-None-clause-looks : goal.descend-returns-in-None-clause-looks
descend-returns-in-None-clause-looks t c =
    let e = c.args.self.now.evaluator in
    let steps = main_steps c.args.self.now.steps.now in
    let part = part_of c.args.spot in
    let l = c.in-Some.label in
    let ordered = order_at (document_of e) whole (place_in e) part c.requires.stands.in_order c.requires.stands.there in
    looked_none e e _ refl refl
    (λ looks. looks_only (document_of e) looks steps c.args.pending.now (place_in e) part l ordered c.in-Some.ensures.steps c.in-Some.ensures.looks ∙ ap (looks_found_by (document_of e) looks steps c.args.pending.now (place_in e) l) (sym c.in-None.ensures.part))

pub descend-returns-in-Some-node_child-clause-looks : goal.descend-returns-in-Some-node_child-clause-looks
descend-returns-in-Some-node_child-clause-looks t c =
    let e = c.args.self.now.evaluator in
    let steps = main_steps c.args.self.now.steps.now in
    let part = part_of c.args.spot in
    let l = c.in-Some.label in
    let ordered = order_at (document_of e) whole (place_in e) part c.requires.stands.in_order c.requires.stands.there in
    on_ok_weaker c.visit.result
    (looked_as e c.visit.new.self.evaluator _ _
    (λ looks. ap (λ x. looks_found_at (document_of e) looks steps c.args.pending.now (place_in e) (child x (part_of c.in-Some-node_child.child.spot))) c.in-Some-node_child.ensures.edge
    ∙ sym (looks_only (document_of e) looks steps c.args.pending.now (place_in e) part l ordered c.in-Some.ensures.steps c.in-Some.ensures.looks ∙ ap (looks_found_by (document_of e) looks steps c.args.pending.now (place_in e) l) (sym c.in-Some-node_child.ensures.part))))
    c.visit.ensures.looks

pub visit-returns-clause-looks : goal.visit-returns-clause-looks
visit-returns-clause-looks t c =
    let old = c.args.self.now.evaluator in
    let entered = c.enter.new.self in
    let taken = c.take.new.self.evaluator in
    let steps = main_steps c.args.self.now.steps.now in
    let part = part_of c.args.spot in
    let at = place_in old ++ edge_of c.args.edge ∷ [] in
    let more = further (document_of old) at false steps c.args.pending.now in
    let place : place_in entered ≡ at = place_entered old.trail.items entered.trail.items c.args.edge c.in_ok-enter.ensures.trail in
    let document : document_of entered ≡ document_of old = ap (λ (r : Bor Node). r.now) c.in_ok-enter.ensures.document in
    let back = c.in_ok-further.ensures.back in
    let is_more : c.deref.result.now ≡ more =
    c.deref.ensures.value ∙ c.in_ok-further.ensures.further ∙ ap (λ (d : Node). further d (place_in entered) false steps c.args.pending.now) document ∙ ap (λ p. further (document_of old) p false steps c.args.pending.now) place in
    looked_around old entered c.descend.new.self.evaluator c.leave.new.self _ _ c.in_ok-enter.ensures.document c.in_ok-enter.ensures.marks c.leave.ensures.document c.leave.ensures.marks
    (λ looks. sym (looks_form (document_of old) looks steps more (path_looks_at (document_of old) looks at false steps c.args.pending.now) at part))
    (looked_then entered taken c.descend.new.self.evaluator (λ looks. path_looks_at (document_of entered) looks (place_in entered) false steps c.args.pending.now)
    (λ looks. looks_found_below (document_of taken) looks (main_steps c.take.new.self.steps.now) c.deref.result.now (place_in taken) part)
    (λ looks. path_looks_at (document_of old) looks at false steps c.args.pending.now || looks_found_below (document_of old) looks steps more at part) back.document
    (λ looks. sym (ap (λ b. b || looks_found_below (document_of taken) looks (main_steps c.take.new.self.steps.now) c.deref.result.now (place_in taken) part)
    (looks_here (document_of entered) (document_of old) steps steps (place_in entered) at false c.args.pending.now c.args.pending.now looks document refl place refl)
    ∙ ap (λ b. path_looks_at (document_of old) looks at false steps c.args.pending.now || b)
    (below_there (document_of taken) (document_of old) (main_steps c.take.new.self.steps.now) steps (place_in taken) at c.deref.result.now more part looks
    (same_document entered taken back ∙ document) (ap (λ (s : Bor (List (Step Expression))). main_steps s.now) c.in_ok-further.ensures.steps) (same_place entered taken back ∙ place) is_more)))
    c.in_ok-further.ensures.looks c.in_ok-descend.ensures.looks)
