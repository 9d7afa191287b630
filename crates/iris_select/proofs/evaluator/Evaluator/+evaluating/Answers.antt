use Rattle.std.proofs.Common.{◌≡◌, ◌≤◌, ◌<◌, ◌*◌, ◌+◌, ◌||◌, ◌∷◌, ◌++◌, [], ◌∙◌, ap, sym, ℕ, Bool, List, Option, Some, None, Bor, suc, length, slice_get, arith, refl, map, option_map, not, ◌==◌}
use Rattle.std.specs.List.{list_any}
use Rattle.std.proofs.lemmas.Result.{on_ok_weaker, IfOk-weaker}
use Rattle.iris_tree.specs.Universe.{Node}
use Rattle.iris_tree.specs.Document.{whole, part_at_place, places}
use Rattle.std.proofs.Common.{Vec}
use Rattle.iris_select.specs.declared.spot.Edge.{Edge as CodeEdge}
use Rattle.iris_xpath.specs.declared.expression.Expression.{Expression}
use Rattle.iris_xpath.specs.declared.expression.Part.{Part as PathPart}
use Rattle.iris_xpath.specs.declared.expression.Part.TheVariants as parts
use Rattle.iris_xpath.specs.declared.expression.Operand.{Operand}
use Rattle.iris_xpath.specs.declared.expression.Separator.{Separator}
use Rattle.iris_xpath.specs.Syntax.{Condition, condition_of, parent}
use Rattle.iris_xpath.specs.Same.{HaveSame}
use Rattle.iris_xpath.specs.Meaning.{ends, values, holds, compare}
use Rattle.iris_xpath.specs.declared.value.Value.{Value as CodeValue}
use Rattle.iris_xpath.specs.Values.{value_of}
use Rattle.iris_select.specs.Parts.{Child, edge_of, part_of, child_of, children}
use Rattle.iris_xpath.specs.Said.{all_conditions, steps_from, step_on, operand_side}
use Rattle.iris_select.specs.Evaluating.{document_of, place_in, IsBack, ends_of, ends_at, ends_beyond, ends_deeper}
use Rattle.iris_select.proofs.Back.{place_below, stands_still, back_same, below_same, child_stands, left_again}
use Rattle.iris_select.proofs.Ends.{parent_looks, stands_above, step_children, parent_ends, child_gives, some_by_length, texts_same, some_same, compared_same}
use Rattle.iris_select.proofs.Falls.{smaller_first, lower_then, lower_alone}
use Rattle.std.proofs.Common.{subst}
use Rattle.iris_xpath.specs.Looks.{looks_from, extent_of, condition_looks, side_looks, ends_look}
use Rattle.iris_select.specs.declared.evaluator.Evaluator.{Evaluator}
use Rattle.iris_select.specs.Looking.{looks_on}
use Rattle.iris_select.specs.Marks.{HasLooked}
use Rattle.iris_select.proofs.Looked.{looked_as, looked_then, looked_around, left_fewer, left_none, looks_below, one_looks, none_looks, on_children, child_looked}
use Rattle.iris_select.proofs.More.{one_gone, none_gone, all_gone}
use Rattle.iris_select.proofs.Siblings.{child_found}
use Rattle.iris_xpath.proofs.Said.{path_told, compare_told}
use Rattle.iris_xpath.proofs.Weights.{one_weight, weight, weights, side_weight, steps_weight}
use Rattle.iris_select.proofs.Weights.{rank, part_smaller, child_smaller}
use Rattle.iris_select.proofs.Reach.{found_at}
use Rattle.iris_select.proofs.evaluator.Evaluator.+evaluating.Goals as goal
use Rattle.iris_select.proofs.evaluator.Evaluator.+evaluating.Goals.{follow-in-Some-find+in_ok-follow-in-Parent, follow-in_default-find}

pub all_hold-holds-requires : goal.all_hold-holds-requires
all_hold-holds-requires t c = (
  smaller_first (document_of c.args.self.now) (document_of c.loop-predicate.self) _ _ _ t (ap (λ (r : Bor Node). r.now) c.loop-predicate.invariant.back.document) c.decreases
      (one_weight condition_of c.args.predicates.now c.loop-predicate.predicate-index c.predicate-item.result c.loop-predicate-test.true c.predicate-item.is),
  (stands_still _ _ _ c.loop-predicate.invariant.back c.requires.stands),
)

pub tell-holds-requires : goal.tell-holds-requires
tell-holds-requires t c = (
  smaller_first (document_of c.args.self.now) (document_of c.loop-condition.self) _ _ _ t (ap (λ (r : Bor Node). r.now) c.loop-condition.invariant.back.document) c.decreases
      (one_weight condition_of c.args.conditions.now c.loop-condition.condition-index c.condition-item.result c.loop-condition-test.true c.condition-item.is),
  (stands_still _ _ _ c.loop-condition.invariant.back c.requires.stands),
)

pub follow-go-requires : goal.follow-go-requires
follow-go-requires t c =
    let e = c.args.self.now in
    let same : c.args.parts.now ≡ parts.Step c.in-Step.step ∷ c.in-Some.rest.now = c.in-Some.ensures.cases.0 ∙ ap (λ (x : PathPart Expression). x ∷ c.in-Some.rest.now) c.in-Step.is in (
      lower_alone (document_of e) (document_of c.look_for.new.self) _ (2 * length (places (document_of e)) + 2) t (part_of c.args.spot) (ap (λ (r : Bor Node). r.now) c.in_ok-look_for-in-Step.ensures.back.document)
          (ap (λ (ps : List (PathPart Expression)). rank (document_of e) (steps_weight (steps_from ps c.args.attribute.now)) (2 * length (places (document_of e)) + 2)) (sym same) ∙ c.decreases)
          (omega (arith, part_smaller (document_of e) (place_in e) (part_of c.args.spot) c.requires.stands.in_order c.requires.stands.there)),
      stands_still e c.look_for.new.self c.args.spot c.in_ok-look_for-in-Step.ensures.back c.requires.stands,
    )

pub follow-returns-in_ok-enter-in-Parent-clause-value :
    goal.follow-returns-in_ok-enter-in-Parent-clause-value
follow-returns-in_ok-enter-in-Parent-clause-value t c =
    let e = c.args.self.now in
    let above = c.leave.new.self in
    let rest = steps_from c.in-Some.rest.now c.args.attribute.now in
    let place : place_in e ≡ place_in above ++ edge_of c.in-Some-leave.edge ∷ [] = place_below above e c.in-Some-leave.edge c.in-Some-leave.ensures.trail in
    let there : part_at_place (document_of e) (place_in above ++ edge_of c.in-Some-leave.edge ∷ []) ≡ Some (part_of c.args.spot) = ap (part_at_place (document_of e)) (sym place) ∙ c.requires.stands.there in
    let same : c.args.parts.now ≡ parts.Parent ∷ c.in-Some.rest.now = c.in-Some.ensures.cases.0 ∙ ap (λ (x : PathPart Expression). x ∷ c.in-Some.rest.now) c.in-Parent.is in
    λ test.
    let found : list_any test (ends_of c.match-find.found.items) ≡ (list_any test (ends_of c.args.found.now.items) || list_any test (ends (document_of e) rest (place_in above))) =
    elim c.match-find.branch [
      | follow-in-Some-find+in_ok-follow-in-Parent w ↦
          ap (λ (v : Vec (Option (Bor (List ℕ))) _). list_any test (ends_of v.items)) w.found-is ∙ w.in_ok-follow-in-Parent.ensures.value test
          ∙ ap (λ (r : Bor Node). list_any test (ends_of c.args.found.now.items) || list_any test (ends r.now rest (place_in above))) c.in-Some-leave.ensures.document
      | follow-in_default-find w ↦
          absurd (stands_above (document_of e) whole (part_of c.args.spot) (place_in above) (edge_of c.in-Some-leave.edge) there
          (ap (λ (r : Bor Node). part_at_place r.now (place_in above)) (sym c.in-Some-leave.ensures.document) ∙ ap (λ (trail : List CodeEdge). part_at_place (document_of above) (map edge_of trail)) (sym c.deref.ensures.value) ∙ sym w.in_default-find.ensures))
    ] in
    found
    ∙ ap (λ b. list_any test (ends_of c.args.found.now.items) || b)
    (sym (ap (λ (ps : List (PathPart Expression)). list_any test (ends (document_of e) (steps_from ps c.args.attribute.now) (place_in e))) same
    ∙ ap (λ p. list_any test (ends (document_of e) (parent rest) p)) place
    ∙ parent_ends (document_of e) rest (place_in above) (edge_of c.in-Some-leave.edge) test))

pub follow-returns-in_ok-look_for-in-Step-clause-value :
    goal.follow-returns-in_ok-look_for-in-Step-clause-value
follow-returns-in_ok-look_for-in-Step-clause-value t c =
    on_ok_weaker c.go.result (λ h test. h test ∙ ap (λ b. list_any test (ends_of c.args.found.now.items) || b)
    (ap (list_any test) (back_same (λ d p. ends d (step_on c.in-Step.step c.in-Some.rest.now c.args.attribute.now) p) c.args.self.now c.look_for.new.self c.in_ok-look_for-in-Step.ensures.back
    ∙ ap (λ (ps : List (PathPart Expression)). ends (document_of c.args.self.now) (steps_from ps c.args.attribute.now) (place_in c.args.self.now)) (sym (c.in-Some.ensures.cases.0 ∙ ap (λ (x : PathPart Expression). x ∷ c.in-Some.rest.now) c.in-Step.is)))))
    c.go.ensures.value

pub go-arrive-requires : goal.go-arrive-requires
go-arrive-requires t c =
    let e = c.args.self.now in
    let there : slice_get (children (document_of e) (part_of c.args.spot)) c.loop-at.at ≡ Some (child_of c.get-child.result) = ap (λ cs. slice_get cs c.loop-at.at) (sym c.children-children.ensures.value) ∙ c.get-child.ensures in
    let top : c.enter.new.self.top ≡ e.top = c.in_ok-enter.ensures.document ∙ c.loop-at.invariant.back.document in
    let trail : c.enter.new.self.trail.items ≡ e.trail.items ++ c.get-child.result.edge ∷ [] = c.in_ok-enter.ensures.trail ∙ ap (λ xs. xs ++ c.get-child.result.edge ∷ []) c.loop-at.invariant.back.trail in (
      lower_alone (document_of e) (document_of c.enter.new.self) _ _ t (part_of c.get-child.result.spot) (ap (λ (r : Bor Node). r.now) top) c.decreases
          (omega (arith, child_smaller (document_of e) (part_of c.args.spot) c.loop-at.at (child_of c.get-child.result) there)),
      child_stands e c.enter.new.self c.args.spot c.get-child.result c.loop-at.at top trail c.requires.stands c.children-children.ensures.ordered there,
    )

pub go-go_on-requires : goal.go-go_on-requires
go-go_on-requires t c =
    let e = c.args.self.now in
    let there : slice_get (children (document_of e) (part_of c.args.spot)) c.loop-at.at ≡ Some (child_of c.get-child.result) = ap (λ cs. slice_get cs c.loop-at.at) (sym c.children-children.ensures.value) ∙ c.get-child.ensures in
    let top : c.enter.new.self.top ≡ e.top = c.in_ok-enter.ensures.document ∙ c.loop-at.invariant.back.document in
    let trail : c.enter.new.self.trail.items ≡ e.trail.items ++ c.get-child.result.edge ∷ [] = c.in_ok-enter.ensures.trail ∙ ap (λ xs. xs ++ c.get-child.result.edge ∷ []) c.loop-at.invariant.back.trail in (
      lower_then (document_of e) (document_of c.arrive.new.self) _ 1 _ t (part_of c.get-child.result.spot) (ap (λ (r : Bor Node). r.now) (c.in_ok-arrive.ensures.back.document ∙ top)) c.decreases
          (omega (arith, child_smaller (document_of e) (part_of c.args.spot) c.loop-at.at (child_of c.get-child.result) there)),
      stands_still c.enter.new.self c.arrive.new.self c.get-child.result.spot c.in_ok-arrive.ensures.back (child_stands e c.enter.new.self c.args.spot c.get-child.result c.loop-at.at top trail c.requires.stands c.children-children.ensures.ordered there),
    )

pub go-loop-at-preserved : goal.go-loop-at-preserved
go-loop-at-preserved t c =
    let e = c.args.self.now in
    let there : slice_get (children (document_of e) (part_of c.args.spot)) c.loop-at.at ≡ Some (child_of c.get-child.result) = ap (λ cs. slice_get cs c.loop-at.at) (sym c.children-children.ensures.value) ∙ c.get-child.ensures in
    let top : c.enter.new.self.top ≡ e.top = c.in_ok-enter.ensures.document ∙ c.loop-at.invariant.back.document in
    let trail : c.enter.new.self.trail.items ≡ e.trail.items ++ c.get-child.result.edge ∷ [] = c.in_ok-enter.ensures.trail ∙ ap (λ xs. xs ++ c.get-child.result.edge ∷ []) c.loop-at.invariant.back.trail in
    let s = c.args.step.now in
    let place = place_in e ++ edge_of c.get-child.result.edge ∷ [] in
    let back : IsBack c.enter.new.self c.arrive.new.self = c.in_ok-arrive.ensures.back in
    record {
      looks = left_fewer e c.loop-at.self c.leave.new.self (λ looks. looks_below (document_of e) looks s c.args.rest.now c.args.attribute.now place) _ _ _ c.loop-at.invariant.back.document
          (λ looks. one_looks (λ (d : Child). looks_below (document_of e) looks s c.args.rest.now c.args.attribute.now (place_in e ++ d.edge ∷ [])) (children (document_of e) (part_of c.args.spot)) c.loop-at.at (child_of c.get-child.result) there)
          (child_looked e c.loop-at.self c.enter.new.self c.arrive.new.self c.go_on.new.self c.leave.new.self c.get-child.result.edge s c.args.rest.now c.args.attribute.now top trail c.in_ok-enter.ensures.document c.in_ok-enter.ensures.marks back
          c.in_ok-arrive.ensures.looks c.in_ok-go_on.ensures.looks c.leave.ensures.document c.leave.ensures.marks)
          c.loop-at.invariant.looks;
      back = record {
        document = c.leave.ensures.document ∙ c.in_ok-go_on.ensures.back.document ∙ back.document ∙ top;
        trail = left_again c.leave.result e.trail.items _ c.leave.new.self.trail.items c.get-child.result.edge (c.in_ok-go_on.ensures.back.trail ∙ back.trail ∙ trail) c.leave.ensures.trail;
      };
      value = λ test.
          one_gone (λ (d : Child). found_at (document_of e) s.separator s.test (all_conditions s.predicates) (steps_from c.args.rest.now c.args.attribute.now) test (place_in e ++ d.edge ∷ []))
          (children (document_of e) (part_of c.args.spot)) c.loop-at.at (child_of c.get-child.result) test _ _ _ there
          (child_gives (document_of e) s c.args.rest.now c.args.attribute.now place test _ _ _
          (c.in_ok-arrive.ensures.value test ∙ ap (λ b. list_any test (ends_of c.loop-at.found.items) || b)
          (below_same (λ d p. list_any test (ends_at d s c.args.rest.now c.args.attribute.now p)) e c.enter.new.self c.get-child.result.edge top trail))
          (c.in_ok-go_on.ensures.value test ∙ ap (λ b. list_any test (ends_of c.arrive.new.found.items) || b)
          (back_same (λ d p. list_any test (ends_deeper d s c.args.rest.now c.args.attribute.now p)) c.enter.new.self c.arrive.new.self back
          ∙ below_same (λ d p. list_any test (ends_deeper d s c.args.rest.now c.args.attribute.now p)) e c.enter.new.self c.get-child.result.edge top trail)))
          (c.loop-at.invariant.value test);
    }

pub go-returns-clause-value : goal.go-returns-clause-value
go-returns-clause-value t c =
    let e = c.args.self.now in
    let s = c.args.step.now in
    let past : length (children (document_of e) (part_of c.args.spot)) ≤ c.loop-at.at = omega (arith, c.len-at-end.ensures, ap (λ cs. length cs) c.children-children.ensures.value) in
    λ test.
    all_gone (λ (d : Child). found_at (document_of e) s.separator s.test (all_conditions s.predicates) (steps_from c.args.rest.now c.args.attribute.now) test (place_in e ++ d.edge ∷ []))
    (children (document_of e) (part_of c.args.spot)) c.loop-at.at test _ _ past (c.loop-at.invariant.value test)
    ∙ ap (λ b. list_any test (ends_of c.args.found.now.items) || b)
    (sym (step_children (document_of e) s.separator s.test (all_conditions s.predicates) (steps_from c.args.rest.now c.args.attribute.now) (place_in e) (part_of c.args.spot) c.requires.stands.in_order c.children-children.ensures.ordered c.requires.stands.there test))

pub go_on-returns-in-DoubleSlash-clause-value : goal.go_on-returns-in-DoubleSlash-clause-value
go_on-returns-in-DoubleSlash-clause-value t c =
    on_ok_weaker c.go.result (λ h test. h test ∙ ap (λ b. list_any test (ends_of c.args.found.now.items) || b)
    (ap (λ (s : Separator). list_any test (ends_beyond (document_of c.args.self.now) s (step_on c.args.step.now c.args.rest.now c.args.attribute.now) (place_in c.args.self.now))) (sym c.in-DoubleSlash.is)))
    c.go.ensures.value

pub holds-ends-requires : goal.holds-ends-requires
holds-ends-requires t c =
    let said : weight (condition_of c.args.expression.now) ≡ suc (suc (steps_weight (steps_from c.in-Path.path.parts c.in-Path.path.attribute))) = ap weight (ap condition_of c.in-Path.is ∙ path_told c.in-Path.path) in
    (smaller_first (document_of c.args.self.now) (document_of c.args.self.now) _ _ _ t refl c.decreases (omega (arith, said)), c.requires.stands)

pub holds-values-requires : goal.holds-values-requires
holds-values-requires t c =
    let said : weight (condition_of c.args.expression.now) ≡ suc (side_weight (operand_side c.in-Compare.left) + side_weight (operand_side c.in-Compare.right)) = ap weight (ap condition_of c.in-Compare.is ∙ compare_told c.in-Compare.left c.in-Compare.right c.in-Compare.comparison) in
    (smaller_first (document_of c.args.self.now) (document_of c.args.self.now) _ _ _ t refl c.decreases (omega (arith, said)), c.requires.stands)

pub holds-values-requires-in-Compare : goal.holds-values-requires-in-Compare
holds-values-requires-in-Compare t c =
    let said : weight (condition_of c.args.expression.now) ≡ suc (side_weight (operand_side c.in-Compare.left) + side_weight (operand_side c.in-Compare.right)) = ap weight (ap condition_of c.in-Compare.is ∙ compare_told c.in-Compare.left c.in-Compare.right c.in-Compare.comparison) in (
      smaller_first (document_of c.args.self.now) (document_of c.values.new.self) _ _ _ t (ap (λ (r : Bor Node). r.now) c.in_ok-left-in-Compare.ensures.back.document) c.decreases (omega (arith, said)),
      stands_still c.args.self.now c.values.new.self c.args.spot c.in_ok-left-in-Compare.ensures.back c.requires.stands,
    )

pub holds-returns-in_ok-found-in-Path-clause-value :
    goal.holds-returns-in_ok-found-in-Path-clause-value
holds-returns-in_ok-found-in-Path-clause-value t c =
    let e = c.args.self.now in
    let steps = steps_from c.in-Path.path.parts c.in-Path.path.attribute in
    ap not c.is_empty.ensures
    ∙ ap (λ (xs : List (Option (Bor (List ℕ)))). not (length xs == 0)) c.as_slice-in-Path.ensures.value
    ∙ some_by_length (option_map (λ text. text.now)) c.in_ok-found-in-Path.found.items
    ∙ some_same (ends_of c.in_ok-found-in-Path.found.items) (ends (document_of e) steps (place_in e)) c.in_ok-found-in-Path.ensures.value
    ∙ ap (λ (d : Condition). holds (document_of e) d (place_in e)) (sym (ap condition_of c.in-Path.is ∙ path_told c.in-Path.path))

pub holds-returns-in_ok-right-in-Compare-clause-value :
    goal.holds-returns-in_ok-right-in-Compare-clause-value
holds-returns-in_ok-right-in-Compare-clause-value t c =
    let e = c.args.self.now in
    let right : HaveSame (map value_of c.in_ok-right-in-Compare.right.items) (values (document_of e) (operand_side c.in-Compare.right) (place_in e)) = λ test.
    c.in_ok-right-in-Compare.ensures.value test ∙ back_same (λ d p. list_any test (values d (operand_side c.in-Compare.right) p)) e c.values.new.self c.in_ok-left-in-Compare.ensures.back in
    c.some_compare.ensures
    ∙ ap (λ (vs : List CodeValue). list_any (λ u. list_any (compare c.in-Compare.comparison u) (map value_of vs)) (map value_of c.deref.result.now)) c.deref-in-Compare.ensures.value
    ∙ ap (λ (us : List CodeValue). list_any (λ u. list_any (compare c.in-Compare.comparison u) (map value_of c.in_ok-right-in-Compare.right.items)) (map value_of us)) c.deref.ensures.value
    ∙ compared_same (compare c.in-Compare.comparison) _ _ _ _ c.in_ok-left-in-Compare.ensures.value right
    ∙ ap (λ (d : Condition). holds (document_of e) d (place_in e)) (sym (ap condition_of c.in-Compare.is ∙ compare_told c.in-Compare.left c.in-Compare.right c.in-Compare.comparison))

pub values-returns-in_ok-found-in-Path-clause-value : goal.values-returns-in_ok-found-in-Path-clause-value
values-returns-in_ok-found-in-Path-clause-value t c =
    let e = c.args.self.now in
    let steps = steps_from c.in-Path.path.parts c.in-Path.path.attribute in
    IfOk-weaker c.texts.result _ _ (λ all h test.
    ap (list_any test) h
    ∙ texts_same (ends_of c.in_ok-found-in-Path.found.items) (ends (document_of e) steps (place_in e)) c.in_ok-found-in-Path.ensures.value test
    ∙ ap (λ (o : Operand Expression). list_any test (values (document_of e) (operand_side o) (place_in e))) (sym c.in-Path.is))
    c.texts.ensures

-- ---- looks

pub go-returns-clause-looks : goal.go-returns-clause-looks
go-returns-clause-looks t c =
    let e = c.args.self.now in
    let past : length (children (document_of e) (part_of c.args.spot)) ≤ c.loop-at.at = omega (arith, c.len-at-end.ensures, ap (λ cs. length cs) c.children-children.ensures.value) in
    looked_as e c.loop-at.self _ _ (λ looks. sym (on_children (document_of e) looks c.args.step.now c.args.rest.now c.args.attribute.now (place_in e) (part_of c.args.spot) c.requires.stands.in_order c.children-children.ensures.ordered c.requires.stands.there))
    (left_none e c.loop-at.self _ _
    (λ looks. none_looks (λ (d : Child). looks_below (document_of e) looks c.args.step.now c.args.rest.now c.args.attribute.now (place_in e ++ d.edge ∷ [])) (children (document_of e) (part_of c.args.spot)) c.loop-at.at past)
    c.loop-at.invariant.looks)

pub holds-returns-in_ok-found-in-Path-clause-looks : goal.holds-returns-in_ok-found-in-Path-clause-looks
holds-returns-in_ok-found-in-Path-clause-looks t c =
    let e = c.args.self.now in
    looked_as e c.ends.new.self _ _ (λ looks. ap (λ (d : Condition). condition_looks (document_of e) looks d (place_in e)) (sym (ap condition_of c.in-Path.is ∙ path_told c.in-Path.path))) c.in_ok-found-in-Path.ensures.looks

pub holds-returns-in_ok-right-in-Compare-clause-looks : goal.holds-returns-in_ok-right-in-Compare-clause-looks
holds-returns-in_ok-right-in-Compare-clause-looks t c =
    let e = c.args.self.now in
    let back : IsBack e c.values.new.self = c.in_ok-left-in-Compare.ensures.back in
    looked_then e c.values.new.self c.values-in-Compare.new.self (λ looks. side_looks (document_of e) looks (operand_side c.in-Compare.left) (place_in e)) (λ looks. side_looks (document_of e) looks (operand_side c.in-Compare.right) (place_in e)) _ back.document
    (λ looks. ap (λ (d : Condition). condition_looks (document_of e) looks d (place_in e)) (ap condition_of c.in-Compare.is ∙ compare_told c.in-Compare.left c.in-Compare.right c.in-Compare.comparison))
    c.in_ok-left-in-Compare.ensures.looks
    (looked_as c.values.new.self c.values-in-Compare.new.self _ _ (λ looks. back_same (λ d p. side_looks d looks (operand_side c.in-Compare.right) p) e c.values.new.self back) c.in_ok-right-in-Compare.ensures.looks)

pub follow-returns-in_ok-look_for-in-Step-clause-looks : goal.follow-returns-in_ok-look_for-in-Step-clause-looks
follow-returns-in_ok-look_for-in-Step-clause-looks t c =
    let e = c.args.self.now in
    let s = c.in-Step.step in
    let back : IsBack e c.look_for.new.self = c.in_ok-look_for-in-Step.ensures.back in
    let same : c.args.parts.now ≡ parts.Step s ∷ c.in-Some.rest.now = c.in-Some.ensures.cases.0 ∙ ap (λ (x : PathPart Expression). x ∷ c.in-Some.rest.now) c.in-Step.is in
    on_ok_weaker c.go.result (λ h.
    looked_then e c.look_for.new.self c.go.new.self (λ looks. looks_from (document_of e) looks s.separator (extent_of s.test) (place_in e)) (λ looks. looks_on (document_of e) looks s c.in-Some.rest.now c.args.attribute.now (place_in e)) _ back.document
    (λ looks. ap (λ (ps : List (PathPart Expression)). ends_look (document_of e) looks (steps_from ps c.args.attribute.now) (place_in e)) same)
    c.in_ok-look_for-in-Step.ensures.looks
    (looked_as c.look_for.new.self c.go.new.self _ _ (λ looks. back_same (λ d p. looks_on d looks s c.in-Some.rest.now c.args.attribute.now p) e c.look_for.new.self back) h))
    c.go.ensures.looks

pub follow-returns-in_ok-enter-in-Parent-clause-looks : goal.follow-returns-in_ok-enter-in-Parent-clause-looks
follow-returns-in_ok-enter-in-Parent-clause-looks t c =
    let e = c.args.self.now in
    let above = c.leave.new.self in
    let rest = steps_from c.in-Some.rest.now c.args.attribute.now in
    let place : place_in e ≡ place_in above ++ edge_of c.in-Some-leave.edge ∷ [] = place_below above e c.in-Some-leave.edge c.in-Some-leave.ensures.trail in
    let there : part_at_place (document_of e) (place_in above ++ edge_of c.in-Some-leave.edge ∷ []) ≡ Some (part_of c.args.spot) = ap (part_at_place (document_of e)) (sym place) ∙ c.requires.stands.there in
    let same : c.args.parts.now ≡ parts.Parent ∷ c.in-Some.rest.now = c.in-Some.ensures.cases.0 ∙ ap (λ (x : PathPart Expression). x ∷ c.in-Some.rest.now) c.in-Parent.is in
    let found : HasLooked above c.match-find.self (λ looks. ends_look (document_of above) looks rest (place_in above)) =
    elim c.match-find.branch [
      | follow-in-Some-find+in_ok-follow-in-Parent w ↦
          subst (λ (x : Evaluator). HasLooked above x (λ looks. ends_look (document_of above) looks rest (place_in above))) (sym w.self-is) w.in_ok-follow-in-Parent.ensures.looks
      | follow-in_default-find w ↦
          absurd (stands_above (document_of e) whole (part_of c.args.spot) (place_in above) (edge_of c.in-Some-leave.edge) there
          (ap (λ (r : Bor Node). part_at_place r.now (place_in above)) (sym c.in-Some-leave.ensures.document) ∙ ap (λ (trail : List CodeEdge). part_at_place (document_of above) (map edge_of trail)) (sym c.deref.ensures.value) ∙ sym w.in_default-find.ensures))
    ] in
    looked_around e above c.match-find.self c.enter.new.self _ _ c.in-Some-leave.ensures.document c.in-Some-leave.ensures.marks c.in_ok-enter-in-Parent.ensures.document c.in_ok-enter-in-Parent.ensures.marks
    (λ looks. ap (λ (r : Bor Node). ends_look r.now looks rest (place_in above)) c.in-Some-leave.ensures.document
    ∙ sym (ap (λ (ps : List (PathPart Expression)). ends_look (document_of e) looks (steps_from ps c.args.attribute.now) (place_in e)) same
    ∙ ap (λ p. ends_look (document_of e) looks (parent rest) p) place
    ∙ parent_looks (document_of e) looks rest (place_in above) (edge_of c.in-Some-leave.edge))) found
