use Rattle.std.proofs.Common.{◌≡◌, ◌==◌, length, ◌∙◌, ◌+◌, ◌∷◌, [], ℕ, List, Option, Some, None, option_map, vec_items, not, true, false, suc, sym, ap, refl, subst, rules, arith, ◌≤◌, ◌&&◌, Bool, map}
use Rattle.std.proofs.lemmas.Result.{on_ok_weaker, IfOk-weaker}
use Rattle.iris_base.specs.declared.name.Label.{Label}
use Rattle.iris_xpath.specs.declared.expression.Expression.{Expression}
use Rattle.iris_xpath.specs.declared.expression.Part.{Part}
use Rattle.iris_xpath.specs.Syntax.{condition_of, values_of, not_so, selects, compares, main_of}
use Rattle.iris_xpath.specs.Said.{all_conditions, operand_side, steps_from}
use Rattle.iris_xpath.proofs.Said.{not_told, path_told, compare_told}
use Rattle.iris_xpath.proofs.Weights.{weight, side_weight, steps_weight}
use Rattle.iris_need.specs.declared.spot.Spot.{Spot as CodeSpot}
use Rattle.iris_need.specs.Program.{Spot, all_hold, spots_above, above_name, gather, element_spot, step_elements, passes_label, Marks, goes, tested_at}
use Rattle.iris_need.specs.Walk.{spot_in, marks_of, given, path_of, trail_ends, FindsEnds, look_added, ids_at, full_at, paths_of, Finding, HasFound, step_in, further_program, reached, node_reached, child_reached, elements_reached, ends_after}
use Rattle.iris_need.proofs.Collected.{empty_is, one_more, all_done}
use Rattle.iris_need.proofs.Evaluated.{all_none, all_undecided, all_false, all_true, any_none, any_first, each_none, each_first, holds_not, holds_path, holds_compare, side_looks, side_path, side_literal, side_number, above_pushed, above_is, none_above, always_ok, some_by_length}
use Rattle.iris_need.proofs.Walked.{adding, no_ends, found_none, found_untold, found_join, found_begin, found_more, found_end}
use Rattle.iris_base.specs.declared.state.State.{State}
use Rattle.iris_fragment.specs.declared.piece.Level.TheVariants.{Ids, Full}
use Rattle.iris_xpath.specs.declared.expression.Step.{Step}
use Rattle.iris_xpath.specs.declared.expression.NameTest.TheVariants.{Kind}
use Rattle.iris_need.specs.declared.need.Need.{Need}
use Rattle.iris_need.specs.Run.{Run}
use Rattle.iris_need.proofs.Ranks.{few_levels}
use Rattle.iris_need.proofs.Reached.{child_done, child_found, kind_unknown, kind_known, other_unknown, other_known, elements_are, document_is, no_kind, deeper_none, deeper_slash, label_other, where_none, where_false, where_true, where_stops, where_goes}
use Rattle.iris_need.specs.declared.further.Further.{Further}
use Rattle.iris_need.proofs.walk.Walk.+evaluating.Goals as goal
use Rattle.iris_base.specs.declared.state.State.TheVariants as states

pub all_hold-returns-in_default-clause-adds : goal.all_hold-returns-in_default-clause-adds
all_hold-returns-in_default-clause-adds t c = (all_none c.args.self.now (marks_of c.args.marks.now) (spot_in c.args.name.now c.args.spot.now) c.args.needs.now c.args.predicates.now (empty_is c.args.predicates.now c.in_default.ensures.cases)).0

pub all_hold-returns-in_default-clause-gives : goal.all_hold-returns-in_default-clause-gives
all_hold-returns-in_default-clause-gives t c = (all_none c.args.self.now (marks_of c.args.marks.now) (spot_in c.args.name.now c.args.spot.now) c.args.needs.now c.args.predicates.now (empty_is c.args.predicates.now c.in_default.ensures.cases)).1

pub any_holds-returns-in_default-clause-adds : goal.any_holds-returns-in_default-clause-adds
any_holds-returns-in_default-clause-adds t c = (any_none c.args.self.now (marks_of c.args.marks.now) (spot_in c.args.name.now c.args.spot.now) c.args.needs.now c.args.conditions.now (empty_is c.args.conditions.now c.in_default.ensures.cases)).0

pub any_holds-returns-in_default-clause-gives : goal.any_holds-returns-in_default-clause-gives
any_holds-returns-in_default-clause-gives t c = (any_none c.args.self.now (marks_of c.args.marks.now) (spot_in c.args.name.now c.args.spot.now) c.args.needs.now c.args.conditions.now (empty_is c.args.conditions.now c.in_default.ensures.cases)).1

pub each_holds-returns-in_default-clause-adds : goal.each_holds-returns-in_default-clause-adds
each_holds-returns-in_default-clause-adds t c = (each_none c.args.self.now (marks_of c.args.marks.now) (spot_in c.args.name.now c.args.spot.now) c.args.needs.now c.args.conditions.now (empty_is c.args.conditions.now c.in_default.ensures.cases)).0

pub each_holds-returns-in_default-clause-gives : goal.each_holds-returns-in_default-clause-gives
each_holds-returns-in_default-clause-gives t c = (each_none c.args.self.now (marks_of c.args.marks.now) (spot_in c.args.name.now c.args.spot.now) c.args.needs.now c.args.conditions.now (empty_is c.args.conditions.now c.in_default.ensures.cases)).1

pub any_holds-returns-clause-adds : goal.any_holds-returns-clause-adds
any_holds-returns-clause-adds t c =
    let cut : c.args.conditions.now ≡ c.in-Some.first.now ∷ c.in-Some.rest.now = search rules in
    let at : spot_in c.holds.new.name c.args.spot.now ≡ spot_in c.args.name.now c.args.spot.now = ap (λ (n : List Label). spot_in n c.args.spot.now) c.in_ok-here.ensures.name in
    (any_first c.args.self.now (marks_of c.args.marks.now) (spot_in c.args.name.now c.args.spot.now) c.args.needs.now c.holds.new.needs c.any_holds.new.needs c.args.conditions.now c.in-Some.rest.now c.in-Some.first.now _ _ _ _ cut at
    (c.in_ok-here.ensures.adds, c.in_ok-here.ensures.gives) (c.in_ok-further.ensures.adds, c.in_ok-further.ensures.gives) c.either.ensures).0

pub any_holds-returns-clause-gives : goal.any_holds-returns-clause-gives
any_holds-returns-clause-gives t c =
    let cut : c.args.conditions.now ≡ c.in-Some.first.now ∷ c.in-Some.rest.now = search rules in
    let at : spot_in c.holds.new.name c.args.spot.now ≡ spot_in c.args.name.now c.args.spot.now = ap (λ (n : List Label). spot_in n c.args.spot.now) c.in_ok-here.ensures.name in
    (any_first c.args.self.now (marks_of c.args.marks.now) (spot_in c.args.name.now c.args.spot.now) c.args.needs.now c.holds.new.needs c.any_holds.new.needs c.args.conditions.now c.in-Some.rest.now c.in-Some.first.now _ _ _ _ cut at
    (c.in_ok-here.ensures.adds, c.in_ok-here.ensures.gives) (c.in_ok-further.ensures.adds, c.in_ok-further.ensures.gives) c.either.ensures).1

pub each_holds-returns-clause-adds : goal.each_holds-returns-clause-adds
each_holds-returns-clause-adds t c =
    let cut : c.args.conditions.now ≡ c.in-Some.first.now ∷ c.in-Some.rest.now = search rules in
    let at : spot_in c.holds.new.name c.args.spot.now ≡ spot_in c.args.name.now c.args.spot.now = ap (λ (n : List Label). spot_in n c.args.spot.now) c.in_ok-here.ensures.name in
    (each_first c.args.self.now (marks_of c.args.marks.now) (spot_in c.args.name.now c.args.spot.now) c.args.needs.now c.holds.new.needs c.each_holds.new.needs c.args.conditions.now c.in-Some.rest.now c.in-Some.first.now _ _ _ _ cut at
    (c.in_ok-here.ensures.adds, c.in_ok-here.ensures.gives) (c.in_ok-further.ensures.adds, c.in_ok-further.ensures.gives) c.both.ensures).0

pub each_holds-returns-clause-gives : goal.each_holds-returns-clause-gives
each_holds-returns-clause-gives t c =
    let cut : c.args.conditions.now ≡ c.in-Some.first.now ∷ c.in-Some.rest.now = search rules in
    let at : spot_in c.holds.new.name c.args.spot.now ≡ spot_in c.args.name.now c.args.spot.now = ap (λ (n : List Label). spot_in n c.args.spot.now) c.in_ok-here.ensures.name in
    (each_first c.args.self.now (marks_of c.args.marks.now) (spot_in c.args.name.now c.args.spot.now) c.args.needs.now c.holds.new.needs c.each_holds.new.needs c.args.conditions.now c.in-Some.rest.now c.in-Some.first.now _ _ _ _ cut at
    (c.in_ok-here.ensures.adds, c.in_ok-here.ensures.gives) (c.in_ok-further.ensures.adds, c.in_ok-further.ensures.gives) c.both.ensures).1

pub all_hold-returns-in-Some-true-clause-adds : goal.all_hold-returns-in-Some-true-clause-adds
all_hold-returns-in-Some-true-clause-adds t c =
    let cut : c.args.predicates.now ≡ c.in-Some.first.now ∷ c.in-Some.rest.now = search rules in
    let at : spot_in c.holds.new.name c.args.spot.now ≡ spot_in c.args.name.now c.args.spot.now = ap (λ (n : List Label). spot_in n c.args.spot.now) c.in_ok-holds.ensures.name in
    let told = sym (c.in-Some-true.is ∙ ap Some c.in-Some-true.field-0-test) ∙ c.in_ok-holds.ensures.gives in
    on_ok_weaker c.all_hold.result (λ h. h ∙ (all_true c.args.self.now (marks_of c.args.marks.now) (spot_in c.args.name.now c.args.spot.now) c.args.needs.now c.holds.new.needs c.args.predicates.now c.in-Some.rest.now c.in-Some.first.now _ cut at (c.in_ok-holds.ensures.adds, told)).0) c.all_hold.ensures.adds

pub all_hold-returns-in-Some-true-clause-gives : goal.all_hold-returns-in-Some-true-clause-gives
all_hold-returns-in-Some-true-clause-gives t c =
    let cut : c.args.predicates.now ≡ c.in-Some.first.now ∷ c.in-Some.rest.now = search rules in
    let at : spot_in c.holds.new.name c.args.spot.now ≡ spot_in c.args.name.now c.args.spot.now = ap (λ (n : List Label). spot_in n c.args.spot.now) c.in_ok-holds.ensures.name in
    let told = sym (c.in-Some-true.is ∙ ap Some c.in-Some-true.field-0-test) ∙ c.in_ok-holds.ensures.gives in
    IfOk-weaker c.all_hold.result _ _ (λ v e. e ∙ (all_true c.args.self.now (marks_of c.args.marks.now) (spot_in c.args.name.now c.args.spot.now) c.args.needs.now c.holds.new.needs c.args.predicates.now c.in-Some.rest.now c.in-Some.first.now _ cut at (c.in_ok-holds.ensures.adds, told)).1) c.all_hold.ensures.gives

pub all_hold-returns-in-Some-false-clause-adds : goal.all_hold-returns-in-Some-false-clause-adds
all_hold-returns-in-Some-false-clause-adds t c =
    let cut : c.args.predicates.now ≡ c.in-Some.first.now ∷ c.in-Some.rest.now = search rules in
    (all_false c.args.self.now (marks_of c.args.marks.now) (spot_in c.args.name.now c.args.spot.now) c.args.needs.now c.holds.new.needs c.args.predicates.now c.in-Some.rest.now c.in-Some.first.now cut (c.in_ok-holds.ensures.adds, sym (c.in-Some-false.is ∙ ap Some c.in-Some-false.field-0-test) ∙ c.in_ok-holds.ensures.gives)).0

pub all_hold-returns-in-Some-false-clause-gives : goal.all_hold-returns-in-Some-false-clause-gives
all_hold-returns-in-Some-false-clause-gives t c =
    let cut : c.args.predicates.now ≡ c.in-Some.first.now ∷ c.in-Some.rest.now = search rules in
    (all_false c.args.self.now (marks_of c.args.marks.now) (spot_in c.args.name.now c.args.spot.now) c.args.needs.now c.holds.new.needs c.args.predicates.now c.in-Some.rest.now c.in-Some.first.now cut (c.in_ok-holds.ensures.adds, sym (c.in-Some-false.is ∙ ap Some c.in-Some-false.field-0-test) ∙ c.in_ok-holds.ensures.gives)).1

pub all_hold-returns-in-None-clause-adds : goal.all_hold-returns-in-None-clause-adds
all_hold-returns-in-None-clause-adds t c =
    let cut : c.args.predicates.now ≡ c.in-Some.first.now ∷ c.in-Some.rest.now = search rules in
    (all_undecided c.args.self.now (marks_of c.args.marks.now) (spot_in c.args.name.now c.args.spot.now) c.args.needs.now c.holds.new.needs c.args.predicates.now c.in-Some.rest.now c.in-Some.first.now cut (c.in_ok-holds.ensures.adds, sym c.in-None.is ∙ c.in_ok-holds.ensures.gives)).0

pub all_hold-returns-in-None-clause-gives : goal.all_hold-returns-in-None-clause-gives
all_hold-returns-in-None-clause-gives t c =
    let cut : c.args.predicates.now ≡ c.in-Some.first.now ∷ c.in-Some.rest.now = search rules in
    (all_undecided c.args.self.now (marks_of c.args.marks.now) (spot_in c.args.name.now c.args.spot.now) c.args.needs.now c.holds.new.needs c.args.predicates.now c.in-Some.rest.now c.in-Some.first.now cut (c.in_ok-holds.ensures.adds, sym c.in-None.is ∙ c.in_ok-holds.ensures.gives)).1

pub holds-ends-requires : goal.holds-ends-requires
holds-ends-requires t c =
    let said : weight (condition_of c.args.expression.now) ≡ suc (suc (steps_weight (steps_from c.in-Path.path.parts c.in-Path.path.attribute))) = ap weight (ap condition_of c.in-Path.is ∙ path_told c.in-Path.path) in
    let cut : steps_weight (steps_from c.as_slice-in-Path.result.now c.in-Path.path.attribute) ≡ steps_weight (steps_from c.in-Path.path.parts c.in-Path.path.attribute) = ap (λ (ps : List (Part Expression)). steps_weight (steps_from ps c.in-Path.path.attribute)) c.as_slice-in-Path.ensures in
    (omega (arith, c.decreases, said, cut), tt)

pub holds-side-requires : goal.holds-side-requires
holds-side-requires t c =
    let said : weight (condition_of c.args.expression.now) ≡ suc (side_weight (operand_side c.in-Compare.left) + side_weight (operand_side c.in-Compare.right)) = ap weight (ap condition_of c.in-Compare.is ∙ compare_told c.in-Compare.left c.in-Compare.right c.in-Compare.comparison) in
    (omega (arith, c.decreases, said), tt)

pub holds-side-requires-in-Compare : goal.holds-side-requires-in-Compare
holds-side-requires-in-Compare t c =
    let said : weight (condition_of c.args.expression.now) ≡ suc (side_weight (operand_side c.in-Compare.left) + side_weight (operand_side c.in-Compare.right)) = ap weight (ap condition_of c.in-Compare.is ∙ compare_told c.in-Compare.left c.in-Compare.right c.in-Compare.comparison) in
    (omega (arith, c.decreases, said), tt)

pub holds-returns-in-Some-clause-adds : goal.holds-returns-in-Some-clause-adds
holds-returns-in-Some-clause-adds t c =
    let said : condition_of c.args.expression.now ≡ not_so (condition_of c.get.result.now) = ap condition_of c.in-Not.is ∙ not_told c.in-Not.condition ∙ ap (λ (e : Expression). not_so (condition_of e)) (sym c.get.ensures) in
    (holds_not c.args.self.now (marks_of c.args.marks.now) (spot_in c.args.name.now c.args.spot.now) c.args.needs.now c.holds.new.needs (condition_of c.args.expression.now) (condition_of c.get.result.now) (Some c.in-Some.holds) said (c.in_ok-holds-in-Not.ensures.adds, sym c.in-Some.is ∙ c.in_ok-holds-in-Not.ensures.gives)).0

pub holds-returns-in-Some-clause-gives : goal.holds-returns-in-Some-clause-gives
holds-returns-in-Some-clause-gives t c =
    let said : condition_of c.args.expression.now ≡ not_so (condition_of c.get.result.now) = ap condition_of c.in-Not.is ∙ not_told c.in-Not.condition ∙ ap (λ (e : Expression). not_so (condition_of e)) (sym c.get.ensures) in
    (holds_not c.args.self.now (marks_of c.args.marks.now) (spot_in c.args.name.now c.args.spot.now) c.args.needs.now c.holds.new.needs (condition_of c.args.expression.now) (condition_of c.get.result.now) (Some c.in-Some.holds) said (c.in_ok-holds-in-Not.ensures.adds, sym c.in-Some.is ∙ c.in_ok-holds-in-Not.ensures.gives)).1

pub holds-returns-in-None-clause-adds : goal.holds-returns-in-None-clause-adds
holds-returns-in-None-clause-adds t c =
    let said : condition_of c.args.expression.now ≡ not_so (condition_of c.get.result.now) = ap condition_of c.in-Not.is ∙ not_told c.in-Not.condition ∙ ap (λ (e : Expression). not_so (condition_of e)) (sym c.get.ensures) in
    (holds_not c.args.self.now (marks_of c.args.marks.now) (spot_in c.args.name.now c.args.spot.now) c.args.needs.now c.holds.new.needs (condition_of c.args.expression.now) (condition_of c.get.result.now) None said (c.in_ok-holds-in-Not.ensures.adds, sym c.in-None.is ∙ c.in_ok-holds-in-Not.ensures.gives)).0

pub holds-returns-in-None-clause-gives : goal.holds-returns-in-None-clause-gives
holds-returns-in-None-clause-gives t c =
    let said : condition_of c.args.expression.now ≡ not_so (condition_of c.get.result.now) = ap condition_of c.in-Not.is ∙ not_told c.in-Not.condition ∙ ap (λ (e : Expression). not_so (condition_of e)) (sym c.get.ensures) in
    (holds_not c.args.self.now (marks_of c.args.marks.now) (spot_in c.args.name.now c.args.spot.now) c.args.needs.now c.holds.new.needs (condition_of c.args.expression.now) (condition_of c.get.result.now) None said (c.in_ok-holds-in-Not.ensures.adds, sym c.in-None.is ∙ c.in_ok-holds-in-Not.ensures.gives)).1

pub holds-returns-in-Some-2-clause-adds : goal.holds-returns-in-Some-2-clause-adds
holds-returns-in-Some-2-clause-adds t c =
    let steps = steps_from c.as_slice-in-Path.result.now c.in-Path.path.attribute in
    let said : condition_of c.args.expression.now ≡ selects steps = ap condition_of c.in-Path.is ∙ path_told c.in-Path.path ∙ ap (λ (ps : List (Part Expression)). selects (steps_from ps c.in-Path.path.attribute)) (sym c.as_slice-in-Path.ensures) in
    (holds_path c.args.self.now (marks_of c.args.marks.now) (spot_in c.args.name.now c.args.spot.now) c.args.needs.now c.ends.new.needs (condition_of c.args.expression.now) steps (Some c.in-Some-2.ends.items) said (c.in_ok-ends-in-Path.ensures.adds, sym (ap (option_map vec_items) c.in-Some-2.is) ∙ c.in_ok-ends-in-Path.ensures.gives)).0

pub holds-returns-in-Some-2-clause-gives : goal.holds-returns-in-Some-2-clause-gives
holds-returns-in-Some-2-clause-gives t c =
    let steps = steps_from c.as_slice-in-Path.result.now c.in-Path.path.attribute in
    let said : condition_of c.args.expression.now ≡ selects steps = ap condition_of c.in-Path.is ∙ path_told c.in-Path.path ∙ ap (λ (ps : List (Part Expression)). selects (steps_from ps c.in-Path.path.attribute)) (sym c.as_slice-in-Path.ensures) in
    ap Some (ap not c.is_empty.ensures ∙ ap (λ (xs : List (Option (List ℕ))). not (length xs == 0)) c.as_slice-in-Some-2.ensures.value ∙ some_by_length c.in-Some-2.ends.items)
    ∙ (holds_path c.args.self.now (marks_of c.args.marks.now) (spot_in c.args.name.now c.args.spot.now) c.args.needs.now c.ends.new.needs (condition_of c.args.expression.now) steps (Some c.in-Some-2.ends.items) said (c.in_ok-ends-in-Path.ensures.adds, sym (ap (option_map vec_items) c.in-Some-2.is) ∙ c.in_ok-ends-in-Path.ensures.gives)).1

pub holds-returns-in-None-2-clause-adds : goal.holds-returns-in-None-2-clause-adds
holds-returns-in-None-2-clause-adds t c =
    let steps = steps_from c.as_slice-in-Path.result.now c.in-Path.path.attribute in
    let said : condition_of c.args.expression.now ≡ selects steps = ap condition_of c.in-Path.is ∙ path_told c.in-Path.path ∙ ap (λ (ps : List (Part Expression)). selects (steps_from ps c.in-Path.path.attribute)) (sym c.as_slice-in-Path.ensures) in
    (holds_path c.args.self.now (marks_of c.args.marks.now) (spot_in c.args.name.now c.args.spot.now) c.args.needs.now c.ends.new.needs (condition_of c.args.expression.now) steps None said (c.in_ok-ends-in-Path.ensures.adds, sym (ap (option_map vec_items) c.in-None-2.is) ∙ c.in_ok-ends-in-Path.ensures.gives)).0

pub holds-returns-in-None-2-clause-gives : goal.holds-returns-in-None-2-clause-gives
holds-returns-in-None-2-clause-gives t c =
    let steps = steps_from c.as_slice-in-Path.result.now c.in-Path.path.attribute in
    let said : condition_of c.args.expression.now ≡ selects steps = ap condition_of c.in-Path.is ∙ path_told c.in-Path.path ∙ ap (λ (ps : List (Part Expression)). selects (steps_from ps c.in-Path.path.attribute)) (sym c.as_slice-in-Path.ensures) in
    (holds_path c.args.self.now (marks_of c.args.marks.now) (spot_in c.args.name.now c.args.spot.now) c.args.needs.now c.ends.new.needs (condition_of c.args.expression.now) steps None said (c.in_ok-ends-in-Path.ensures.adds, sym (ap (option_map vec_items) c.in-None-2.is) ∙ c.in_ok-ends-in-Path.ensures.gives)).1

pub holds-returns-in_ok-right_ends-in-Compare-clause-adds : goal.holds-returns-in_ok-right_ends-in-Compare-clause-adds
holds-returns-in_ok-right_ends-in-Compare-clause-adds t c =
    let said : condition_of c.args.expression.now ≡ compares (operand_side c.in-Compare.left) c.in-Compare.comparison (operand_side c.in-Compare.right) = ap condition_of c.in-Compare.is ∙ compare_told c.in-Compare.left c.in-Compare.right c.in-Compare.comparison in
    let at : spot_in c.side.new.name c.args.spot.now ≡ spot_in c.args.name.now c.args.spot.now = ap (λ (n : List Label). spot_in n c.args.spot.now) c.in_ok-left_ends-in-Compare.ensures.name in
    let both = holds_compare c.args.self.now (marks_of c.args.marks.now) (spot_in c.args.name.now c.args.spot.now) c.args.needs.now c.side.new.needs c.side-in-Compare.new.needs (condition_of c.args.expression.now) (operand_side c.in-Compare.left) (operand_side c.in-Compare.right) c.in-Compare.comparison _ _ _ said at
    (c.in_ok-left_ends-in-Compare.ensures.adds, c.in_ok-left_ends-in-Compare.ensures.gives) (c.in_ok-right_ends-in-Compare.ensures.adds, c.in_ok-right_ends-in-Compare.ensures.gives) in
    always_ok c.compare.result both.0

pub holds-returns-in_ok-right_ends-in-Compare-clause-gives : goal.holds-returns-in_ok-right_ends-in-Compare-clause-gives
holds-returns-in_ok-right_ends-in-Compare-clause-gives t c =
    let said : condition_of c.args.expression.now ≡ compares (operand_side c.in-Compare.left) c.in-Compare.comparison (operand_side c.in-Compare.right) = ap condition_of c.in-Compare.is ∙ compare_told c.in-Compare.left c.in-Compare.right c.in-Compare.comparison in
    let at : spot_in c.side.new.name c.args.spot.now ≡ spot_in c.args.name.now c.args.spot.now = ap (λ (n : List Label). spot_in n c.args.spot.now) c.in_ok-left_ends-in-Compare.ensures.name in
    let both = holds_compare c.args.self.now (marks_of c.args.marks.now) (spot_in c.args.name.now c.args.spot.now) c.args.needs.now c.side.new.needs c.side-in-Compare.new.needs (condition_of c.args.expression.now) (operand_side c.in-Compare.left) (operand_side c.in-Compare.right) c.in-Compare.comparison _ _ _ said at
    (c.in_ok-left_ends-in-Compare.ensures.adds, c.in_ok-left_ends-in-Compare.ensures.gives) (c.in_ok-right_ends-in-Compare.ensures.adds, c.in_ok-right_ends-in-Compare.ensures.gives) in
    IfOk-weaker c.compare.result _ _ (λ v e. e ∙ both.1) c.compare.ensures

pub side-returns-in-Path-clause-adds : goal.side-returns-in-Path-clause-adds
side-returns-in-Path-clause-adds t c =
    let said : operand_side c.args.operand.now ≡ values_of (steps_from c.as_slice.result.now c.in-Path.path.attribute) = ap operand_side c.in-Path.is ∙ ap (λ (ps : List (Part Expression)). values_of (steps_from ps c.in-Path.path.attribute)) (sym c.as_slice.ensures) in
    on_ok_weaker c.ends.result (λ h. side_looks c.args.self.now (marks_of c.args.marks.now) (spot_in c.args.name.now c.args.spot.now) c.args.needs.now c.ends.new.needs (operand_side c.args.operand.now) _ said h) c.ends.ensures.adds

pub side-returns-in-Path-clause-gives : goal.side-returns-in-Path-clause-gives
side-returns-in-Path-clause-gives t c =
    let said : operand_side c.args.operand.now ≡ values_of (steps_from c.as_slice.result.now c.in-Path.path.attribute) = ap operand_side c.in-Path.is ∙ ap (λ (ps : List (Part Expression)). values_of (steps_from ps c.in-Path.path.attribute)) (sym c.as_slice.ensures) in
    IfOk-weaker c.ends.result _ _ (λ v e. side_path c.args.self.now (marks_of c.args.marks.now) (spot_in c.args.name.now c.args.spot.now) vec_items (operand_side c.args.operand.now) _ v said e) c.ends.ensures.gives

pub side-returns-in-Literal-clause-adds : goal.side-returns-in-Literal-clause-adds
side-returns-in-Literal-clause-adds t c =
    (side_literal c.args.self.now (marks_of c.args.marks.now) (spot_in c.args.name.now c.args.spot.now) c.args.needs.now (operand_side c.args.operand.now) _ c.new.result.items (ap operand_side c.in-Literal.is)).0

pub side-returns-in-Literal-clause-gives : goal.side-returns-in-Literal-clause-gives
side-returns-in-Literal-clause-gives t c =
    (side_literal c.args.self.now (marks_of c.args.marks.now) (spot_in c.args.name.now c.args.spot.now) c.args.needs.now (operand_side c.args.operand.now) _ c.new.result.items (ap operand_side c.in-Literal.is)).1

pub side-returns-in-Number-clause-adds : goal.side-returns-in-Number-clause-adds
side-returns-in-Number-clause-adds t c =
    (side_number c.args.self.now (marks_of c.args.marks.now) (spot_in c.args.name.now c.args.spot.now) c.args.needs.now (operand_side c.args.operand.now) _ c.new-in-Number.result.items (ap operand_side c.in-Number.is)).0

pub side-returns-in-Number-clause-gives : goal.side-returns-in-Number-clause-gives
side-returns-in-Number-clause-gives t c =
    (side_number c.args.self.now (marks_of c.args.marks.now) (spot_in c.args.name.now c.args.spot.now) c.args.needs.now (operand_side c.args.operand.now) _ c.new-in-Number.result.items (ap operand_side c.in-Number.is)).1

pub follow_above-returns-in_default-clause-adds : goal.follow_above-returns-in_default-clause-adds
follow_above-returns-in_default-clause-adds t c =
    (none_above c.args.self.now c.args.needs.now (marks_of c.args.trail.now.marks) (steps_from c.args.trail.now.parts.now c.args.trail.now.attribute.now) (spot_in c.args.name.now c.args.spot.now) (ap (λ (s : CodeSpot). spots_above (spot_in c.args.name.now s)) c.in-Node.is ∙ ap above_name c.in_default.ensures.0)).0

pub follow_above-returns-in_default-clause-gives : goal.follow_above-returns-in_default-clause-gives
follow_above-returns-in_default-clause-gives t c =
    subst (λ (x : Option (List (Option (List ℕ)))). FindsEnds true c.args.ends.now.items c.args.ends.now.items x) (none_above c.args.self.now c.args.needs.now (marks_of c.args.trail.now.marks) (steps_from c.args.trail.now.parts.now c.args.trail.now.attribute.now) (spot_in c.args.name.now c.args.spot.now) (ap (λ (s : CodeSpot). spots_above (spot_in c.args.name.now s)) c.in-Node.is ∙ ap above_name c.in_default.ensures.0)).1 (no_ends c.args.ends.now.items)

pub follow_above-returns-in-Document-clause-adds : goal.follow_above-returns-in-Document-clause-adds
follow_above-returns-in-Document-clause-adds t c =
    (none_above c.args.self.now c.args.needs.now (marks_of c.args.trail.now.marks) (steps_from c.args.trail.now.parts.now c.args.trail.now.attribute.now) (spot_in c.args.name.now c.args.spot.now) (ap (λ (s : CodeSpot). spots_above (spot_in c.args.name.now s)) c.in-Document.is)).0

pub follow_above-returns-in-Document-clause-gives : goal.follow_above-returns-in-Document-clause-gives
follow_above-returns-in-Document-clause-gives t c =
    subst (λ (x : Option (List (Option (List ℕ)))). FindsEnds true c.args.ends.now.items c.args.ends.now.items x) (none_above c.args.self.now c.args.needs.now (marks_of c.args.trail.now.marks) (steps_from c.args.trail.now.parts.now c.args.trail.now.attribute.now) (spot_in c.args.name.now c.args.spot.now) (ap (λ (s : CodeSpot). spots_above (spot_in c.args.name.now s)) c.in-Document.is)).1 (no_ends c.args.ends.now.items)

pub follow_above-returns-in_ok-push-in-Node-clause-adds : goal.follow_above-returns-in_ok-push-in-Node-clause-adds
follow_above-returns-in_ok-push-in-Node-clause-adds t c =
    c.in_ok-told-in-Node.ensures.adds ∙ (above_is c.args.self.now c.args.needs.now (marks_of c.args.trail.now.marks) (steps_from c.args.trail.now.parts.now c.args.trail.now.attribute.now) (spot_in c.args.name.now c.args.spot.now) _ (ap (λ (s : CodeSpot). spots_above (spot_in c.args.name.now s)) c.in-Node.is ∙ ap above_name c.in-Some.ensures ∙ above_pushed c.pop.new.self c.in-Some.label ∙ ap (λ (s : Spot). s ∷ []) (sym c.of-above.ensures))).0

pub follow_above-returns-in_ok-push-in-Node-clause-gives : goal.follow_above-returns-in_ok-push-in-Node-clause-gives
follow_above-returns-in_ok-push-in-Node-clause-gives t c =
    subst (λ (x : Option (List (Option (List ℕ)))). FindsEnds c.in_ok-told-in-Node.told c.args.ends.now.items c.follow.new.ends.items x) (above_is c.args.self.now c.args.needs.now (marks_of c.args.trail.now.marks) (steps_from c.args.trail.now.parts.now c.args.trail.now.attribute.now) (spot_in c.args.name.now c.args.spot.now) _ (ap (λ (s : CodeSpot). spots_above (spot_in c.args.name.now s)) c.in-Node.is ∙ ap above_name c.in-Some.ensures ∙ above_pushed c.pop.new.self c.in-Some.label ∙ ap (λ (s : Spot). s ∷ []) (sym c.of-above.ensures))).1 c.in_ok-told-in-Node.ensures.gives

pub follow_above-returns-in-Element-clause-adds : goal.follow_above-returns-in-Element-clause-adds
follow_above-returns-in-Element-clause-adds t c =
    on_ok_weaker c.follow-in-Element.result (λ h. h ∙ (above_is c.args.self.now c.args.needs.now (marks_of c.args.trail.now.marks) (steps_from c.args.trail.now.parts.now c.args.trail.now.attribute.now) (spot_in c.args.name.now c.args.spot.now) _ (ap (λ (s : CodeSpot). spots_above (spot_in c.args.name.now s)) c.in-Element.is ∙ ap (λ (s : Spot). s ∷ []) (sym c.above-above.ensures))).0) c.follow-in-Element.ensures.adds

pub follow_above-returns-in-Element-clause-gives : goal.follow_above-returns-in-Element-clause-gives
follow_above-returns-in-Element-clause-gives t c =
    IfOk-weaker c.follow-in-Element.result _ _ (λ v e. subst (λ (x : Option (List (Option (List ℕ)))). FindsEnds v c.args.ends.now.items c.follow-in-Element.new.ends.items x) (above_is c.args.self.now c.args.needs.now (marks_of c.args.trail.now.marks) (steps_from c.args.trail.now.parts.now c.args.trail.now.attribute.now) (spot_in c.args.name.now c.args.spot.now) _ (ap (λ (s : CodeSpot). spots_above (spot_in c.args.name.now s)) c.in-Element.is ∙ ap (λ (s : Spot). s ∷ []) (sym c.above-above.ensures))).1 e) c.follow-in-Element.ensures.gives

pub from_node-returns-in_default-clause-adds : goal.from_node-returns-in_default-clause-adds
from_node-returns-in_default-clause-adds t c =
    let test : (step_in c.args.further.now).test ≡ Kind c.in-Kind.field-0 = ap (λ (s : Step Expression). s.test) (sym c.step.ensures) ∙ c.in-Kind.is in
    let none : ids_at c.args.self.now c.args.name.now ≡ None = search rules in
    c.in_ok-ids-in-Kind.ensures.look ∙ ap (λ (ss : List State). look_added c.args.self.now c.args.needs.now (record { name = c.args.name.now; level = Ids; states = ss })) c.state_at-state.ensures ∙ sym (kind_unknown c.args.self.now c.args.needs.now c.args.levels c.args.further.now (marks_of c.args.own.now) c.args.name.now c.in-Kind.field-0 test none).0

pub from_node-returns-in_default-clause-gives : goal.from_node-returns-in_default-clause-gives
from_node-returns-in_default-clause-gives t c =
    let test : (step_in c.args.further.now).test ≡ Kind c.in-Kind.field-0 = ap (λ (s : Step Expression). s.test) (sym c.step.ensures) ∙ c.in-Kind.is in
    let none : ids_at c.args.self.now c.args.name.now ≡ None = search rules in
    subst (λ (v : Option (List (Finding c.args.further.now))). HasFound c.args.further.now false c.args.ends.now.items c.args.ends.now.items v) (sym (kind_unknown c.args.self.now c.args.needs.now c.args.levels c.args.further.now (marks_of c.args.own.now) c.args.name.now c.in-Kind.field-0 test none).1) (found_untold c.args.further.now c.args.ends.now.items)

pub from_node-returns-in_default-2-clause-adds : goal.from_node-returns-in_default-2-clause-adds
from_node-returns-in_default-2-clause-adds t c =
    let test = no_kind (step_in c.args.further.now).test c.step.result.now.test (ap (λ (s : Step Expression). s.test) (sym c.step.ensures)) c.in-Any.is in
    let none : full_at c.args.self.now c.args.name.now ≡ None = search rules in
    c.in_ok-ids-in-Any.ensures.look ∙ ap (λ (ss : List State). look_added c.args.self.now c.args.needs.now (record { name = c.args.name.now; level = Full; states = ss })) c.state_at-state.ensures ∙ sym (other_unknown c.args.self.now c.args.needs.now c.args.levels c.args.further.now (marks_of c.args.own.now) c.args.name.now test none).0

pub from_node-returns-in_default-2-clause-gives : goal.from_node-returns-in_default-2-clause-gives
from_node-returns-in_default-2-clause-gives t c =
    let test = no_kind (step_in c.args.further.now).test c.step.result.now.test (ap (λ (s : Step Expression). s.test) (sym c.step.ensures)) c.in-Any.is in
    let none : full_at c.args.self.now c.args.name.now ≡ None = search rules in
    subst (λ (v : Option (List (Finding c.args.further.now))). HasFound c.args.further.now false c.args.ends.now.items c.args.ends.now.items v) (sym (other_unknown c.args.self.now c.args.needs.now c.args.levels c.args.further.now (marks_of c.args.own.now) c.args.name.now test none).1) (found_untold c.args.further.now c.args.ends.now.items)

pub from_node-returns-in-Some-clause-adds : goal.from_node-returns-in-Some-clause-adds
from_node-returns-in-Some-clause-adds t c =
    let test : (step_in c.args.further.now).test ≡ Kind c.in-Kind.field-0 = ap (λ (s : Step Expression). s.test) (sym c.step.ensures) ∙ c.in-Kind.is in
    let some : ids_at c.args.self.now c.args.name.now ≡ Some c.in-Some.ids.now = search rules in
    on_ok_weaker c.to_children.result (λ h. h ∙ ap (λ (ns : List Need). adding c.args.self.now ns (gather (child_reached c.args.self.now c.args.levels c.args.further.now c.args.name.now) c.in-Some.ids.now)) (c.in_ok-ids-in-Kind.ensures.look ∙ ap (λ (ss : List State). look_added c.args.self.now c.args.needs.now (record { name = c.args.name.now; level = Ids; states = ss })) c.state_at-state.ensures) ∙ sym (kind_known c.args.self.now c.args.needs.now c.args.levels c.args.further.now (marks_of c.args.own.now) c.args.name.now c.in-Some.ids.now c.in-Kind.field-0 test some).0) c.to_children.ensures.adds

pub from_node-returns-in-Some-clause-gives : goal.from_node-returns-in-Some-clause-gives
from_node-returns-in-Some-clause-gives t c =
    let test : (step_in c.args.further.now).test ≡ Kind c.in-Kind.field-0 = ap (λ (s : Step Expression). s.test) (sym c.step.ensures) ∙ c.in-Kind.is in
    let some : ids_at c.args.self.now c.args.name.now ≡ Some c.in-Some.ids.now = search rules in
    IfOk-weaker c.to_children.result _ _ (λ told h. subst (λ (v : Option (List (Finding c.args.further.now))). HasFound c.args.further.now told c.args.ends.now.items c.to_children.new.ends.items v) (sym (kind_known c.args.self.now c.args.needs.now c.args.levels c.args.further.now (marks_of c.args.own.now) c.args.name.now c.in-Some.ids.now c.in-Kind.field-0 test some).1) h) c.to_children.ensures.gives

pub from_node-returns-in_ok-elements-in-Any-clause-adds : goal.from_node-returns-in_ok-elements-in-Any-clause-adds
from_node-returns-in_ok-elements-in-Any-clause-adds t c =
    let test = no_kind (step_in c.args.further.now).test c.step.result.now.test (ap (λ (s : Step Expression). s.test) (sym c.step.ensures)) c.in-Any.is in
    let some : full_at c.args.self.now c.args.name.now ≡ Some (record { ids = c.in-Some-2.ids.now; local = c.in-Some-2.local.now }) = search rules in
    c.in_ok-elements-in-Any.ensures.adds ∙ ap (λ (n : List Label). adding c.args.self.now c.to_children-in-Any.new.needs (elements_reached c.args.self.now c.args.further.now c.in-Some-2.local.now [] n)) c.in_ok-nodes-in-Any.ensures.name
    ∙ ap (λ (ns : List Need). adding c.args.self.now ns (elements_reached c.args.self.now c.args.further.now c.in-Some-2.local.now [] c.args.name.now)) (c.in_ok-nodes-in-Any.ensures.adds ∙ ap (λ (ns : List Need). adding c.args.self.now ns (gather (child_reached c.args.self.now c.args.levels c.args.further.now c.args.name.now) c.in-Some-2.ids.now)) (c.in_ok-ids-in-Any.ensures.look ∙ ap (λ (ss : List State). look_added c.args.self.now c.args.needs.now (record { name = c.args.name.now; level = Full; states = ss })) c.state_at-state.ensures))
    ∙ sym (other_known c.args.self.now c.args.needs.now c.args.levels c.args.further.now (marks_of c.args.own.now) c.args.name.now (record { ids = c.in-Some-2.ids.now; local = c.in-Some-2.local.now }) test some).0

pub from_node-returns-in_ok-elements-in-Any-clause-gives : goal.from_node-returns-in_ok-elements-in-Any-clause-gives
from_node-returns-in_ok-elements-in-Any-clause-gives t c =
    let test = no_kind (step_in c.args.further.now).test c.step.result.now.test (ap (λ (s : Step Expression). s.test) (sym c.step.ensures)) c.in-Any.is in
    let some : full_at c.args.self.now c.args.name.now ≡ Some (record { ids = c.in-Some-2.ids.now; local = c.in-Some-2.local.now }) = search rules in
    let second = subst (λ (n : List Label). HasFound c.args.further.now c.in_ok-elements-in-Any.elements c.to_children-in-Any.new.ends.items c.to_elements.new.ends.items (given c.args.self.now (elements_reached c.args.self.now c.args.further.now c.in-Some-2.local.now [] n))) c.in_ok-nodes-in-Any.ensures.name c.in_ok-elements-in-Any.ensures.gives in
    subst (λ (told : Bool). HasFound c.args.further.now told c.args.ends.now.items c.to_elements.new.ends.items (given c.args.self.now (node_reached c.args.self.now c.args.levels c.args.further.now (marks_of c.args.own.now) c.args.name.now))) (sym c.both_told.ensures)
    (subst (λ (v : Option (List (Finding c.args.further.now))). HasFound c.args.further.now (c.in_ok-nodes-in-Any.nodes && c.in_ok-elements-in-Any.elements) c.args.ends.now.items c.to_elements.new.ends.items v) (sym (other_known c.args.self.now c.args.needs.now c.args.levels c.args.further.now (marks_of c.args.own.now) c.args.name.now (record { ids = c.in-Some-2.ids.now; local = c.in-Some-2.local.now }) test some).1)
    (found_join c.args.further.now c.in_ok-nodes-in-Any.nodes c.in_ok-elements-in-Any.elements c.args.ends.now.items c.to_children-in-Any.new.ends.items c.to_elements.new.ends.items _ _ c.in_ok-nodes-in-Any.ensures.gives second))

pub reach-from_node-requires : goal.reach-from_node-requires
reach-from_node-requires t c =
    let size : c.room.result ≤ 16 = rw c.room.ensures (few_levels c.args.name.now) in
    (omega (arith, c.decreases, size), size)

pub reach-returns-in-Document-clause-adds : goal.reach-returns-in-Document-clause-adds
reach-returns-in-Document-clause-adds t c =
    on_ok_weaker c.to_child.result (λ h. h ∙ ap (λ (n : List Label). adding c.args.self.now c.args.needs.now (child_reached c.args.self.now 16 c.args.further.now n c.args.self.now.top)) c.document-top.ensures ∙ ap (λ (r : Run (List (Finding c.args.further.now))). adding c.args.self.now c.args.needs.now r) (sym (document_is c.args.self.now c.args.further.now c.args.own.now)) ∙ ap (λ (s : CodeSpot). adding c.args.self.now c.args.needs.now (reached c.args.self.now c.args.further.now c.args.own.now (spot_in c.args.name.now s))) (sym c.in-Document.is)) c.to_child.ensures.adds

pub reach-returns-in-Document-clause-gives : goal.reach-returns-in-Document-clause-gives
reach-returns-in-Document-clause-gives t c =
    IfOk-weaker c.to_child.result _ _ (λ told h. subst (λ (s : CodeSpot). HasFound c.args.further.now told c.args.ends.now.items c.to_child.new.ends.items (given c.args.self.now (reached c.args.self.now c.args.further.now c.args.own.now (spot_in c.args.name.now s)))) (sym c.in-Document.is)
    (subst (λ (r : Run (List (Finding c.args.further.now))). HasFound c.args.further.now told c.args.ends.now.items c.to_child.new.ends.items (given c.args.self.now r)) (sym (document_is c.args.self.now c.args.further.now c.args.own.now))
    (subst (λ (n : List Label). HasFound c.args.further.now told c.args.ends.now.items c.to_child.new.ends.items (given c.args.self.now (child_reached c.args.self.now 16 c.args.further.now n c.args.self.now.top))) c.document-top.ensures h))) c.to_child.ensures.gives

pub reach-returns-in-Element-clause-gives : goal.reach-returns-in-Element-clause-gives
reach-returns-in-Element-clause-gives t c =
    IfOk-weaker c.to_elements.result _ _ (λ told h. subst (λ (s : CodeSpot). HasFound c.args.further.now told c.args.ends.now.items c.to_elements.new.ends.items (given c.args.self.now (reached c.args.self.now c.args.further.now c.args.own.now (spot_in c.args.name.now s)))) (sym c.in-Element.is) h) c.to_elements.ensures.gives

pub to_child-returns-clause-adds : goal.to_child-returns-clause-adds
to_child-returns-clause-adds t c =
    child_done c.args.self.now c.args.needs.now c.to_label.new.needs c.to_deeper.new.needs c.args.levels c.args.further.now c.args.name.now c.push.new.self c.to_label.new.name c.args.child.now c.in_ok-push.ensures.ok c.in_ok-here.ensures.name c.in_ok-here.ensures.adds c.in_ok-deeper.ensures.adds

pub to_child-returns-clause-gives : goal.to_child-returns-clause-gives
to_child-returns-clause-gives t c =
    subst (λ (told : Bool). HasFound c.args.further.now told c.args.ends.now.items c.to_deeper.new.ends.items (given c.args.self.now (child_reached c.args.self.now c.args.levels c.args.further.now c.args.name.now c.args.child.now))) (sym c.both_told.ensures)
    (child_found c.args.self.now c.args.needs.now c.args.levels c.args.further.now c.args.name.now c.push.new.self c.to_label.new.name c.args.child.now c.in_ok-here.here c.in_ok-deeper.deeper c.args.ends.now.items c.to_label.new.ends.items c.to_deeper.new.ends.items c.in_ok-push.ensures.ok c.in_ok-here.ensures.name c.in_ok-here.ensures.gives c.in_ok-deeper.ensures.gives)

pub to_children-loop-child-init : goal.to_children-loop-child-init
to_children-loop-child-init t c =
    record { name = refl; adds = refl; gives = found_begin c.args.self.now (HasFound c.args.further.now) (child_reached c.args.self.now c.args.levels c.args.further.now c.args.name.now) c.args.ends.now.items c.args.ids.now (found_none c.args.further.now c.args.ends.now.items) }

pub to_children-loop-child-preserved : goal.to_children-loop-child-preserved
to_children-loop-child-preserved t c =
    let adds : c.to_child.new.needs ≡ adding c.args.self.now c.loop-child.needs ((child_reached c.args.self.now c.args.levels c.args.further.now c.args.name.now) c.child-item.result) = c.in_ok-here.ensures.adds ∙ ap (λ (n : List Label). adding c.args.self.now c.loop-child.needs (child_reached c.args.self.now c.args.levels c.args.further.now n c.child-item.result)) c.loop-child.invariant.name in
    let gives = subst (λ (n : List Label). HasFound c.args.further.now c.in_ok-here.here c.loop-child.ends.items c.to_child.new.ends.items (given c.args.self.now (child_reached c.args.self.now c.args.levels c.args.further.now n c.child-item.result))) c.loop-child.invariant.name c.in_ok-here.ensures.gives in
    record {
      name = c.in_ok-here.ensures.name ∙ c.loop-child.invariant.name;
      adds = one_more c.args.self.now.takes c.args.self.now.above.now c.args.self.now.view.now (child_reached c.args.self.now c.args.levels c.args.further.now c.args.name.now) c.args.ids.now c.loop-child.child-index c.child-item.result c.child-item.result c.loop-child.needs c.to_child.new.needs _ c.loop-child-test.true c.child-item.is adds c.loop-child.invariant.adds;
      gives = rw c.both_told-told.ensures (found_more c.args.self.now (HasFound c.args.further.now) (child_reached c.args.self.now c.args.levels c.args.further.now c.args.name.now) c.loop-child.told c.in_ok-here.here c.args.ends.now.items c.loop-child.ends.items c.to_child.new.ends.items c.args.ids.now c.loop-child.child-index c.child-item.result c.child-item.result c.loop-child-test.true c.child-item.is
          (found_join c.args.further.now c.loop-child.told c.in_ok-here.here c.args.ends.now.items c.loop-child.ends.items c.to_child.new.ends.items) c.loop-child.invariant.gives gives);
    }

pub to_children-returns-clause-adds : goal.to_children-returns-clause-adds
to_children-returns-clause-adds t c =
    all_done c.args.self.now.takes c.args.self.now.above.now c.args.self.now.view.now (child_reached c.args.self.now c.args.levels c.args.further.now c.args.name.now) c.args.ids.now c.loop-child.child-index c.loop-child.needs _ c.loop-child-test.false c.loop-child.invariant.adds

pub to_children-returns-clause-gives : goal.to_children-returns-clause-gives
to_children-returns-clause-gives t c =
    found_end c.args.self.now (HasFound c.args.further.now) (child_reached c.args.self.now c.args.levels c.args.further.now c.args.name.now) c.loop-child.told c.args.ends.now.items c.loop-child.ends.items c.args.ids.now c.loop-child.child-index c.loop-child-test.false c.loop-child.invariant.gives

pub to_deeper-returns-then-levels-eq0-clause-adds : goal.to_deeper-returns-then-levels-eq0-clause-adds
to_deeper-returns-then-levels-eq0-clause-adds t c =
    sym (deeper_none c.args.self.now c.args.needs.now c.args.levels c.args.further.now c.args.name.now c.if-levels-eq0.true).0

pub to_deeper-returns-then-levels-eq0-clause-gives : goal.to_deeper-returns-then-levels-eq0-clause-gives
to_deeper-returns-then-levels-eq0-clause-gives t c =
    subst (λ (v : Option (List (Finding c.args.further.now))). HasFound c.args.further.now true c.args.ends.now.items c.args.ends.now.items v) (sym (deeper_none c.args.self.now c.args.needs.now c.args.levels c.args.further.now c.args.name.now c.if-levels-eq0.true).1) (found_none c.args.further.now c.args.ends.now.items)

pub to_deeper-returns-in-Slash-clause-adds : goal.to_deeper-returns-in-Slash-clause-adds
to_deeper-returns-in-Slash-clause-adds t c =
    sym (deeper_slash c.args.self.now c.args.needs.now c.args.levels c.args.further.now c.args.name.now (ap (λ (s : Step Expression). s.separator) (sym c.step.ensures) ∙ c.in-Slash.is)).0

pub to_deeper-returns-in-Slash-clause-gives : goal.to_deeper-returns-in-Slash-clause-gives
to_deeper-returns-in-Slash-clause-gives t c =
    subst (λ (v : Option (List (Finding c.args.further.now))). HasFound c.args.further.now true c.args.ends.now.items c.args.ends.now.items v) (sym (deeper_slash c.args.self.now c.args.needs.now c.args.levels c.args.further.now c.args.name.now (ap (λ (s : Step Expression). s.separator) (sym c.step.ensures) ∙ c.in-Slash.is)).1) (found_none c.args.further.now c.args.ends.now.items)

pub to_label-returns-then-not-passes_label-clause-adds : goal.to_label-returns-then-not-passes_label-clause-adds
to_label-returns-then-not-passes_label-clause-adds t c =
    let other : passes_label c.args.label.now (step_in c.args.further.now).test ≡ false = ap (λ (s : Step Expression). passes_label c.args.label.now s.test) (sym c.step.ensures) ∙ sym c.passes_label.ensures ∙ c.if-not-passes_label.true in
    sym (label_other c.args.self.now c.args.needs.now c.args.further.now c.args.name.now c.args.label.now other).0

pub to_label-returns-then-not-passes_label-clause-gives : goal.to_label-returns-then-not-passes_label-clause-gives
to_label-returns-then-not-passes_label-clause-gives t c =
    let other : passes_label c.args.label.now (step_in c.args.further.now).test ≡ false = ap (λ (s : Step Expression). passes_label c.args.label.now s.test) (sym c.step.ensures) ∙ sym c.passes_label.ensures ∙ c.if-not-passes_label.true in
    subst (λ (v : Option (List (Finding c.args.further.now))). HasFound c.args.further.now true c.args.ends.now.items c.args.ends.now.items v) (sym (label_other c.args.self.now c.args.needs.now c.args.further.now c.args.name.now c.args.label.now other).1) (found_none c.args.further.now c.args.ends.now.items)

pub to_elements-loop-path-init : goal.to_elements-loop-path-init
to_elements-loop-path-init t c =
    record { name = refl; adds = refl; gives = found_begin c.args.self.now (HasFound c.args.further.now) (λ (path : List ℕ). further_program c.args.self.now.top c.args.further.now (element_spot c.args.name.now c.args.local.now (path_of path))) c.args.ends.now.items c.deref-path-items.result.now (found_none c.args.further.now c.args.ends.now.items) }

pub to_elements-loop-path-preserved : goal.to_elements-loop-path-preserved
to_elements-loop-path-preserved t c =
    let adds : c.arrive.new.needs ≡ adding c.args.self.now c.loop-path.needs ((λ (path : List ℕ). further_program c.args.self.now.top c.args.further.now (element_spot c.args.name.now c.args.local.now (path_of path))) c.path-item.result) =
    c.in_ok-here.ensures.adds ∙ ap (λ (n : List Label). adding c.args.self.now c.loop-path.needs (further_program c.args.self.now.top c.args.further.now (element_spot n c.args.local.now (path_of c.as_slice.result.now)))) c.loop-path.invariant.name ∙ ap (λ (p : List ℕ). adding c.args.self.now c.loop-path.needs ((λ (path : List ℕ). further_program c.args.self.now.top c.args.further.now (element_spot c.args.name.now c.args.local.now (path_of path))) p)) c.as_slice.ensures in
    let gives = subst (λ (p : List ℕ). HasFound c.args.further.now c.in_ok-here.here c.loop-path.ends.items c.arrive.new.ends.items (given c.args.self.now ((λ (path : List ℕ). further_program c.args.self.now.top c.args.further.now (element_spot c.args.name.now c.args.local.now (path_of path))) p))) c.as_slice.ensures
    (subst (λ (n : List Label). HasFound c.args.further.now c.in_ok-here.here c.loop-path.ends.items c.arrive.new.ends.items (given c.args.self.now (further_program c.args.self.now.top c.args.further.now (element_spot n c.args.local.now (path_of c.as_slice.result.now))))) c.loop-path.invariant.name c.in_ok-here.ensures.gives) in
    record {
      name = c.in_ok-here.ensures.name ∙ c.loop-path.invariant.name;
      adds = one_more c.args.self.now.takes c.args.self.now.above.now c.args.self.now.view.now (λ (path : List ℕ). further_program c.args.self.now.top c.args.further.now (element_spot c.args.name.now c.args.local.now (path_of path))) c.deref-path-items.result.now c.loop-path.path-index c.path-item.result c.path-item.result c.loop-path.needs c.arrive.new.needs _ c.loop-path-test.true c.path-item.is adds c.loop-path.invariant.adds;
      gives = rw c.both_told-told.ensures (found_more c.args.self.now (HasFound c.args.further.now) (λ (path : List ℕ). further_program c.args.self.now.top c.args.further.now (element_spot c.args.name.now c.args.local.now (path_of path))) c.loop-path.told c.in_ok-here.here c.args.ends.now.items c.loop-path.ends.items c.arrive.new.ends.items c.deref-path-items.result.now c.loop-path.path-index c.path-item.result c.path-item.result c.loop-path-test.true c.path-item.is
          (found_join c.args.further.now c.loop-path.told c.in_ok-here.here c.args.ends.now.items c.loop-path.ends.items c.arrive.new.ends.items) c.loop-path.invariant.gives gives);
    }

pub to_elements-returns-clause-adds : goal.to_elements-returns-clause-adds
to_elements-returns-clause-adds t c =
    let paths = ap (λ (ps : List (List ℕ)). paths_of ps) c.deref-path-items.ensures.value ∙ c.in_ok-paths.ensures ∙ ap (λ (s : Step Expression). step_elements s.separator s.test c.args.local.now (path_of c.args.above.now)) c.step.ensures in
    let same = elements_are c.args.self.now c.args.further.now c.args.local.now (path_of c.args.above.now) c.args.name.now c.deref-path-items.result.now paths in
    all_done c.args.self.now.takes c.args.self.now.above.now c.args.self.now.view.now (λ (path : List ℕ). further_program c.args.self.now.top c.args.further.now (element_spot c.args.name.now c.args.local.now (path_of path))) c.deref-path-items.result.now c.loop-path.path-index c.loop-path.needs _ c.loop-path-test.false c.loop-path.invariant.adds ∙ ap (λ (r : Run (List (Finding c.args.further.now))). adding c.args.self.now c.args.needs.now r) same

pub to_elements-returns-clause-gives : goal.to_elements-returns-clause-gives
to_elements-returns-clause-gives t c =
    let paths = ap (λ (ps : List (List ℕ)). paths_of ps) c.deref-path-items.ensures.value ∙ c.in_ok-paths.ensures ∙ ap (λ (s : Step Expression). step_elements s.separator s.test c.args.local.now (path_of c.args.above.now)) c.step.ensures in
    let same = elements_are c.args.self.now c.args.further.now c.args.local.now (path_of c.args.above.now) c.args.name.now c.deref-path-items.result.now paths in
    subst (λ (r : Run (List (Finding c.args.further.now))). HasFound c.args.further.now c.loop-path.told c.args.ends.now.items c.loop-path.ends.items (given c.args.self.now r)) same
    (found_end c.args.self.now (HasFound c.args.further.now) (λ (path : List ℕ). further_program c.args.self.now.top c.args.further.now (element_spot c.args.name.now c.args.local.now (path_of path))) c.loop-path.told c.args.ends.now.items c.loop-path.ends.items c.deref-path-items.result.now c.loop-path.path-index c.loop-path-test.false c.loop-path.invariant.gives)

pub arrive-returns-in_ok-test-in-Main-clause-adds : goal.arrive-returns-in_ok-test-in-Main-clause-adds
arrive-returns-in_ok-test-in-Main-clause-adds t c =
    c.in_ok-test-in-Main.ensures.adds ∙ ap (λ (f : Further). adding c.args.self.now c.args.needs.now (further_program c.args.self.now.top f (spot_in c.args.name.now c.args.spot.now))) (sym c.in-Main.is)

pub arrive-returns-in-Path-clause-adds : goal.arrive-returns-in-Path-clause-adds
arrive-returns-in-Path-clause-adds t c =
    on_ok_weaker c.pass.result (λ h. h ∙ ap (λ (f : Further). adding c.args.self.now c.args.needs.now (further_program c.args.self.now.top f (spot_in c.args.name.now c.args.spot.now))) (sym c.in-Path.is)) c.pass.ensures.adds

pub arrive-returns-in-Path-clause-gives : goal.arrive-returns-in-Path-clause-gives
arrive-returns-in-Path-clause-gives t c =
    IfOk-weaker c.pass.result _ _ (λ told h. subst (λ (f : Further). HasFound f told c.args.ends.now.items c.pass.new.ends.items (given c.args.self.now (further_program c.args.self.now.top f (spot_in c.args.name.now c.args.spot.now)))) (sym c.in-Path.is) h) c.pass.ensures.gives

pub pass-returns-in-Some-true-clause-adds : goal.pass-returns-in-Some-true-clause-adds
pass-returns-in-Some-true-clause-adds t c =
    let adds = c.in_ok-all_hold.ensures.adds ∙ ap (λ (ps : List Expression). adding c.args.self.now c.args.needs.now (all_hold c.args.self.now.top (marks_of c.args.trail.now.marks) (all_conditions ps) (spot_in c.args.name.now c.args.spot.now))) c.as_slice-predicates.ensures in
    let so : given c.args.self.now (all_hold c.args.self.now.top (marks_of c.args.trail.now.marks) (all_conditions c.args.step.now.predicates) (spot_in c.args.name.now c.args.spot.now)) ≡ Some true = sym (c.in_ok-all_hold.ensures.gives ∙ ap (λ (ps : List Expression). given c.args.self.now (all_hold c.args.self.now.top (marks_of c.args.trail.now.marks) (all_conditions ps) (spot_in c.args.name.now c.args.spot.now))) c.as_slice-predicates.ensures) ∙ c.in-Some-true.is ∙ ap (λ (b : Bool). Some b) c.in-Some-true.field-0-test in
    on_ok_weaker c.follow.result (λ h. h ∙ ap (λ (n : List Label). adding c.args.self.now c.all_hold.new.needs (trail_ends c.args.self.now c.args.trail.now (spot_in n c.args.spot.now))) c.in_ok-all_hold.ensures.name ∙ ap (λ (ns : List Need). adding c.args.self.now ns (trail_ends c.args.self.now c.args.trail.now (spot_in c.args.name.now c.args.spot.now))) adds ∙ sym (where_true c.args.self.now c.args.needs.now (all_hold c.args.self.now.top (marks_of c.args.trail.now.marks) (all_conditions c.args.step.now.predicates) (spot_in c.args.name.now c.args.spot.now)) (trail_ends c.args.self.now c.args.trail.now (spot_in c.args.name.now c.args.spot.now)) so).0) c.follow.ensures.adds

pub pass-returns-in-Some-true-clause-gives : goal.pass-returns-in-Some-true-clause-gives
pass-returns-in-Some-true-clause-gives t c =
    let so : given c.args.self.now (all_hold c.args.self.now.top (marks_of c.args.trail.now.marks) (all_conditions c.args.step.now.predicates) (spot_in c.args.name.now c.args.spot.now)) ≡ Some true = sym (c.in_ok-all_hold.ensures.gives ∙ ap (λ (ps : List Expression). given c.args.self.now (all_hold c.args.self.now.top (marks_of c.args.trail.now.marks) (all_conditions ps) (spot_in c.args.name.now c.args.spot.now))) c.as_slice-predicates.ensures) ∙ c.in-Some-true.is ∙ ap (λ (b : Bool). Some b) c.in-Some-true.field-0-test in
    IfOk-weaker c.follow.result _ _ (λ told h. h ∙ ap (λ (n : List Label). ends_after c.args.ends.now.items (given c.args.self.now (trail_ends c.args.self.now c.args.trail.now (spot_in n c.args.spot.now)))) c.in_ok-all_hold.ensures.name ∙ ap (ends_after c.args.ends.now.items) (sym (where_true c.args.self.now c.args.needs.now (all_hold c.args.self.now.top (marks_of c.args.trail.now.marks) (all_conditions c.args.step.now.predicates) (spot_in c.args.name.now c.args.spot.now)) (trail_ends c.args.self.now c.args.trail.now (spot_in c.args.name.now c.args.spot.now)) so).1)) c.follow.ensures.gives

pub pass-returns-in-Some-false-clause-adds : goal.pass-returns-in-Some-false-clause-adds
pass-returns-in-Some-false-clause-adds t c =
    let adds = c.in_ok-all_hold.ensures.adds ∙ ap (λ (ps : List Expression). adding c.args.self.now c.args.needs.now (all_hold c.args.self.now.top (marks_of c.args.trail.now.marks) (all_conditions ps) (spot_in c.args.name.now c.args.spot.now))) c.as_slice-predicates.ensures in
    let so : given c.args.self.now (all_hold c.args.self.now.top (marks_of c.args.trail.now.marks) (all_conditions c.args.step.now.predicates) (spot_in c.args.name.now c.args.spot.now)) ≡ Some false = sym (c.in_ok-all_hold.ensures.gives ∙ ap (λ (ps : List Expression). given c.args.self.now (all_hold c.args.self.now.top (marks_of c.args.trail.now.marks) (all_conditions ps) (spot_in c.args.name.now c.args.spot.now))) c.as_slice-predicates.ensures) ∙ c.in-Some-false.is ∙ ap (λ (b : Bool). Some b) c.in-Some-false.field-0-test in
    adds ∙ sym (where_false c.args.self.now c.args.needs.now (all_hold c.args.self.now.top (marks_of c.args.trail.now.marks) (all_conditions c.args.step.now.predicates) (spot_in c.args.name.now c.args.spot.now)) (trail_ends c.args.self.now c.args.trail.now (spot_in c.args.name.now c.args.spot.now)) so).0

pub pass-returns-in-Some-false-clause-gives : goal.pass-returns-in-Some-false-clause-gives
pass-returns-in-Some-false-clause-gives t c =
    let so : given c.args.self.now (all_hold c.args.self.now.top (marks_of c.args.trail.now.marks) (all_conditions c.args.step.now.predicates) (spot_in c.args.name.now c.args.spot.now)) ≡ Some false = sym (c.in_ok-all_hold.ensures.gives ∙ ap (λ (ps : List Expression). given c.args.self.now (all_hold c.args.self.now.top (marks_of c.args.trail.now.marks) (all_conditions ps) (spot_in c.args.name.now c.args.spot.now))) c.as_slice-predicates.ensures) ∙ c.in-Some-false.is ∙ ap (λ (b : Bool). Some b) c.in-Some-false.field-0-test in
    no_ends c.args.ends.now.items ∙ ap (ends_after c.args.ends.now.items) (sym (where_false c.args.self.now c.args.needs.now (all_hold c.args.self.now.top (marks_of c.args.trail.now.marks) (all_conditions c.args.step.now.predicates) (spot_in c.args.name.now c.args.spot.now)) (trail_ends c.args.self.now c.args.trail.now (spot_in c.args.name.now c.args.spot.now)) so).1)

pub pass-returns-in-None-clause-adds : goal.pass-returns-in-None-clause-adds
pass-returns-in-None-clause-adds t c =
    let adds = c.in_ok-all_hold.ensures.adds ∙ ap (λ (ps : List Expression). adding c.args.self.now c.args.needs.now (all_hold c.args.self.now.top (marks_of c.args.trail.now.marks) (all_conditions ps) (spot_in c.args.name.now c.args.spot.now))) c.as_slice-predicates.ensures in
    let so : given c.args.self.now (all_hold c.args.self.now.top (marks_of c.args.trail.now.marks) (all_conditions c.args.step.now.predicates) (spot_in c.args.name.now c.args.spot.now)) ≡ None = sym (c.in_ok-all_hold.ensures.gives ∙ ap (λ (ps : List Expression). given c.args.self.now (all_hold c.args.self.now.top (marks_of c.args.trail.now.marks) (all_conditions ps) (spot_in c.args.name.now c.args.spot.now))) c.as_slice-predicates.ensures) ∙ c.in-None.is in
    adds ∙ sym (where_none c.args.self.now c.args.needs.now (all_hold c.args.self.now.top (marks_of c.args.trail.now.marks) (all_conditions c.args.step.now.predicates) (spot_in c.args.name.now c.args.spot.now)) (trail_ends c.args.self.now c.args.trail.now (spot_in c.args.name.now c.args.spot.now)) so).0

pub pass-returns-in-None-clause-gives : goal.pass-returns-in-None-clause-gives
pass-returns-in-None-clause-gives t c =
    let so : given c.args.self.now (all_hold c.args.self.now.top (marks_of c.args.trail.now.marks) (all_conditions c.args.step.now.predicates) (spot_in c.args.name.now c.args.spot.now)) ≡ None = sym (c.in_ok-all_hold.ensures.gives ∙ ap (λ (ps : List Expression). given c.args.self.now (all_hold c.args.self.now.top (marks_of c.args.trail.now.marks) (all_conditions ps) (spot_in c.args.name.now c.args.spot.now))) c.as_slice-predicates.ensures) ∙ c.in-None.is in
    ap (ends_after c.args.ends.now.items) (sym (where_none c.args.self.now c.args.needs.now (all_hold c.args.self.now.top (marks_of c.args.trail.now.marks) (all_conditions c.args.step.now.predicates) (spot_in c.args.name.now c.args.spot.now)) (trail_ends c.args.self.now c.args.trail.now (spot_in c.args.name.now c.args.spot.now)) so).1)

pub test-returns-then-not-holds-clause-adds : goal.test-returns-then-not-holds-clause-adds
test-returns-then-not-holds-clause-adds t c =
    let marks = c.marked-marks.ensures ∙ ap (λ (n : List Label). tested_at (states.Test c.args.route.now.number) (spot_in n c.args.spot.now)) c.in_ok-at.ensures in
    let adds = c.in_ok-all_hold.ensures.adds ∙ ap (λ (ps : List Expression). adding c.args.self.now c.args.needs.now (all_hold c.args.self.now.top (marks_of c.marked-marks.result) (all_conditions ps) (spot_in c.args.name.now c.args.spot.now))) c.as_slice-predicates.ensures ∙ ap (λ (m : Marks). adding c.args.self.now c.args.needs.now (all_hold c.args.self.now.top m (all_conditions c.args.route.now.step.now.predicates) (spot_in c.args.name.now c.args.spot.now))) marks in
    let gives = c.in_ok-all_hold.ensures.gives ∙ ap (λ (ps : List Expression). given c.args.self.now (all_hold c.args.self.now.top (marks_of c.marked-marks.result) (all_conditions ps) (spot_in c.args.name.now c.args.spot.now))) c.as_slice-predicates.ensures ∙ ap (λ (m : Marks). given c.args.self.now (all_hold c.args.self.now.top m (all_conditions c.args.route.now.step.now.predicates) (spot_in c.args.name.now c.args.spot.now))) marks in
    adds ∙ sym (where_stops c.args.self.now c.args.needs.now (all_hold c.args.self.now.top (tested_at (states.Test c.args.route.now.number) (spot_in c.args.name.now c.args.spot.now)) (all_conditions c.args.route.now.step.now.predicates) (spot_in c.args.name.now c.args.spot.now)) (goes c.args.self.now.top (c.args.route.now.number + 1) (map main_of c.args.route.now.rest.now) (spot_in c.args.name.now c.args.spot.now)) _ gives (sym c.unwrap_or-holds.ensures ∙ c.if-not-holds.true))

pub test-returns-clause-adds : goal.test-returns-clause-adds
test-returns-clause-adds t c =
    let marks = c.marked-marks.ensures ∙ ap (λ (n : List Label). tested_at (states.Test c.args.route.now.number) (spot_in n c.args.spot.now)) c.in_ok-at.ensures in
    let adds = c.in_ok-all_hold.ensures.adds ∙ ap (λ (ps : List Expression). adding c.args.self.now c.args.needs.now (all_hold c.args.self.now.top (marks_of c.marked-marks.result) (all_conditions ps) (spot_in c.args.name.now c.args.spot.now))) c.as_slice-predicates.ensures ∙ ap (λ (m : Marks). adding c.args.self.now c.args.needs.now (all_hold c.args.self.now.top m (all_conditions c.args.route.now.step.now.predicates) (spot_in c.args.name.now c.args.spot.now))) marks in
    let gives = c.in_ok-all_hold.ensures.gives ∙ ap (λ (ps : List Expression). given c.args.self.now (all_hold c.args.self.now.top (marks_of c.marked-marks.result) (all_conditions ps) (spot_in c.args.name.now c.args.spot.now))) c.as_slice-predicates.ensures ∙ ap (λ (m : Marks). given c.args.self.now (all_hold c.args.self.now.top m (all_conditions c.args.route.now.step.now.predicates) (spot_in c.args.name.now c.args.spot.now))) marks in
    on_ok_weaker c.go_on.result (λ h. h ∙ ap (λ (n : List Label). adding c.args.self.now c.all_hold.new.needs (goes c.args.self.now.top (c.args.route.now.number + 1) (map main_of c.args.route.now.rest.now) (spot_in n c.args.spot.now))) c.in_ok-all_hold.ensures.name ∙ ap (λ (ns : List Need). adding c.args.self.now ns (goes c.args.self.now.top (c.args.route.now.number + 1) (map main_of c.args.route.now.rest.now) (spot_in c.args.name.now c.args.spot.now))) adds ∙ sym (where_goes c.args.self.now c.args.needs.now (all_hold c.args.self.now.top (tested_at (states.Test c.args.route.now.number) (spot_in c.args.name.now c.args.spot.now)) (all_conditions c.args.route.now.step.now.predicates) (spot_in c.args.name.now c.args.spot.now)) (goes c.args.self.now.top (c.args.route.now.number + 1) (map main_of c.args.route.now.rest.now) (spot_in c.args.name.now c.args.spot.now)) _ gives (sym c.unwrap_or-holds.ensures ∙ c.if-not-holds.false))) c.go_on.ensures.adds
