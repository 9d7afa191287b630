use Rattle.std.proofs.Common.{◌≡◌, ◌≤◌, ◌||◌, ◌∙◌, sym, ap, Some, slice_get, length, arith}
use Rattle.std.specs.List.{list_any}
use Rattle.iris_select.specs.Parts.{Child, part_of, child_of, children, children_in}
use Rattle.iris_select.specs.Evaluating.{attributes_in}
use Rattle.iris_select.proofs.More.{one_gone, none_gone, all_gone}
use Rattle.iris_select.proofs.Siblings.{attributes_form}
use Rattle.iris_select.proofs.Weights.{child_smaller}
use Rattle.iris_select.proofs.evaluator.+add_attributes.Goals as goal

pub add_attributes-requires : goal.add_attributes-requires
add_attributes-requires t c =
    let there : slice_get (children c.args.top.now (part_of c.args.spot)) c.loop-at.at ≡ Some (child_of c.get.result) = ap (λ cs. slice_get cs c.loop-at.at) (sym c.children-children.ensures.value) ∙ c.get.ensures in
    (omega (arith, child_smaller c.args.top.now (part_of c.args.spot) c.loop-at.at (child_of c.get.result) there), tt)

pub loop-at-init : goal.loop-at-init
loop-at-init t c =
    λ test. none_gone (λ (d : Child). list_any test (attributes_in c.args.top.now d.part c.args.name.now)) (children c.args.top.now (part_of c.args.spot)) test _ _ _ _ (c.in_ok-add_attribute.ensures test)
    (attributes_form c.args.top.now (part_of c.args.spot) c.args.name.now c.children-children.ensures.ordered test)

pub loop-at-preserved : goal.loop-at-preserved
loop-at-preserved t c =
    let there : slice_get (children c.args.top.now (part_of c.args.spot)) c.loop-at.at ≡ Some (child_of c.get.result) = ap (λ cs. slice_get cs c.loop-at.at) (sym c.children-children.ensures.value) ∙ c.get.ensures in
    λ test. one_gone (λ (d : Child). list_any test (attributes_in c.args.top.now d.part c.args.name.now)) (children c.args.top.now (part_of c.args.spot)) c.loop-at.at (child_of c.get.result) test _ _ _ there (c.in_ok-add_attributes.ensures test) (c.loop-at.invariant test)

pub returns : goal.returns
returns t c =
    let past : length (children c.args.top.now (part_of c.args.spot)) ≤ c.loop-at.at = omega (arith, c.len-at-end.ensures, ap (λ cs. length cs) c.children-children.ensures.value) in
    λ test. all_gone (λ (d : Child). list_any test (attributes_in c.args.top.now d.part c.args.name.now)) (children c.args.top.now (part_of c.args.spot)) c.loop-at.at test _ _ past (c.loop-at.invariant test)
