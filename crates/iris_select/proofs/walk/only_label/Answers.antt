use Rattle.std.proofs.Common.{◌≡◌, List, drop, refl, sym, ap, ◌∙◌, Some, option_copied, slice_get}
use Rattle.iris_xpath.specs.declared.expression.Expression.{Expression}
use Rattle.iris_select.proofs.Stopping.{only_label, first_of}
use Rattle.iris_select.proofs.StoppingLooks.{only_look}
use Rattle.iris_select.proofs.walk.only_label.Goals as goal

pub returns-in-Ok-clause-fits : goal.returns-in-Ok-clause-fits
returns-in-Ok-clause-fits c =
    let at : slice_get c.args.step.now.predicates 0 ≡ Some c.in_ok-first.field-0.now = ap (λ (xs : List Expression). slice_get xs 0) (sym c.as_slice.ensures) ∙ sym c.in_ok-first.ensures.value in
    only_label c.args.step.now c.in_ok-kind.kind.now c.in_ok-name.name.now c.in_ok-name.value.now c.in_ok-first.field-0.now (drop 1 c.args.step.now.predicates) _ (sym c.in_ok-kind.ensures) (first_of c.args.step.now.predicates c.in_ok-first.field-0.now at)
    c.in_ok-name.ensures (sym c.if-not-is_id.ensures) refl c.in-Ok.ensures.ok

pub returns-in-Ok-clause-looks : goal.returns-in-Ok-clause-looks
returns-in-Ok-clause-looks c =
    let at : slice_get c.args.step.now.predicates 0 ≡ Some c.in_ok-first.field-0.now = ap (λ (xs : List Expression). slice_get xs 0) (sym c.as_slice.ensures) ∙ sym c.in_ok-first.ensures.value in
    only_look c.args.step.now c.in_ok-kind.kind.now c.in_ok-name.name.now c.in_ok-name.value.now c.in_ok-first.field-0.now (drop 1 c.args.step.now.predicates) _ (sym c.in_ok-kind.ensures) (first_of c.args.step.now.predicates c.in_ok-first.field-0.now at)
    c.in_ok-name.ensures (sym c.if-not-is_id.ensures) refl c.in-Ok.ensures.ok
