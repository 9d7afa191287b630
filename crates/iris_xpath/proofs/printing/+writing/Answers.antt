use Rattle.std.proofs.Common.{◌++◌, List, ℕ, ap, ◌∙◌, codes, string_bytes}
use Rattle.iris_xpath.specs.Printed as form
use Rattle.iris_xpath.proofs.Writing.{linked_more, linked_map, bracketed_more, path_told, compare_told, third}
use Rattle.iris_xpath.proofs.printing.+writing.Goals as goal

pub write_or-loop-i-preserved : goal.write_or-loop-i-preserved
write_or-loop-i-preserved _ c = linked_map (λ s. codes " or ") (λ s. s.text) form.shown _ _ _ _ _ _ _ c.loop-i-test.true c.part-item.is c.loop-i.invariant c.in_ok-write_link.ensures c.in_ok-write_expression.ensures

pub write_and-loop-i-preserved : goal.write_and-loop-i-preserved
write_and-loop-i-preserved _ c = linked_map (λ s. codes " and ") form.in_and form.shown _ _ _ _ _ _ _ c.loop-i-test.true c.part-item.is c.loop-i.invariant c.in_ok-write_link.ensures c.in_ok-write_in_and.ensures

pub write_parts-loop-i-preserved : goal.write_parts-loop-i-preserved
write_parts-loop-i-preserved _ c = linked_more form.before_part (form.part_text form.predicates_text) _ _ _ _ _ _ _ c.loop-i-test.true c.part-item.is c.loop-i.invariant (c.in_ok-write_link.ensures ∙ ap (λ (t : List ℕ). string_bytes c.loop-i.out ++ form.link_at c.loop-i.i t) c.before_part.ensures) c.in_ok-write_part.ensures

pub write_predicates-loop-predicate-preserved : goal.write_predicates-loop-predicate-preserved
write_predicates-loop-predicate-preserved _ c = bracketed_more _ _ _ _ _ _ _ _ c.loop-predicate-test.true c.predicate-item.is c.loop-predicate.invariant c.in_ok-push_str.ensures.bytes c.in_ok-write_expression.ensures c.in_ok-push_str-2.ensures.bytes

pub write_expression-returns-in-Path : goal.write_expression-returns-in-Path
write_expression-returns-in-Path _ c = rw (ap form.shown c.in-Path.is ∙ path_told c.in-Path.path) c.write_path.ensures

pub write_expression-returns-in_ok-push_str-in-Compare : goal.write_expression-returns-in_ok-push_str-in-Compare
write_expression-returns-in_ok-push_str-in-Compare _ c =
    rw (ap form.shown c.in-Compare.is ∙ compare_told c.in-Compare.left c.in-Compare.right c.in-Compare.comparison, third _ _ _ (form.operand_text form.predicates_text c.in-Compare.right) _ _ _ c.in_ok-write_operand-in-Compare.ensures c.in_ok-push_str-in-Compare.ensures.bytes c.sign.ensures) c.write_operand-in-Compare.ensures
