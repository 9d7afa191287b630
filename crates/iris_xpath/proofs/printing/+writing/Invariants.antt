use Rattle.std.proofs.Common.{◌≡◌, ◌++◌, ◌+◌, ◌*◌, take, map, string_bytes}
use Rattle.iris_xpath.specs.Printed as form
use Rattle.iris_xpath.proofs.printing.+writing.Given as goal

-- What is written within something is no deeper than it, and where it is as deep it is of a lesser kind.

abbrev pub decreases-write_expression : goal.decreases-write_expression
decreases-write_expression l = 8 * goal.size-write_expression l

abbrev pub decreases-write_in_and : goal.decreases-write_in_and
decreases-write_in_and l = 8 * goal.size-write_in_and l + 1

abbrev pub decreases-write_or : goal.decreases-write_or
decreases-write_or l = 8 * goal.size-write_or l + 2

abbrev pub decreases-write_and : goal.decreases-write_and
decreases-write_and l = 8 * goal.size-write_and l + 2

abbrev pub decreases-write_predicates : goal.decreases-write_predicates
decreases-write_predicates l = 8 * goal.size-write_predicates l + 2

abbrev pub decreases-write_step : goal.decreases-write_step
decreases-write_step l = 8 * goal.size-write_step l + 3

abbrev pub decreases-write_part : goal.decreases-write_part
decreases-write_part l = 8 * goal.size-write_part l + 4

abbrev pub decreases-write_parts : goal.decreases-write_parts
decreases-write_parts l = 8 * goal.size-write_parts l + 5

abbrev pub decreases-write_path : goal.decreases-write_path
decreases-write_path l = 8 * goal.size-write_path l + 6

abbrev pub decreases-write_operand : goal.decreases-write_operand
decreases-write_operand l = 8 * goal.size-write_operand l + 7

abbrev pub invariant-write_predicates-loop-predicate : goal.invariant-write_predicates-loop-predicate
invariant-write_predicates-loop-predicate l = string_bytes l.out ≡ string_bytes l.initial.out ++ form.predicates_text (take l.predicate-index l.predicate-items)

abbrev pub invariant-write_or-loop-i : goal.invariant-write_or-loop-i
invariant-write_or-loop-i l = string_bytes l.out ≡ string_bytes l.initial.out ++ form.or_text (map form.shown (take l.i l.part-items))

abbrev pub invariant-write_and-loop-i : goal.invariant-write_and-loop-i
invariant-write_and-loop-i l = string_bytes l.out ≡ string_bytes l.initial.out ++ form.and_text (map form.shown (take l.i l.part-items))

abbrev pub invariant-write_parts-loop-i : goal.invariant-write_parts-loop-i
invariant-write_parts-loop-i l = string_bytes l.out ≡ string_bytes l.initial.out ++ form.linked form.before_part (form.part_text form.predicates_text) (take l.i l.part-items)
