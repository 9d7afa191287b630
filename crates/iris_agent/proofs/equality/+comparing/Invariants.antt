use Rattle.std.proofs.Common.{◌≡◌, ◌+◌, ◌*◌, take}
use Rattle.iris_agent.proofs.equality.+comparing.Given as goal

-- What is compared within something is no deeper than it, and where it is as deep it is of a lesser kind.

abbrev pub decreases-same_expression : goal.decreases-same_expression
decreases-same_expression l = 7 * goal.size-same_expression l

abbrev pub decreases-same_all : goal.decreases-same_all
decreases-same_all l = 7 * goal.size-same_all l + 1

abbrev pub decreases-same_step : goal.decreases-same_step
decreases-same_step l = 7 * goal.size-same_step l + 2

abbrev pub decreases-same_part : goal.decreases-same_part
decreases-same_part l = 7 * goal.size-same_part l + 3

abbrev pub decreases-same_parts : goal.decreases-same_parts
decreases-same_parts l = 7 * goal.size-same_parts l + 4

abbrev pub decreases-same_path : goal.decreases-same_path
decreases-same_path l = 7 * goal.size-same_path l + 5

abbrev pub decreases-same_operand : goal.decreases-same_operand
decreases-same_operand l = 7 * goal.size-same_operand l + 6

abbrev pub invariant-same_all-loop-index : goal.invariant-same_all-loop-index
invariant-same_all-loop-index l = take l.index l.ones-2 ≡ take l.index l.others-2

abbrev pub invariant-same_parts-loop-index : goal.invariant-same_parts-loop-index
invariant-same_parts-loop-index l = take l.index l.ones-2 ≡ take l.index l.others-2
