use Rattle.std.proofs.Common.{◌≡◌, ◌+◌, ◌*◌, take, map}
use Rattle.iris_xpath.specs.Tally as tally
use Rattle.iris_xpath.proofs.tally.+tallying.Given as goal

-- What is tallied within something is no deeper than it, and where it is as deep it is of a lesser kind.

abbrev pub decreases-tally_of : goal.decreases-tally_of
decreases-tally_of l = 5 * goal.size-tally_of l

abbrev pub decreases-tally_all : goal.decreases-tally_all
decreases-tally_all l = 5 * goal.size-tally_all l + 1

abbrev pub decreases-tally_part : goal.decreases-tally_part
decreases-tally_part l = 5 * goal.size-tally_part l + 2

abbrev pub decreases-tally_path : goal.decreases-tally_path
decreases-tally_path l = 5 * goal.size-tally_path l + 3

abbrev pub decreases-tally_operand : goal.decreases-tally_operand
decreases-tally_operand l = 5 * goal.size-tally_operand l + 4

abbrev pub invariant-tally_all-loop-expression : goal.invariant-tally_all-loop-expression
invariant-tally_all-loop-expression l = l.all ≡ tally.capped (tally.tally_all (take l.expression-index l.expression-items))

abbrev pub invariant-tally_path-loop-part : goal.invariant-tally_path-loop-part
invariant-tally_path-loop-part l = l.inner ≡ tally.capped (tally.joined tally.nothing (map tally.tally_part (take l.part-index l.part-items)))
