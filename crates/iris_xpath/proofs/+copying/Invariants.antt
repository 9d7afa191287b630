use Rattle.std.proofs.Common.{◌≡◌, ◌+◌, ◌*◌, take}
use Rattle.iris_xpath.proofs.+copying.Given as goal

-- What is copied within something is no deeper than it, and where it is as deep it is of a lesser kind.

abbrev pub decreases-expression::Expression::copy : goal.decreases-expression::Expression::copy
decreases-expression::Expression::copy l = 6 * goal.size-expression::Expression::copy l

abbrev pub decreases-copying::copy_all : goal.decreases-copying::copy_all
decreases-copying::copy_all l = 6 * goal.size-copying::copy_all l + 1

abbrev pub decreases-copying::Step+Expression::copy : goal.decreases-copying::Step+Expression::copy
decreases-copying::Step+Expression::copy l = 6 * goal.size-copying::Step+Expression::copy l + 2

abbrev pub decreases-copying::Part+Expression::copy : goal.decreases-copying::Part+Expression::copy
decreases-copying::Part+Expression::copy l = 6 * goal.size-copying::Part+Expression::copy l + 3

abbrev pub decreases-copying::Path+Expression::copy : goal.decreases-copying::Path+Expression::copy
decreases-copying::Path+Expression::copy l = 6 * goal.size-copying::Path+Expression::copy l + 4

abbrev pub decreases-copying::Operand+Expression::copy : goal.decreases-copying::Operand+Expression::copy
decreases-copying::Operand+Expression::copy l = 6 * goal.size-copying::Operand+Expression::copy l + 5

abbrev pub invariant-copying::Path+Expression::copy-loop-part : goal.invariant-copying::Path+Expression::copy-loop-part
invariant-copying::Path+Expression::copy-loop-part l = l.parts ≡ take l.part-index l.part-items

abbrev pub invariant-copying::copy_all-loop-expression : goal.invariant-copying::copy_all-loop-expression
invariant-copying::copy_all-loop-expression l = l.copies ≡ take l.expression-index l.expression-items
