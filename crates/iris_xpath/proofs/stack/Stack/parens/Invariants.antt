use Rattle.std.proofs.Common.{◌≡◌, ◌+◌, ◌≤◌, length, reverse}
use Rattle.iris_xpath.specs.Parens.{parens_in}
use Rattle.iris_xpath.proofs.stack.Stack.parens.Given as goal

abbrev pub invariant-frames : goal.invariant-frames
invariant-frames l = (parens_in l.fn.self + length l.rest ≡ l.total + parens_in (reverse l.rest)) × (length l.rest ≤ l.total)

abbrev pub decreases-frames : goal.decreases-frames
decreases-frames l = length l.rest
