use Rattle.std.proofs.Common.{length}
use Rattle.iris_need.proofs.elements.+is_parent.Given as goal

abbrev pub decreases-is_parent : goal.decreases-is_parent
decreases-is_parent l = length l.above.now
