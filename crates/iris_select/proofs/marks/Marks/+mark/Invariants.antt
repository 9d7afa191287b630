use Rattle.std.proofs.Common.{length}
use Rattle.iris_select.proofs.marks.Marks.+mark.Given as goal

abbrev pub decreases-mark : goal.decreases-mark
decreases-mark l = length l.path.now
