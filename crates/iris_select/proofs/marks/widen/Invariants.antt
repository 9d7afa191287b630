use Rattle.std.proofs.Common.{◌+◌, ◌-◌, length}
use Rattle.iris_select.specs.Marks.{HaveSameMarks}
use Rattle.iris_select.proofs.marks.widen.Given as goal

abbrev pub decreases-loop-alloc : goal.decreases-loop-alloc
decreases-loop-alloc l = (l.at + 1) - length l.siblings.items

-- the same nodes are marked
abbrev pub invariant-loop-alloc : goal.invariant-loop-alloc
invariant-loop-alloc l = HaveSameMarks l.siblings.items l.fn.siblings.items
