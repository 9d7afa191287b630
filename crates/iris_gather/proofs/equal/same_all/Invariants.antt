use Rattle.std.proofs.Common.{drop}
use Rattle.iris_gather.proofs.SameParts.{AreSameIf}
use Rattle.iris_gather.proofs.equal.same_all.Given as goal

abbrev pub invariant-loop-one : goal.invariant-loop-one
invariant-loop-one l = AreSameIf l.ones l.others (drop l.one-index l.ones) l.rest
