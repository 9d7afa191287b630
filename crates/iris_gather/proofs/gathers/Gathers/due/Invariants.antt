use Rattle.iris_gather.proofs.Passing.{IsPassing}
use Rattle.iris_gather.proofs.gathers.Gathers.due.Given as goal

abbrev pub invariant-loop-number : goal.invariant-loop-number
invariant-loop-number l = IsPassing l.self l.number-iterator
