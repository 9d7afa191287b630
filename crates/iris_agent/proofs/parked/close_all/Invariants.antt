use Rattle.std.proofs.Common.{◌≤◌}
use Rattle.iris_agent.specs.Given.{AreClosed}
use Rattle.iris_agent.proofs.parked.close_all.Given as goal

abbrev pub invariant-loop-number : goal.invariant-loop-number
invariant-loop-number l = record { from : l.first ≤ l.number; closed : AreClosed l.initial.gathers l.gathers l.first l.number }
