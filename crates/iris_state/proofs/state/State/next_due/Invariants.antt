use Rattle.std.proofs.Common.{◌-◌, length}
use Rattle.iris_state.proofs.NextDue.{AreLowest}
use Rattle.iris_state.proofs.state.State.next_due.Given as goal

abbrev pub invariant-loop-at : goal.invariant-loop-at
invariant-loop-at l = AreLowest l.self.agents l.at l.next

abbrev pub decreases-loop-at : goal.decreases-loop-at
decreases-loop-at l = length l.self.agents - l.at
