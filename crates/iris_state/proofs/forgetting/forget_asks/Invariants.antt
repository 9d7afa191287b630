use Rattle.iris_state.proofs.Naming.{AreInRound}
use Rattle.iris_state.proofs.forgetting.forget_asks.Given as goal

abbrev pub invariant-loop-left : goal.invariant-loop-left
invariant-loop-left l = AreInRound l.fn.agents.items l.agents.items l.left

abbrev pub decreases-loop-left : goal.decreases-loop-left
decreases-loop-left l = l.left
