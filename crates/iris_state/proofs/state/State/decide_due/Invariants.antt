use Rattle.iris_state.specs.Whole.{world_of}
use Rattle.iris_state.proofs.DueGathers.{dues, HasDecidedSome}
use Rattle.iris_state.proofs.state.State.decide_due.Given as goal

abbrev pub invariant-loop-number : goal.invariant-loop-number
invariant-loop-number l = HasDecidedSome l.fn.self l.self l.id l.lines.items

abbrev pub decreases-loop-number : goal.decreases-loop-number
decreases-loop-number l = dues (world_of l.self) l.id
