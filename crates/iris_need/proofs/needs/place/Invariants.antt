use Rattle.std.proofs.Common.{◌≡◌}
use Rattle.iris_need.specs.Needs.{with_state}
use Rattle.iris_need.proofs.States.{so_far}
use Rattle.iris_need.proofs.needs.place.Given as goal

abbrev pub invariant-loop-i : goal.invariant-loop-i
invariant-loop-i l = with_state l.states l.state ≡ so_far l.states l.state l.i
