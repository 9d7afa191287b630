use Rattle.std.proofs.Common.{◌≡◌}
use Rattle.iris_need.specs.Collected.{needs_of}
use Rattle.iris_need.proofs.needs.Needs.into_vec.Given as goal

abbrev pub invariant-loop-name : goal.invariant-loop-name
invariant-loop-name l = l.needs.items ≡ needs_of l.yielded
