use Rattle.std.proofs.Common.{◌≡◌, take}
use Rattle.iris_agent.proofs.equality.same_query.Given as goal

abbrev pub invariant-loop-index : goal.invariant-loop-index
invariant-loop-index l = take l.index l.ones ≡ take l.index l.others
