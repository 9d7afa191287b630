use Rattle.std.proofs.Common.{◌≡◌, map, take}
use Rattle.iris_agent.specs.Handovers.{ids_alone}
use Rattle.iris_agent.proofs.handover.ids_alone.Given as goal

abbrev pub invariant-loop-piece : goal.invariant-loop-piece
invariant-loop-piece l = l.alone.items ≡ map ids_alone (take l.piece-index l.pieces)
