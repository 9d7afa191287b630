use Rattle.std.proofs.Common.{◌≡◌, ◌++◌, drop}
use Rattle.iris_agent.specs.Starts.{owned_names}
use Rattle.iris_agent.proofs.start.owned_names.Given as goal

-- the names so far, and then those of the pieces that are left, are all
abbrev pub invariant-loop-piece : goal.invariant-loop-piece
invariant-loop-piece l = l.names.items ++ owned_names (drop l.piece-index l.pieces) ≡ owned_names l.pieces
