use Rattle.std.proofs.Common.{◌≡◌, ◌++◌, drop}
use Rattle.iris_gather.specs.Basis.{cites_told}
use Rattle.iris_gather.proofs.basis.cites.Given as goal

abbrev pub invariant-loop-piece : goal.invariant-loop-piece
invariant-loop-piece l = l.cites.items ++ cites_told (drop l.piece-index l.pieces) ≡ cites_told l.pieces
