use Rattle.std.proofs.Common.{◌≡◌, drop}
use Rattle.iris_need.specs.Pieces.{laid_over}
use Rattle.iris_gather.proofs.gather.with_pieces.Given as goal

abbrev pub invariant-loop-piece : goal.invariant-loop-piece
invariant-loop-piece l = laid_over (drop l.piece-index l.pieces) l.more ≡ laid_over l.pieces l.view
