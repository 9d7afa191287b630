use Rattle.std.proofs.Common.{◌≡◌, take}
use Rattle.iris_tree.specs.TextLen.{saturated}
use Rattle.iris_posts.specs.Weights.{pieces_weight}
use Rattle.iris_posts.proofs.weights.pieces_weight.Given as goal

abbrev pub invariant-loop-piece : goal.invariant-loop-piece
invariant-loop-piece l = l.sum ≡ saturated (pieces_weight (take l.piece-index l.pieces))
