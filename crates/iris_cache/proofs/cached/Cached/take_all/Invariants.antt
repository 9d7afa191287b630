use Rattle.std.proofs.Common.{◌≡◌, take}
use Rattle.std.specs.Prelude.{All}
use Rattle.iris_tree.specs.Universe.{Node}
use Rattle.iris_fragment.specs.Shape.{IsPieceOf, IsFragmentOf}
use Rattle.iris_cache.specs.Recency.{taken_all}
use Rattle.iris_cache.proofs.cached.Cached.take_all.Given as goal

abbrev pub invariant-loop-piece : goal.invariant-loop-piece
invariant-loop-piece l =
    (l.self.cache ≡ taken_all l.initial.self.cache (take l.piece-index l.pieces)) × ((city : Node) → All (IsPieceOf city) l.pieces → IsFragmentOf city l.initial.self.cache.contents → IsFragmentOf city l.self.cache.contents)
