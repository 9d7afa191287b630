use Rattle.std.proofs.Common.{◌≡◌, rules, sym, subst, List}
use Rattle.std.proofs.lemmas.Map.Iter.{rest_so_far}
use Rattle.iris_fragment.specs.declared.piece.Piece.{Piece}
use Rattle.iris_need.specs.Pieces.{pieces_in, AreOrderedPieces}
use Rattle.iris_need.proofs.Pieces.{pieces_ordered}
use Rattle.iris_need.proofs.view.View.pieces.Goals as goal

pub returns-clause-ordered : goal.returns-clause-ordered
returns-clause-ordered c =
    let all : c.loop-piece.pieces.items ≡ pieces_in c.self.inside.map.entries = search (rules, rest_so_far) in
    subst (λ (ps : List Piece). AreOrderedPieces ps) (sym all) (pieces_ordered c.self.inside.map.entries c.self.invariant c.values-piece-items.ensures.ordered)
