use Rattle.std.proofs.Common.{◌≡◌, ◌<◌, length, take, get_or, sym, ap, subst, ◌∙◌, arith}
use Rattle.std.proofs.lemmas.List.Sums.{fold_more}
use Rattle.std.proofs.lemmas.List.Elements.{All-get_or}
use Rattle.iris_fragment.specs.declared.piece.Piece.{Piece}
use Rattle.iris_fragment.specs.Shape.{IsPieceOf}
use Rattle.iris_cache.specs.Recency.{Cache, taken_by, taken_all}
use Rattle.iris_cache.proofs.cached.Cached.take_all.Goals as goal

pub loop-piece-preserved : goal.loop-piece-preserved
loop-piece-preserved c =
    let within : c.loop-piece.piece-index < length c.args.pieces.now = omega arith in
    let copy : c.in_ok-copy.field-0 ≡ get_or c.args.pieces.now c.loop-piece.piece-index c.piece-item.result = c.in_ok-copy.ensures ∙ c.piece-item.is in (
      c.in_ok-take_in.ensures.ok ∙ ap (λ (cache : Cache). taken_by cache c.in_ok-copy.field-0) c.loop-piece.invariant.0
          ∙ ap (λ (piece : Piece). taken_by (taken_all c.args.self.now.cache (take c.loop-piece.piece-index c.args.pieces.now)) piece) copy
          ∙ sym (fold_more taken_by c.args.self.now.cache c.args.pieces.now c.loop-piece.piece-index c.piece-item.result within),
      (λ city all part.
          c.in_ok-take_in.ensures.of_city city
          (subst (λ (piece : Piece). IsPieceOf city piece) (sym copy) (All-get_or (IsPieceOf city) c.args.pieces.now c.loop-piece.piece-index c.piece-item.result within all))
          (c.loop-piece.invariant.1 city all part)),
    )
