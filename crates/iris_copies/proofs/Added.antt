-- What is so of the pieces of a view stays so as further ones are added.
use Rattle.std.proofs.Common.{◌≡◌, List, [], ◌∷◌, All, Option, Some, None, IfSome, refl, subst}
use Rattle.std.proofs.lemmas.List.Elements.{All-head, All-tail}
use Rattle.std.proofs.lemmas.Map.Views.{IfSome-lookup_from_All, All-values-insert_entry}
use Rattle.std.specs.BTreeMap.{is_at}
use Rattle.iris_base.specs.declared.name.Label.{Label}
use Rattle.iris_fragment.specs.declared.piece.Piece.{Piece}
use Rattle.iris_need.specs.Pieces.{Pieces, AreNamed, piece_at, pieces_in, joined_pieces, with_piece, laid_over}
use Rattle.iris_need.proofs.Pieces.{names_cmp, piece_named, with_piece_named}

-- a fact of pieces that a piece keeps which is added to another one of its name
abbrev pub IsJoined : (Piece → Type 0) → Type 0
IsJoined P = (old piece : Piece) → old.name ≡ piece.name → P old → P piece → P (joined_pieces (Some old) piece)

-- what is so of all pieces is so of the one of a name
pub found_is : (P : Piece → Type 0) (view : Pieces) (name : List Label) (piece : Piece) → All P (pieces_in view) → piece_at view name ≡ Some piece → P piece
found_is P view name piece all found = by (piece_at view name) found (IfSome-lookup_from_All P (is_at (names_cmp name)) view all)
  where
    by : (o : Option Piece) → o ≡ Some piece → IfSome o P → P piece
    by None e h = absurd (cc)
    by (Some p) e h = let same : p ≡ piece = cc in subst P same h

added_is : (P : Piece → Type 0) → IsJoined P → (view : Pieces) (piece : Piece) → AreNamed view → All P (pieces_in view) → P piece → P (joined_pieces (piece_at view piece.name) piece)
added_is P joins view piece named all is = by (piece_at view piece.name) refl
  where
    by : (o : Option Piece) → piece_at view piece.name ≡ o → P (joined_pieces o piece)
    by None found = is
    by (Some old) found = joins old piece (piece_named view piece.name old named found) (found_is P view piece.name old all found) is

pub added_each : (P : Piece → Type 0) → IsJoined P → (view : Pieces) (piece : Piece) → AreNamed view → All P (pieces_in view) → P piece → All P (pieces_in (with_piece view piece))
added_each P joins view piece named all is = All-values-insert_entry names_cmp piece.name (joined_pieces (piece_at view piece.name) piece) P view all (added_is P joins view piece named all is)

pub laid_each : (P : Piece → Type 0) → IsJoined P → (view : Pieces) (pieces : List Piece) → AreNamed view → All P (pieces_in view) → All P pieces → All P (pieces_in (laid_over pieces view))
laid_each P joins view [] named all each = all
laid_each P joins view (piece ∷ pieces) named all each =
    laid_each P joins (with_piece view piece) pieces (with_piece_named view piece named) (added_each P joins view piece named all (All-head P piece pieces each)) (All-tail P piece pieces each)
