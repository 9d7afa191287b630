-- What a view takes of another one over which an evaluation was made.
use Rattle.std.specs.Prelude.{◌≡◌, List, Option, Some, None, IsSome, option_map, option_and_then}
use Rattle.std.specs.List.{filter_map}
use Rattle.iris_base.specs.declared.name.Label.{Label}
use Rattle.iris_fragment.specs.declared.piece.Full.{Full}
use Rattle.iris_fragment.specs.declared.piece.Level.{Level}
use Rattle.iris_fragment.specs.declared.piece.Level.TheVariants as level
use Rattle.iris_fragment.specs.declared.piece.Piece.{Piece}
use Rattle.iris_fragment.specs.Usable.{ids_piece}
use Rattle.iris_xpath.specs.Syntax.{Syntax}
use Rattle.iris_need.specs.declared.need.Need.{Need}
use Rattle.iris_need.specs.declared.need.Start.{Start}
use Rattle.iris_need.specs.Needs.{support_of}
use Rattle.iris_need.specs.Pieces.{Pieces, piece_at, laid_over}

-- a piece is enough for a level
abbrev pub IsAtLevel : Level → Piece → Type 0
IsAtLevel level.Ids piece = Unit {0}
IsAtLevel level.Full piece = IsSome piece.full

-- a piece as far as a level asks
abbrev pub at_level : Level → Piece → Piece
at_level level.Ids piece = ids_piece piece.name piece.ids
at_level level.Full piece = piece

-- the pieces of these needs as a view has them
abbrev pub pieces_for : Pieces → List Need → List Piece
pieces_for view needs = filter_map (λ need. option_map (at_level need.level) (piece_at view need.name)) needs

-- the view, once it took what an evaluation over another one rests on
abbrev pub decided : Syntax → Start → Pieces → Pieces → Pieces
decided query start over view = laid_over (pieces_for over (support_of query start over)) view

-- ---- one view is part of another

-- what a view has of a node in full
abbrev pub full_part_at : Pieces → List Label → Option Full
full_part_at view name = option_and_then (λ piece. piece.full) (piece_at view name)

-- a full part, if there is one, is the other one
abbrev pub FullBelow : Option Full → Option Full → Type 0
FullBelow None more = Unit {0}
FullBelow (Some full) more = more ≡ Some full

-- a piece, if there is one, has the ids of the other, and its full part or none
abbrev pub PieceBelow : Option Piece → Option Piece → Type 0
PieceBelow None more = Unit {0}
PieceBelow (Some piece) None = ⊥
PieceBelow (Some piece) (Some more) = (piece.ids ≡ more.ids) × FullBelow piece.full more.full

-- what the one view has of a node the other has too, with the same version and stamp
abbrev pub IsPartOfView : Pieces → Pieces → Type 0
IsPartOfView view more = (name : List Label) → PieceBelow (piece_at view name) (piece_at more name)
