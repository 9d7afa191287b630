-- A view laid over what of a fragment is usable.
use Rattle.std.specs.Prelude.{◌≡◌, ℕ, List, Option, Some, None, option_and_then}
use Rattle.iris_base.specs.declared.name.Label.{Label}
use Rattle.iris_fragment.specs.declared.piece.Piece.{Piece}
use Rattle.iris_fragment.specs.Contents.{Contents, held_at}
use Rattle.iris_fragment.specs.Usable.{usable_piece, usable_pieces}
use Rattle.iris_xpath.specs.Syntax.{Syntax}
use Rattle.iris_need.specs.declared.need.Start.{Start}
use Rattle.iris_need.specs.Decided.{pieces_for, IsPartOfView}
use Rattle.iris_need.specs.Needs.{missing_of, support_of}
use Rattle.iris_need.specs.Pieces.{Pieces, joined_pieces, laid_over}

-- a view laid over what of a fragment is usable for a floor: what the view has stays, and an owned value is stamped with the present moment
abbrev pub laid : Contents → ℕ → ℕ → Pieces → Pieces
laid f floor now view = laid_over (usable_pieces f floor now) view

-- ---- at one name

-- what of a node is usable for a floor
abbrev pub usable_at : Contents → ℕ → ℕ → List Label → Option Piece
usable_at f floor now name = option_and_then (λ node. usable_piece floor now (name, node)) (held_at f.nodes name)

-- a piece, if there is one, after another one, if there is one
abbrev pub joined_with : Option Piece → Option Piece → Option Piece
joined_with old None = old
joined_with old (Some piece) = Some (joined_pieces old piece)

-- ---- a part that tells the same

-- A part of a view over which an evaluation tells the same: what is missing, what it rests on, and the pieces of that.
pub record TellsSame (query : Syntax) (start : Start) (over all : Pieces) : Type 0 where
  pub part : IsPartOfView over all
  pub missing : missing_of query start over ≡ missing_of query start all
  pub support : support_of query start over ≡ support_of query start all
  pub pieces : pieces_for over (support_of query start all) ≡ pieces_for all (support_of query start all)
