-- What is taken of a fragment for the needs of an evaluation.
use Rattle.std.specs.Prelude.{◌≡◌, ◌+◌, ℕ, Bool, true, false, if◌then◌else◌, List, Option, Some, None, sum_by}
use Rattle.iris_base.specs.declared.name.Label.{Label}
use Rattle.iris_fragment.specs.declared.piece.Level.{Level}
use Rattle.iris_fragment.specs.declared.piece.Level.TheVariants as level
use Rattle.iris_fragment.specs.declared.piece.Piece.{Piece}
use Rattle.iris_fragment.specs.Contents.{Contents}
use Rattle.iris_fragment.specs.Usable.{usable, held_piece}
use Rattle.iris_need.specs.declared.need.Need.{Need}
use Rattle.iris_need.specs.Decided.{FullBelow}
use Rattle.iris_need.specs.Pieces.{Pieces, piece_at, view_of}
use Rattle.iris_need.specs.Run.{meets_known}
use Rattle.iris_gather.specs.Laid.{usable_at, joined_with}

-- a level asked for, where the node may be usable in full
abbrev pub level_up_to : Level → Bool → Level
level_up_to level.Full true = level.Full
level_up_to level.Full false = level.Ids
level_up_to level.Ids full = level.Ids

-- the greater level, up to that of a need, at which its node is usable, if it is held
abbrev pub level_taken : Contents → ℕ → Need → Level
level_taken f floor need = level_up_to need.level (usable f need.name level.Full floor)

-- the piece of a need's node at that level, where the view doesn't have the node at it
abbrev pub piece_taken : Contents → ℕ → ℕ → Pieces → Need → Option Piece
piece_taken f floor now view need = if meets_known (level_taken f floor need) (view_of view need.name) then None else held_piece f need.name (level_taken f floor need) now

-- ---- how much is left to take

abbrev pub one_unless : Bool → ℕ
one_unless true = 0
one_unless false = 1

-- at how many of the two levels a view doesn't have a node
abbrev pub levels_lacked : Pieces → List Label → ℕ
levels_lacked view name = one_unless (meets_known level.Ids (view_of view name)) + one_unless (meets_known level.Full (view_of view name))

-- the same for all nodes that a fragment holds
abbrev pub levels_left : Contents → Pieces → ℕ
levels_left f view = sum_by (λ entry. levels_lacked view entry.0) f.nodes

-- ---- between a view and the same view laid over a fragment

-- a piece, if there is one, has the name and the ids of the other, and its full part or none
abbrev pub IsWithin : Option Piece → Option Piece → Type 0
IsWithin None more = Unit {0}
IsWithin (Some piece) None = ⊥
IsWithin (Some piece) (Some more) = (piece.name ≡ more.name) × (piece.ids ≡ more.ids) × FullBelow piece.full more.full

-- The view grew to this one by pieces that are usable for the floor.
pub record IsBetween (f : Contents) (floor now : ℕ) (view over : Pieces) : Type 0 where
  pub has : (name : List Label) → IsWithin (piece_at view name) (piece_at over name)
  pub within : (name : List Label) → IsWithin (piece_at over name) (joined_with (piece_at view name) (usable_at f floor now name))
