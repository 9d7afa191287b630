-- Which nodes of a fragment may be used, and their pieces.
use Rattle.std.specs.Prelude.{ℕ, Bool, true, false, leb, List, Option, Some, None, if◌then◌else◌, option_map, option_and_then, filter_map}
use Rattle.iris_base.specs.declared.name.Label.{Label}
use Rattle.iris_fragment.specs.declared.held.HeldNode.{HeldNode}
use Rattle.iris_fragment.specs.declared.held.Part.{Part}
use Rattle.iris_fragment.specs.declared.held.Part.TheVariants.{Own, Copied, Bare}
use Rattle.iris_fragment.specs.declared.piece.Level.{Level}
use Rattle.iris_fragment.specs.declared.piece.Level.TheVariants as level
use Rattle.iris_fragment.specs.declared.piece.Full.{Full}
use Rattle.iris_fragment.specs.declared.piece.Piece.{Piece}
use Rattle.iris_fragment.specs.Contents.{Contents, held_at}

-- at Full: owned, or a copy with a stamp at or after the floor; at Ids: held
abbrev pub is_usable : Part → Level → ℕ → Bool
is_usable part level.Ids floor = true
is_usable (Own local version) level.Full floor = true
is_usable (Copied full) level.Full floor = leb floor full.stamp
is_usable Bare level.Full floor = false

-- the same of a node that is held or not
abbrev pub is_usable_in : Option HeldNode → Level → ℕ → Bool
is_usable_in None level floor = false
is_usable_in (Some node) level floor = is_usable node.part level floor

-- whether a fragment's node of that name is usable at that level for that floor
abbrev pub usable : Contents → List Label → Level → ℕ → Bool
usable f name level floor = is_usable_in (held_at f.nodes name) level floor

-- the full part; an owned value is stamped with the present moment
abbrev pub full_held : Part → ℕ → Option Full
full_held (Own local version) now = Some (record { local = local; version = version; stamp = now })
full_held (Copied full) now = Some full
full_held Bare now = None

-- a piece without a full part
abbrev pub ids_piece : List Label → List Label → Piece
ids_piece name ids = record { name = name; ids = ids; full = None }

-- a piece with a full part
abbrev pub full_piece : List Label → List Label → Full → Piece
full_piece name ids full = record { name = name; ids = ids; full = Some full }

-- the piece of a held node at a level
abbrev pub piece_of : List Label → HeldNode → Level → ℕ → Option Piece
piece_of name node level.Ids now = Some (ids_piece name node.ids)
piece_of name node level.Full now = option_map (full_piece name node.ids) (full_held node.part now)

-- a fragment's piece of the node of that name at that level, where it holds it at that level
abbrev pub held_piece : Contents → List Label → Level → ℕ → Option Piece
held_piece f name level now = option_and_then (λ node. piece_of name node level now) (held_at f.nodes name)

-- the greater level at which a held node is usable for a floor
abbrev pub usable_level : Part → ℕ → Option Level
usable_level part floor = if is_usable part level.Full floor then Some level.Full else if is_usable part level.Ids floor then Some level.Ids else None

-- the piece of a held node at the greater level at which it is usable
abbrev pub usable_piece : ℕ → ℕ → List Label × HeldNode → Option Piece
usable_piece floor now e = option_and_then (λ level. piece_of e.0 e.1 level now) (usable_level e.1.part floor)

-- in the order of names, the piece of each node that is usable at some level for that floor, at the greater such level
abbrev pub usable_pieces : Contents → ℕ → ℕ → List Piece
usable_pieces f floor now = filter_map (usable_piece floor now) f.nodes
