-- What the giver's part of a move leaves.
use Rattle.std.specs.Prelude.{ℕ, ◌-◌, List, ◌++◌, map, take, length, option_to_list}
use Rattle.std.specs.List.{filter_map, range_with_len}
use Rattle.iris_base.specs.declared.name.Label.{Label}
use Rattle.iris_fragment.specs.declared.piece.Level.TheVariants as level
use Rattle.iris_fragment.specs.declared.piece.Piece.{Piece}
use Rattle.iris_fragment.specs.Contents.{Contents}
use Rattle.iris_fragment.specs.Usable.{held_piece}

-- the names above a name, from the top node's down, without the name itself
abbrev pub names_above : List Label → List (List Label)
names_above name = map (λ count. take count name) (range_with_len 1 (length name - 1))

-- of each node above, its ids, from the top node down
abbrev pub pieces_above : Contents → List Label → ℕ → List Piece
pieces_above f name now = filter_map (λ above. held_piece f above level.Ids now) (names_above name)

-- the pieces of a handover: those of the nodes above, and then the node's own in full, stamped with the present moment
abbrev pub handover_pieces : Contents → List Label → ℕ → List Piece
handover_pieces f name now = pieces_above f name now ++ option_to_list (held_piece f name level.Full now)
