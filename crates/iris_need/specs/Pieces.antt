-- A view: pieces by their names, and which documents agree with it.
use Rattle.std.specs.Prelude.{◌≡◌, List, map, fold, All, Option, Some, None, IfSome, option_map}
use Rattle.std.specs.Map.{lookup, keys_of}
use Rattle.std.specs.BTreeMap.{is_at, insert_entry}
use Rattle.std.specs.Cmp.Lexicographic.{slice_cmp}
use Rattle.std.specs.List.Sorted.{IsStrictlySortedBy}
use Rattle.std.specs.Ordering.{on}
use Rattle.std.specs.declared.cmp.Ordering.{Ordering}
use Rattle.iris_base.specs.declared.name.Label.{Label}
use Rattle.iris_base.specs.NameOrder.{label_cmp}
use Rattle.iris_tree.specs.Universe.{Node, local_of, ids_of, node_at}
use Rattle.iris_fragment.specs.declared.piece.Full.{Full}
use Rattle.iris_fragment.specs.declared.piece.Piece.{Piece}
use Rattle.iris_need.specs.Run.{Known, View}

-- pieces in the order of their names, each under its name
abbrev pub Pieces : Type 0
Pieces = List (List Label × Piece)

abbrev pub AreNamed : Pieces → Type 0
AreNamed pieces = All (λ entry. entry.0 ≡ entry.1.name) pieces

-- the names rise, so each is there once
abbrev pub HaveRisingNames : Pieces → Type 0
HaveRisingNames pieces = IsStrictlySortedBy (slice_cmp label_cmp) (keys_of pieces)

abbrev pub piece_at : Pieces → List Label → Option Piece
piece_at pieces name = lookup (is_at (slice_cmp label_cmp name)) pieces

-- all pieces, in the order of their names
abbrev pub pieces_in : Pieces → List Piece
pieces_in pieces = map (λ entry. entry.1) pieces

-- pieces by their names
abbrev pub piece_cmp : Piece → Piece → Ordering
piece_cmp = on (λ piece. piece.name) (slice_cmp label_cmp)

-- the names of the pieces rise, so each is there once
abbrev pub AreOrderedPieces : List Piece → Type 0
AreOrderedPieces pieces = IsStrictlySortedBy piece_cmp pieces

-- the first full part stays
abbrev pub first_full : Option Full → Option Full → Option Full
first_full (Some full) later = Some full
first_full None later = later

-- a piece after another of the same name: the ids that were there stay
abbrev pub joined_pieces : Option Piece → Piece → Piece
joined_pieces None piece = piece
joined_pieces (Some old) piece = record { name = old.name; ids = old.ids; full = first_full old.full piece.full }

-- the view with one piece more
abbrev pub with_piece : Pieces → Piece → Pieces
with_piece pieces piece = insert_entry (slice_cmp label_cmp) pieces piece.name (joined_pieces (piece_at pieces piece.name) piece)

-- these pieces added to a view, one after another: what the view has stays
abbrev pub laid_over : List Piece → Pieces → Pieces
laid_over pieces view = fold with_piece view pieces

-- ---- what an evaluation sees of it

abbrev pub known_of : Piece → Known
known_of piece = record { ids = piece.ids; local = option_map (λ full. full.local) piece.full }

abbrev pub view_of : Pieces → View
view_of pieces name = option_map known_of (piece_at pieces name)

-- ---- documents that agree with it

-- the local information of a full part is that of the node
abbrev pub IsLocalOf : Node → Option Full → Type 0
IsLocalOf n full = IfSome full (λ f. f.local ≡ local_of n)

-- what a piece tells of a name is so of a node of the document: it has that node's ids and, where it is full, its local information
abbrev pub IsPieceAt : Node → List Label → Piece → Type 0
IsPieceAt document name piece = (n : Node) × (node_at document name ≡ Some n) × (piece.ids ≡ ids_of n) × IsLocalOf n piece.full

-- the document agrees with the view
abbrev pub Agrees : Node → Pieces → Type 0
Agrees document pieces = All (λ entry. IsPieceAt document entry.0 entry.1) pieces

-- the document agrees with each of these pieces
abbrev pub AgreesWith : Node → List Piece → Type 0
AgreesWith document pieces = All (λ piece. IsPieceAt document piece.name piece) pieces
