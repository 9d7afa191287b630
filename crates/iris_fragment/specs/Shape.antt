-- The shape of fragments.
use Rattle.std.specs.Prelude.{◌≡◌, ◌↔◌, ℕ, true, false, List, Option, Some, IsSome, option_map}
use Rattle.std.specs.List.Sorted.{IsStrictlySortedBy}
use Rattle.std.specs.Map.{keys_of}
use Rattle.std.specs.Cmp.Lexicographic.{slice_cmp}
use Rattle.iris_base.specs.declared.name.Label.{Label}
use Rattle.iris_base.specs.NameOrder.{label_cmp}
use Rattle.iris_tree.specs.Universe.{Node, label_of, ids_of, node_at}
use Rattle.iris_fragment.specs.declared.held.HeldNode.{HeldNode}
use Rattle.iris_fragment.specs.declared.piece.Piece.{Piece}
use Rattle.iris_fragment.specs.declared.piece.Level.TheVariants as level
use Rattle.iris_fragment.specs.declared.status.Status.TheVariants.{Incomplete}
use Rattle.iris_fragment.specs.Contents.{Nodes, Contents, held_at, is_held, has_place, status, is_held_at}
use Rattle.iris_fragment.specs.Usable.{held_piece}

-- the name above each held name is the document's or a held one
abbrev pub IsRooted : Nodes → Type 0
IsRooted nodes = (name : List Label) → is_held nodes name ≡ true → has_place nodes name ≡ true

-- the names rise, so each is there once
abbrev pub HaveRisingNames : Nodes → Type 0
HaveRisingNames nodes = IsStrictlySortedBy (slice_cmp label_cmp) (keys_of nodes)

-- the ids of a city's node; none where there is no such node
abbrev pub ids_at : Node → List Label → Option (List Label)
ids_at city name = option_map ids_of (node_at city name)

-- a piece of a city's node has its ids
abbrev pub IsPieceOf : Node → Piece → Type 0
IsPieceOf city piece = ids_at city piece.name ≡ Some piece.ids

-- each held name is that of a city's node, and is held with the ids of that node
abbrev pub HaveIdsOf : Node → Nodes → Type 0
HaveIdsOf city nodes = (name : List Label) (node : HeldNode) → held_at nodes name ≡ Some node → ids_at city name ≡ Some node.ids

-- a fragment of a city: it knows the top node's label, and holds nodes of the city
pub record IsFragmentOf (city : Node) (f : Contents) : Type 0 where
  pub top : f.top ≡ label_of city
  pub ids : HaveIdsOf city f.nodes

-- The shape of a fragment of a city.
pub record HasFragmentShape (city : Node) (f : Contents) : Type 0 where
  -- each name is held once
  pub ordered : HaveRisingNames f.nodes
  -- with each node the one above is held
  pub rooted : IsRooted f.nodes
  -- what is held is of the city
  pub part : IsFragmentOf city f
  -- an owned or complete node has its full part
  pub values : (name : List Label) (now : ℕ) → is_held_at f name level.Full ≡ true → IsSome (held_piece f name level.Full now)
  -- a node is incomplete just where it is not held, and its parent is held or is the document
  pub incomplete : (name : List Label) → IsSome (node_at city name) → (status f name ≡ Some Incomplete) ↔ ((is_held f.nodes name ≡ false) × (has_place f.nodes name ≡ true))
  -- no other name has a status
  pub known : (name : List Label) → IsSome (status f name) → IsSome (node_at city name)
