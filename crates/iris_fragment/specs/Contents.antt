-- What a fragment holds, and how each node stands in it.
use Rattle.std.specs.Prelude.{Bool, true, false, List, [], ◌∷◌, Option, Some, None, is_some}
use Rattle.std.specs.List.{list_any}
use Rattle.std.specs.Map.{lookup}
use Rattle.std.specs.BTreeMap.{is_at}
use Rattle.std.specs.Cmp.Lexicographic.{slice_cmp}
use Rattle.iris_base.specs.declared.name.Label.{Label}
use Rattle.iris_base.specs.NameOrder.{label_eq, label_cmp}
use Rattle.iris_fragment.specs.declared.held.HeldNode.{HeldNode}
use Rattle.iris_fragment.specs.declared.held.Part.{Part}
use Rattle.iris_fragment.specs.declared.held.Part.TheVariants.{Own, Copied, Bare}
use Rattle.iris_fragment.specs.declared.piece.Level.{Level}
use Rattle.iris_fragment.specs.declared.piece.Level.TheVariants as level
use Rattle.iris_fragment.specs.declared.status.Status.{Status}
use Rattle.iris_fragment.specs.declared.status.Status.TheVariants.{Owned, Complete, IdComplete, Incomplete}

-- the held nodes in the order of their names, each name once
abbrev pub Nodes : Type 0
Nodes = List (List Label × HeldNode)

-- a fragment: the label of the city's top node, and the held nodes
pub record Contents : Type 0 where
  pub top : Label
  pub nodes : Nodes

-- what is held of the node of that name
abbrev pub held_at : Nodes → List Label → Option HeldNode
held_at nodes name = lookup (is_at (slice_cmp label_cmp name)) nodes

-- whether the node of that name is held
abbrev pub is_held : Nodes → List Label → Bool
is_held nodes name = is_some (held_at nodes name)

-- a cut name with that label put in front of it
abbrev pub one_above : Label → Option (List Label × Label) → Option (List Label × Label)
one_above l None = Some ([], l)
one_above l (Some p) = Some (l ∷ p.0, p.1)

-- a name as the name above it and its last label; the document's has neither
abbrev pub cut : List Label → Option (List Label × Label)
cut [] = None
cut (l ∷ ls) = one_above l (cut ls)

-- whether the name is the document's or a held node's
abbrev pub stands : Nodes → List Label → Bool
stands nodes [] = true
stands nodes (l ∷ ls) = is_held nodes (l ∷ ls)

-- whether a cut name is below the document or a held node
abbrev pub stands_above : Nodes → Option (List Label × Label) → Bool
stands_above nodes None = false
stands_above nodes (Some p) = stands nodes p.0

-- whether the name above is the document's or a held node's
abbrev pub has_place : Nodes → List Label → Bool
has_place nodes name = stands_above nodes (cut name)

-- the labels that a node lists, and none where it is not held
abbrev pub ids_held : Option HeldNode → List Label
ids_held None = []
ids_held (Some node) = node.ids

-- the labels listed by the document, which has the top node as its one child, or by a held node
abbrev pub listed_at : Contents → List Label → List Label
listed_at f [] = f.top ∷ []
listed_at f (l ∷ ls) = ids_held (held_at f.nodes (l ∷ ls))

-- whether a cut name's last label is listed by what is above it
abbrev pub listed_above : Contents → Option (List Label × Label) → Bool
listed_above f None = false
listed_above f (Some p) = list_any (λ label. label_eq label p.1) (listed_at f p.0)

-- whether the document or a held node lists the node of that name
abbrev pub is_listed : Contents → List Label → Bool
is_listed f name = listed_above f (cut name)

-- how a held node stands, by what is held beside its ids
abbrev pub part_status : Part → Status
part_status (Own local version) = Owned
part_status (Copied full) = Complete
part_status Bare = IdComplete

-- how a node stands, held or not, by whether it is listed
abbrev pub status_or : Bool → Option HeldNode → Option Status
status_or listed (Some node) = Some (part_status node.part)
status_or true None = Some Incomplete
status_or false None = None

-- how the node of that name stands in a fragment: as it is held, or known by its id alone, or not at all
abbrev pub status : Contents → List Label → Option Status
status f name = status_or (is_listed f name) (held_at f.nodes name)

-- whether a node of that status is held at a level
abbrev pub holds_at : Option Status → Level → Bool
holds_at (Some Owned) level = true
holds_at (Some Complete) level = true
holds_at (Some IdComplete) level.Ids = true
holds_at (Some IdComplete) level.Full = false
holds_at (Some Incomplete) level = false
holds_at None level = false

-- whether a fragment holds the node of that name at that level: the ids of each held node, and the full part of an owned or complete one
abbrev pub is_held_at : Contents → List Label → Level → Bool
is_held_at f name level = holds_at (status f name) level
