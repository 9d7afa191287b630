-- The part of a document that needs tell of: the nodes at their names, each as far as its need goes.
use Rattle.std.specs.Prelude.{◌≡◌, true, if◌then◌else◌, List, [], ◌∷◌, ◌++◌, Contains, Option, Some, None}
use Rattle.std.specs.Cmp.Lexicographic.{pointwise}
use Rattle.std.specs.List.{AllByRecursion}
use Rattle.std.specs.declared.cmp.Ordering.TheVariants.{Less}
use Rattle.iris_base.specs.declared.name.Label.{Label}
use Rattle.iris_base.specs.NameOrder.{label_eq, label_cmp}
use Rattle.iris_tree.specs.declared.local.Local.{Local}
use Rattle.iris_tree.specs.Universe.{Node, node, Nodes, no_nodes, nodes, label_of, node_at}
use Rattle.iris_fragment.specs.declared.piece.Full.{Full as FullPart}
use Rattle.iris_fragment.specs.declared.piece.Level.{Level}
use Rattle.iris_fragment.specs.declared.piece.Level.TheVariants.{Ids, Full}
use Rattle.iris_need.specs.declared.need.Need.{Need}
use Rattle.iris_need.specs.Decided.{pieces_for}
use Rattle.iris_need.specs.Documents.{IsDocument}
use Rattle.iris_need.specs.Pieces.{Pieces, AreNamed, view_of, AgreesWith}
use Rattle.iris_need.specs.Run.{no_local, meets}

-- the level of the need for a name
abbrev pub level_at : List Need → List Label → Option Level
level_at [] name = None
level_at (need ∷ needs) name = if pointwise label_eq need.name name then Some need.level else level_at needs name

-- what a node holds itself, as far as a level tells
abbrev pub local_held : Option Level → Local → Local
local_held (Some Full) local = local
local_held (Some Ids) local = no_local
local_held None local = no_local

-- what a piece tells of it up to a level
abbrev pub local_told : Level → Option FullPart → Local
local_told Full (Some full) = full.local
local_told Full None = no_local
local_told Ids full = no_local

-- the nodes right below, where a level tells them
abbrev pub nodes_held : Option Level → Nodes → Nodes
nodes_held (Some level) below = below
nodes_held None below = no_nodes

-- a node at a name as far as needs tell of it, and all below it likewise; what has no need has nothing in it
abbrev mutual
  pub held_part : List Need → List Label → Node → Node
  held_part needs name (node l local below) = node l (local_held (level_at needs name) local) (nodes_held (level_at needs name) (held_below needs name below))

  pub held_below : List Need → List Label → Nodes → Nodes
  held_below needs name no_nodes = no_nodes
  held_below needs name (nodes n ns) = nodes (held_part needs (name ++ label_of n ∷ []) n) (held_below needs name ns)

-- a node of a document that agrees with what a view has for the needs, which it meets
pub record IsHeldAt (document : Node) (view : Pieces) (needs : List Need) (name : List Label) (n : Node) : Type 0 where
  pub is : IsDocument document
  pub named : AreNamed view
  pub agrees : AgreesWith document (pieces_for view needs)
  pub met : (need : Need) → Contains needs need → meets (view_of view) need ≡ true
  pub there : node_at document name ≡ Some n

-- all these labels are less
abbrev pub AreBefore : List Label → Label → Type 0
AreBefore labels l = AllByRecursion (λ m. label_cmp m l ≡ Less) labels
