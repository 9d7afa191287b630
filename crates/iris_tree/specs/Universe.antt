-- The nodes of a city: which there are, what each holds, and where each stands.
use Rattle.std.specs.Prelude.{◌≡◌, ℕ, ◌<◌, ◌≤◌, length, slice_index_or, List, [], ◌∷◌, map, find, Option, Some, None, if◌then◌else◌, option_and_then}
use Rattle.std.specs.declared.cmp.Ordering.TheVariants.{Less, Greater}
use Rattle.std.specs.Ordering.{is_lt}
use Rattle.iris_base.specs.declared.name.Label.{Label}
use Rattle.iris_base.specs.NameOrder.{label_eq, label_cmp}
use Rattle.iris_tree.specs.declared.local.Local.{Local}

-- a node: its label, what it holds itself, and the nodes right below it, in label order
mutual
  pub data Node : Type 0 where
    node : Label → Local → Nodes → Node

  pub data Nodes : Type 0 where
    no_nodes : Nodes
    nodes : Node → Nodes → Nodes

-- a list of nodes as siblings
abbrev pub nodes_of : List Node → Nodes
nodes_of [] = no_nodes
nodes_of (n ∷ ns) = nodes n (nodes_of ns)

-- siblings as a list of nodes
abbrev pub list_of : Nodes → List Node
list_of no_nodes = []
list_of (nodes n ns) = n ∷ list_of ns

-- what a node is called among its siblings
abbrev pub label_of : Node → Label
label_of (node label local below) = label

-- what a node holds itself
abbrev pub local_of : Node → Local
local_of (node label local below) = local

-- the nodes right below
abbrev pub children_of : Node → List Node
children_of (node label local below) = list_of below

-- the labels of these nodes, in their order
abbrev pub labels_of : List Node → List Label
labels_of ns = map label_of ns

-- a node's ids: the labels of its children
abbrev pub ids_of : Node → List Label
ids_of n = labels_of (children_of n)

-- the one of these nodes with that label
abbrev pub child_of : Label → List Node → Option Node
child_of label ns = find (λ n. label_eq (label_of n) label) ns

-- the node below by these labels
abbrev pub part_at : Node → List Label → Option Node
part_at n [] = Some n
part_at n (label ∷ labels) = option_and_then (λ child. part_at child labels) (child_of label (children_of n))

-- the node at that name; none is at the document's
abbrev pub node_at : Node → List Label → Option Node
node_at top [] = None
node_at top (label ∷ labels) = if label_eq (label_of top) label then part_at top labels else None

-- these nodes and one more, before the first with a greater label
abbrev pub insert_node : Node → List Node → List Node
insert_node child [] = child ∷ []
insert_node child (n ∷ ns) = if is_lt (label_cmp (label_of child) (label_of n)) then child ∷ n ∷ ns else n ∷ insert_node child ns

-- the node with one child more
abbrev pub with_child : Node → Node → Node
with_child (node label local below) child = node label local (nodes_of (insert_node child (list_of below)))

-- the place at which a label is missing: all before it are less, and all from it on greater
abbrev pub IsGap : List Node → Label → ℕ → Type 0
IsGap ns x at = ((i : ℕ) (d : Node) → i < at → label_cmp (label_of (slice_index_or ns i d)) x ≡ Less) × ((i : ℕ) (d : Node) → at ≤ i → i < length ns → label_cmp (label_of (slice_index_or ns i d)) x ≡ Greater)

-- ---- the order of siblings

-- the labels of all these nodes are greater
abbrev pub AllAfter : Label → Nodes → Type 0
AllAfter label no_nodes = Unit {0}
AllAfter label (nodes n ns) = (label_cmp label (label_of n) ≡ Less) × AllAfter label ns

-- at each level the labels rise, so no two siblings have the same one
abbrev mutual
  pub IsOrdered : Node → Type 0
  IsOrdered (node label local below) = AreOrdered below

  pub AreOrdered : Nodes → Type 0
  AreOrdered no_nodes = Unit {0}
  AreOrdered (nodes n ns) = IsOrdered n × AllAfter (label_of n) ns × AreOrdered ns
