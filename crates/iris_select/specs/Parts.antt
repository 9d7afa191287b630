-- What stands right below a place of a document, and at which places something stands below it.
use Rattle.std.specs.Prelude.{ℕ, ◌+◌, List, [], ◌∷◌, ◌++◌, map, Option, Some, None, option_map, slice_get, if◌then◌else◌}
use Rattle.iris_base.specs.NameOrder.{label_eq}
use Rattle.iris_tree.specs.declared.plain.Plain.{Plain}
use Rattle.iris_tree.specs.declared.plain.Plain.TheViews.{out-Plain}
use Rattle.iris_tree.specs.Universe.{Node, nodes_of, label_of, local_of, children_of, IsOrdered}
use Rattle.iris_tree.specs.Universe as universe
use Rattle.iris_tree.specs.Document.{Edge, position, label, Place, Part, whole, a_node, a_plain, below_plain, below_node, part_at_place, numbered, plain_places, all_node_places, places}
use Rattle.iris_select.specs.declared.spot.Edge.TheVariants as edges
use Rattle.iris_select.specs.declared.spot.Edge.{Edge as CodeEdge}
use Rattle.iris_select.specs.declared.spot.Spot.TheVariants as spots
use Rattle.iris_select.specs.declared.spot.Spot.{Spot}
use Rattle.iris_select.specs.declared.spot.Child.{Child as CodeChild}
use Rattle.iris_select.specs.declared.spot.Children.{Children as CodeChildren}

-- ---- in the document

-- what stands right below a place, by its edge
pub record Child : Type 0 where
  pub edge : Edge
  pub part : Part

-- what stands right below at that edge
abbrev pub child : Edge → Part → Child
child edge part = record { edge = edge; part = part }

-- plain elements as siblings, from a position on
abbrev pub plain_children : ℕ → List Plain → List Child
plain_children i [] = []
plain_children i (p ∷ ps) = child (position i) (a_plain p) ∷ plain_children (i + 1) ps

-- a node as what stands right below
abbrev pub node_child : Node → Child
node_child n = child (label (label_of n)) (a_node n)

-- all that stands right below, plain elements before nodes
abbrev pub children : Node → Part → List Child
children document whole = node_child document ∷ []
children document (a_node n) = plain_children 0 (local_of n).plain ++ map node_child (children_of n)
children document (a_plain p) = plain_children 0 (out-Plain p).kids

-- what stands right below at an edge
abbrev pub child_part : Node → Part → Edge → Option Part
child_part document whole (position i) = None
child_part document whole (label l) = if label_eq (label_of document) l then Some (a_node document) else None
child_part document (a_node n) (position i) = option_map a_plain (slice_get (local_of n).plain i)
child_part document (a_node n) (label l) = option_map a_node (universe.child_of l (children_of n))
child_part document (a_plain p) (position i) = option_map a_plain (slice_get (out-Plain p).kids i)
child_part document (a_plain p) (label l) = None

-- what stands at the end of a path from it
abbrev pub part_below : Node → Part → Place → Option Part
part_below document whole path = part_at_place document path
part_below document (a_node n) path = below_node n path
part_below document (a_plain p) path = below_plain p path

-- it and all below it, by the paths from it, in place order
abbrev pub places_in : Node → Part → List Place
places_in document whole = places document
places_in document (a_node n) = [] ∷ numbered 0 (map plain_places (local_of n).plain) ++ all_node_places (nodes_of (children_of n))
places_in document (a_plain p) = [] ∷ numbered 0 (map plain_places (out-Plain p).kids)

-- siblings are in order from there on
abbrev pub InOrder : Node → Part → Type 0
InOrder document whole = IsOrdered document
InOrder document (a_node n) = IsOrdered n
InOrder document (a_plain p) = Unit {0}

-- ---- as the code has them

-- an edge
abbrev pub edge_of : CodeEdge → Edge
edge_of (edges.Position at) = position at
edge_of (edges.Node at n) = label (label_of n.now)

-- the place at the end of edges from the document
abbrev pub place_at : List CodeEdge → Place
place_at trail = map edge_of trail

-- what stands at a place
abbrev pub part_of : Spot → Part
part_of spots.Document = whole
part_of (spots.Node n) = a_node n.now
part_of (spots.Plain p) = a_plain p.now

-- what stands right below
abbrev pub child_of : CodeChild → Child
child_of c = child (edge_of c.edge) (part_of c.spot)

-- all that stands right below
abbrev pub children_in : CodeChildren → List Child
children_in c = plain_children 0 c.plain.now ++ map node_child c.nodes.now
