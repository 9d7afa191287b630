-- A document: the top node of a city with all below it, and the places in it, as XPath sees them.
use Rattle.std.specs.Prelude.{ℕ, ◌+◌, List, [], ◌∷◌, ◌++◌, map, Option, Some, None, option_map, option_and_then, slice_get, if◌then◌else◌}
use Rattle.iris_base.specs.declared.name.Label.{Label}
use Rattle.std.specs.Cmp.Lexicographic.{pointwise}
use Rattle.iris_base.specs.NameOrder.{label_eq}
use Rattle.iris_tree.specs.declared.local.Local.{Local}
use Rattle.iris_tree.specs.declared.plain.Plain.{Plain}
use Rattle.iris_tree.specs.declared.plain.Plain.TheOpen.{Plain-F}
use Rattle.iris_tree.specs.declared.plain.Plain.TheViews.{out-Plain}
use Rattle.iris_tree.specs.declared.plain.Plain.TheFolds.{fold-Plain}
use Rattle.iris_tree.specs.Universe.{Node, node, Nodes, no_nodes, nodes, label_of, local_of, children_of, child_of, node_at}

-- the local information at a name
abbrev pub local_at : Node → List Label → Option Local
local_at document name = option_map local_of (node_at document name)

-- the names of all nodes, in the order of names
abbrev mutual
  pub names_of : Node → List (List Label)
  names_of (node label local below) = (label ∷ []) ∷ map (λ name. label ∷ name) (all_names_of below)

  pub all_names_of : Nodes → List (List Label)
  all_names_of no_nodes = []
  all_names_of (nodes n ns) = names_of n ++ all_names_of ns

-- ---- other values

-- a document with other local information: at each name what f gives for the name and for what was there
abbrev mutual
  pub with_locals : Node → (List Label → Local → Local) → Node
  with_locals (node label local below) f = node label (f (label ∷ []) local) (all_with_locals below (λ name. f (label ∷ name)))

  pub all_with_locals : Nodes → (List Label → Local → Local) → Nodes
  all_with_locals no_nodes f = no_nodes
  all_with_locals (nodes n ns) f = nodes (with_locals n f) (all_with_locals ns f)

-- that local information for that name, and for any other what was there
abbrev pub local_put : List Label → Local → List Label → Local → Local
local_put name local other old = if pointwise label_eq other name then local else old

-- the document with that local information at that name, and elsewhere what was there
abbrev pub with_local : Node → List Label → Local → Node
with_local document name local = with_locals document (local_put name local)

-- ---- places

-- an edge down: to a node by its label, to a plain element by its position among its siblings
pub data Edge : Type 0 where
  position : ℕ → Edge
  label : Label → Edge

-- A place is named by its edges from the document, which is the place with none.
abbrev pub Place : Type 0
Place = List Edge

-- the place of a node
abbrev pub place_of : List Label → Place
place_of name = map label name

-- the name of the node at or above a place: its labels
abbrev pub name_of : Place → List Label
name_of [] = []
name_of (position i ∷ place) = []
name_of (label l ∷ place) = l ∷ name_of place

-- what stands at a place
pub data Part : Type 0 where
  whole : Part
  a_node : Node → Part
  a_plain : Plain → Part

-- what stands at a place below a plain element, by the edges from it
abbrev pub below_plain : Plain → Place → Option Part
below_plain p [] = Some (a_plain p)
below_plain p (position i ∷ place) = option_and_then (λ kid. below_plain kid place) (slice_get (out-Plain p).kids i)
below_plain p (label l ∷ place) = None

-- what stands at a place below a node, by the edges from it
abbrev pub below_node : Node → Place → Option Part
below_node n [] = Some (a_node n)
below_node n (position i ∷ place) = option_and_then (λ p. below_plain p place) (slice_get (local_of n).plain i)
below_node n (label l ∷ place) = option_and_then (λ child. below_node child place) (child_of l (children_of n))

-- The document has the top node as its one child.
abbrev pub part_at_place : Node → Place → Option Part
part_at_place document [] = Some whole
part_at_place document (position i ∷ place) = None
part_at_place document (label l ∷ place) = if label_eq (label_of document) l then below_node document place else None

-- ---- all places

-- the places of siblings, each given its position
abbrev pub numbered : ℕ → List (ℕ → List Place) → List Place
numbered i [] = []
numbered i (places ∷ more) = places i ++ numbered (i + 1) more

-- a plain element at a position, and all below it
abbrev pub plain_places_step : Plain-F (ℕ → List Place) → ℕ → List Place
plain_places_step p i = (position i ∷ []) ∷ map (λ place. position i ∷ place) (numbered 0 p.kids)

-- the places of a plain element at a position, and of all below it
abbrev pub plain_places : Plain → ℕ → List Place
plain_places = fold-Plain (ℕ → List Place) plain_places_step

-- a node and all below it: its plain elements stand before its nodes
abbrev mutual
  pub node_places : Node → List Place
  node_places (node l local below) = (label l ∷ []) ∷ map (λ place. label l ∷ place) (numbered 0 (map plain_places local.plain) ++ all_node_places below)

  pub all_node_places : Nodes → List Place
  all_node_places no_nodes = []
  all_node_places (nodes n ns) = node_places n ++ all_node_places ns

-- all places of a document, in place order: by name and then by positions, a prefix first
abbrev pub places : Node → List Place
places document = [] ∷ node_places document
