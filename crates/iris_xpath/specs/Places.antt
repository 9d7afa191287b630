-- How places of a document lie to one another, the plain elements of a node, and the attributes at places.
use Rattle.std.specs.Prelude.{ℕ, Bool, true, false, ◌&&◌, if◌then◌else◌, List, [], ◌∷◌, map, Option, Some, None, option_and_then, slice_get, codes}
use Rattle.std.specs.Str.{bytes_eq}
use Rattle.iris_base.specs.NameOrder.{label_eq}
use Rattle.iris_tree.specs.Attrs.{value_of}
use Rattle.iris_tree.specs.declared.local.Local.{Local}
use Rattle.iris_tree.specs.Universe.{label_of, local_of}
use Rattle.iris_tree.specs.declared.plain.Plain.TheViews.{out-Plain}
use Rattle.iris_tree.specs.Document.{Edge, position, label, Place, Part, whole, a_node, a_plain, below_plain, numbered, plain_places}

abbrev pub edge_eq : Edge → Edge → Bool
edge_eq (position i) (position j) = bytes_eq (i ∷ []) (j ∷ [])
edge_eq (position i) (label m) = false
edge_eq (label l) (position j) = false
edge_eq (label l) (label m) = label_eq l m

abbrev pub place_eq : Place → Place → Bool
place_eq [] [] = true
place_eq [] (f ∷ q) = false
place_eq (e ∷ p) [] = false
place_eq (e ∷ p) (f ∷ q) = edge_eq e f && place_eq p q

-- whether a place is the parent of another
abbrev pub is_parent : Place → Place → Bool
is_parent [] [] = false
is_parent [] (f ∷ []) = true
is_parent [] (f ∷ g ∷ q) = false
is_parent (e ∷ p) [] = false
is_parent (e ∷ p) (f ∷ q) = edge_eq e f && is_parent p q

-- whether a place is another, or above it
abbrev pub is_above : Place → Place → Bool
is_above [] q = true
is_above (e ∷ p) [] = false
is_above (e ∷ p) (f ∷ q) = edge_eq e f && is_above p q

-- ---- the plain elements of a node

-- a path into a node's plain elements begins with a position
abbrev pub IsElementPath : Place → Type 0
IsElementPath [] = ⊥
IsElementPath (position i ∷ path) = Unit {0}
IsElementPath (label l ∷ path) = ⊥

-- the plain elements in local information, by their positions
abbrev pub element_at : Local → Place → Option Part
element_at local [] = None
element_at local (position i ∷ path) = option_and_then (λ p. below_plain p path) (slice_get local.plain i)
element_at local (label l ∷ path) = None

-- the paths of all of them
abbrev pub element_paths : Local → List Place
element_paths local = numbered 0 (map plain_places local.plain)

-- ---- attributes

-- the value of an attribute: of `@id` at a node its id, else the attribute's text
abbrev pub attribute_of : Part → List ℕ → Option (List ℕ)
attribute_of whole name = None
attribute_of (a_node n) name = if bytes_eq name (codes "id") then Some (label_of n).id else value_of (local_of n).attrs name
attribute_of (a_plain p) name = value_of (out-Plain p).attrs name
