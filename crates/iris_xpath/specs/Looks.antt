-- What an evaluation looks at over all of a document, told by places: at which nodes, and how far into them.
use Rattle.std.specs.Prelude.{Bool, true, false, ◌&&◌, ◌||◌, List, [], ◌∷◌, map, filter, Option, Some, None}
use Rattle.std.specs.List.{list_any}
use Rattle.std.specs.Cmp.Lexicographic.{pointwise}
use Rattle.iris_base.specs.declared.name.Label.{Label}
use Rattle.iris_base.specs.NameOrder.{label_eq}
use Rattle.iris_base.specs.Attribute.{is_id}
use Rattle.iris_tree.specs.Universe.{Node}
use Rattle.iris_tree.specs.Document.{Place, name_of, Part, whole, a_node, a_plain, part_at_place, places, names_of}
use Rattle.iris_xpath.specs.Places.{place_eq, is_above}
use Rattle.iris_xpath.specs.Meaning.{is_reached, passes, parents_of}
use Rattle.iris_xpath.specs.Meaning as meaning
use Rattle.iris_xpath.specs.Syntax.{Syntax, Condition, any_of, all_of, not_so, selects, compares, Conditions, no_conditions, conditions, Side, values_of, literal, number, Steps, here, attribute, itself, parent, step, MainStep, main_of}
use Rattle.iris_xpath.specs.declared.expression.NameTest.{NameTest}
use Rattle.iris_xpath.specs.declared.expression.NameTest.TheVariants.{Any, Kind, Tag}
use Rattle.iris_xpath.specs.declared.expression.Separator.{Separator}
use Rattle.iris_xpath.specs.declared.expression.Separator.TheVariants.{Slash, DoubleSlash}

-- how far a look goes into a node: to the labels of its children, or to its attributes and plain elements too
pub data Extent : Type 0 where
  ids full : Extent

-- a test of looks
abbrev pub Looks : Type 0
Looks = List Label → Extent → Bool

-- whether a look at what stands at a place is one of these; nodes alone are looked at
abbrev pub is_look : Looks → Extent → List Label → Option Part → Bool
is_look looks extent name None = false
is_look looks extent name (Some whole) = false
is_look looks extent name (Some (a_node n)) = looks name extent
is_look looks extent name (Some (a_plain p)) = false

abbrev pub look_at : Node → Looks → Extent → Place → Bool
look_at document looks extent place = is_look looks extent (name_of place) (part_at_place document place)

-- at which places something is looked for: at one, or with `//` also at all below it
abbrev pub is_sought : Separator → Place → Place → Bool
is_sought Slash above place = place_eq above place
is_sought DoubleSlash above place = is_above above place

abbrev pub looks_from : Node → Looks → Separator → Extent → Place → Bool
looks_from document looks s extent above = list_any (λ place. is_sought s above place && look_at document looks extent place) (places document)

-- a test by kind needs the ids alone, any other the plain elements too
abbrev pub extent_of : NameTest → Extent
extent_of Any = full
extent_of (Kind kind) = ids
extent_of (Tag tag) = full

-- a step looks at the nodes whose children it tries, and then at each place to which it goes
abbrev pub step_looks : Node → Looks → Separator → NameTest → Place → (Place → Bool) → Bool
step_looks document looks s test above further =
    looks_from document looks s (extent_of test) above || list_any (λ place. (is_reached s above place && passes (part_at_place document place) test) && further place) (places document)

-- `@id` of a place is told by its label, `//@id` by the ids, and another attribute by the local information
abbrev pub attribute_looks : Node → Looks → Separator → Bool → Place → Bool
attribute_looks document looks Slash true place = false
attribute_looks document looks Slash false place = looks_from document looks Slash full place
attribute_looks document looks DoubleSlash true place = looks_from document looks DoubleSlash ids place
attribute_looks document looks DoubleSlash false place = looks_from document looks DoubleSlash full place

-- Every path is followed to its ends, and both sides of `and`, `or` and comparisons are evaluated. The predicates of a step are evaluated one after another, up to the first that is false.
abbrev mutual
  pub ends_look : Node → Looks → Steps → Place → Bool
  ends_look document looks here place = false
  ends_look document looks (attribute s attr) place = attribute_looks document looks s (is_id attr) place
  ends_look document looks (itself steps) place = ends_look document looks steps place
  ends_look document looks (parent steps) place = list_any (ends_look document looks steps) (parents_of place)
  ends_look document looks (step s test cs steps) place =
      step_looks document looks s test place (λ at. all_look document looks cs at || (meaning.all_hold document cs at && ends_look document looks steps at))

  pub side_looks : Node → Looks → Side → Place → Bool
  side_looks document looks (values_of steps) place = ends_look document looks steps place
  side_looks document looks (literal text) place = false
  side_looks document looks (number n) place = false

  pub condition_looks : Node → Looks → Condition → Place → Bool
  condition_looks document looks (any_of cs) place = each_look document looks cs place
  condition_looks document looks (all_of cs) place = each_look document looks cs place
  condition_looks document looks (not_so c) place = condition_looks document looks c place
  condition_looks document looks (selects steps) place = ends_look document looks steps place
  condition_looks document looks (compares left comparison right) place = side_looks document looks left place || side_looks document looks right place

  pub each_look : Node → Looks → Conditions → Place → Bool
  each_look document looks no_conditions place = false
  each_look document looks (conditions c cs) place = condition_looks document looks c place || each_look document looks cs place

  pub all_look : Node → Looks → Conditions → Place → Bool
  all_look document looks no_conditions place = false
  all_look document looks (conditions c cs) place = condition_looks document looks c place || (meaning.holds document c place && all_look document looks cs place)

-- a selected node is looked at with all nodes below it
abbrev pub whole_looks : Node → Looks → Place → Bool
whole_looks document looks [] = false
whole_looks document looks (e ∷ place) = looks_from document looks DoubleSlash full (e ∷ place)

-- the main path from a place on
abbrev pub path_looks : Node → Looks → List MainStep → Place → Bool
path_looks document looks [] place = whole_looks document looks place
path_looks document looks (s ∷ ss) place =
    step_looks document looks s.separator s.test place (λ at. all_look document looks s.conditions at || (meaning.all_hold document s.conditions at && path_looks document looks ss at))

-- whether an evaluation of a query makes one of these looks
abbrev pub query_looks : Node → Looks → Syntax → Bool
query_looks document looks query = path_looks document looks (map main_of query) []

-- ---- looks into nodes

abbrev pub is_full : Extent → Bool
is_full ids = false
is_full full = true

abbrev pub is_full_at : List Label → Looks
is_full_at name other extent = is_full extent && pointwise label_eq name other

-- the names of the nodes that a query looks into, in the order of names
abbrev pub full_names : Node → Syntax → List (List Label)
full_names document query = filter (λ name. query_looks document (is_full_at name) query) (names_of document)
