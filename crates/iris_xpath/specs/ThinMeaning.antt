-- What a thin query selects, and what its evaluation looks into: filters over all places and all names of a document.
use Rattle.std.specs.Prelude.{ℕ, Bool, false, ◌&&◌, List, [], ◌∷◌, Option, Some, None, filter, codes, not, ◌||◌}
use Rattle.std.specs.List.{list_any, list_all}
use Rattle.std.specs.Str.{bytes_eq}
use Rattle.iris_base.specs.declared.name.Label.{Label}
use Rattle.iris_tree.specs.Universe.{Node, label_of}
use Rattle.iris_tree.specs.Document.{Place, Part, whole, a_node, a_plain, part_at_place, places, names_of, place_of}
use Rattle.iris_xpath.specs.Places.{is_parent, is_above, attribute_of}
use Rattle.iris_xpath.specs.Syntax.{Syntax}
use Rattle.iris_xpath.specs.Thin.{Equals, Main}
use Rattle.iris_xpath.specs.ThinQuery.{thin_of}

abbrev pub is_text : Option (List ℕ) → List ℕ → Bool
is_text None text = false
is_text (Some value) text = bytes_eq value text

-- a predicate holds where the attribute has that text
abbrev pub holds : Part → Equals → Bool
holds part e = is_text (attribute_of part e.name) e.value

-- the test of a step is a kind, which nodes alone have
abbrev pub is_of_kind : Part → List ℕ → Bool
is_of_kind whole kind = false
is_of_kind (a_node n) kind = bytes_eq (label_of n).kind kind
is_of_kind (a_plain p) kind = false

-- what stands there fits the test, and the predicates hold one after another
abbrev pub fits : Option Part → Main → Bool
fits None step = false
fits (Some part) step = is_of_kind part step.kind && list_all (holds part) step.predicates

-- the places whose parent is in the context, and which fit the step
abbrev pub step_to : Node → List Place → Main → List Place
step_to document context step = filter (λ place. list_any (λ above. is_parent above place) context && fits (part_at_place document place) step) (places document)

abbrev pub steps_to : Node → List Place → List Main → List Place
steps_to document context [] = context
steps_to document context (step ∷ steps) = steps_to document (step_to document context step) steps

-- what a thin query selects: its path begins at the document
abbrev pub selected : Node → List Main → List Place
selected document query = steps_to document ([] ∷ []) query

-- ---- what an evaluation looks at

-- `@id` is told by the label; another attribute is looked up in the node itself
abbrev pub is_on_id : Equals → Bool
is_on_id e = bytes_eq e.name (codes "id")

-- whether one of the predicates that are evaluated looks into the node: they are evaluated one after another, up to the first that is false
abbrev pub looks_into : Part → List Equals → Bool
looks_into part [] = false
looks_into part (e ∷ es) = not (is_on_id e) || (holds part e && looks_into part es)

abbrev pub tested_with_a_look : Option Part → Main → Bool
tested_with_a_look None step = false
tested_with_a_look (Some part) step = is_of_kind part step.kind && looks_into part step.predicates

-- whether a place is looked into: by the predicates of a step, or since it is at or under a selected place
abbrev pub is_looked_into : Node → List Place → List Main → Place → Bool
is_looked_into document context [] place = list_any (λ above. is_above above place) context
is_looked_into document context (step ∷ steps) place =
    (list_any (λ above. is_parent above place) context && tested_with_a_look (part_at_place document place) step)
    || is_looked_into document (step_to document context step) steps place

-- the names of the nodes that an evaluation of a thin query looks into, in the order of names
abbrev pub full_names : Node → Syntax → List (List Label)
full_names document query = filter (λ name. is_looked_into document ([] ∷ []) (thin_of query) (place_of name)) (names_of document)
