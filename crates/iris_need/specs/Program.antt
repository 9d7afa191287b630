-- The program of a query: what an evaluation looks at, state by state, and what it gives.
use Rattle.std.specs.Prelude.{ℕ, zero, suc, ◌+◌, ◌-◌, Bool, true, false, not, ◌&&◌, ◌||◌, if◌then◌else◌, List, [], ◌∷◌, ◌++◌, length, drop, map, filter, Option, Some, None}
use Rattle.std.specs.List.{list_any, filter_map}
use Rattle.std.specs.Str.{bytes_eq}
use Rattle.std.specs.Cmp.Lexicographic.{pointwise}
use Rattle.iris_base.specs.declared.name.Label.{Label}
use Rattle.iris_base.specs.NameOrder.{label_eq}
use Rattle.iris_base.specs.Attribute.{is_id}
use Rattle.iris_base.specs.declared.limits.TheConstants.{MAX_LABELS}
use Rattle.iris_tree.specs.declared.local.Local.{Local}
use Rattle.iris_tree.specs.Attrs.{value_of}
use Rattle.iris_tree.specs.Universe.{Node, node, nodes_of, no_nodes}
use Rattle.iris_tree.specs.Document.{Place, Part, whole, a_node, a_plain}
use Rattle.iris_fragment.specs.declared.piece.Level.{Level}
use Rattle.iris_fragment.specs.declared.piece.Level.TheVariants.{Ids, Full}
use Rattle.iris_tree.specs.declared.item.Element.TheVariants as elements
use Rattle.iris_tree.specs.declared.item.Item.{Item}
use Rattle.iris_xpath.specs.declared.expression.Separator.{Separator}
use Rattle.iris_xpath.specs.declared.expression.Separator.TheVariants.{Slash, DoubleSlash}
use Rattle.iris_xpath.specs.declared.expression.NameTest.{NameTest}
use Rattle.iris_xpath.specs.declared.expression.NameTest.TheVariants.{Any, Kind, Tag}
use Rattle.iris_xpath.specs.Syntax.{Syntax, Condition, any_of, all_of, not_so, selects, compares, Conditions, no_conditions, conditions, Side, values_of, literal, number, Steps, here, attribute, itself, parent, step, MainStep, main_of}
use Rattle.iris_xpath.specs.Meaning.{Value, of_text, of_number, compare, has_some, is_reached, passes, front, attribute_at}
use Rattle.iris_xpath.specs.Meaning as meaning
use Rattle.iris_xpath.specs.Places.{is_above, element_at, element_paths}
use Rattle.iris_base.specs.declared.state.State.{State}
use Rattle.iris_base.specs.declared.state.State.TheVariants as states
use Rattle.iris_need.specs.declared.need.Start.{Start}
use Rattle.iris_need.specs.Run.{Run, give, see_ids, see_full, both, next}

-- ---- words of programs

abbrev pub each : {X A : Type 0} → (X → Run A) → List X → Run (List A)
each f [] = give []
each f (x ∷ xs) = both (λ y ys. y ∷ ys) (f x) (each f xs)

abbrev pub join : {A : Type 0} → Run (List A) → Run (List A) → Run (List A)
join r s = both (λ xs ys. xs ++ ys) r s

abbrev pub gather : {X A : Type 0} → (X → Run (List A)) → List X → Run (List A)
gather f [] = give []
gather f (x ∷ xs) = join (f x) (gather f xs)

abbrev pub where_so : {A : Type 0} → Bool → Run (List A) → Run (List A)
where_so true r = r
where_so false r = give []

abbrev pub and_so : Bool → Run Bool → Run Bool
and_so true r = r
and_so false r = give false

-- ---- places on the way

-- the document, a node with its label, or a plain element of a node, whose local information was looked at
pub data Spot : Type 0 where
  document_spot : Spot
  node_spot : List Label → Label → Spot
  element_spot : List Label → Local → Place → Spot

-- how many levels there may be below a name: it has at most MAX_LABELS labels
unfoldable pub room : List Label → ℕ
room name = MAX_LABELS - length name

abbrev pub last_label : Label → List Label → Label
last_label l [] = l
last_label l (m ∷ ms) = last_label m ms

abbrev pub without_last : Label → List Label → List Label
without_last l [] = []
without_last l (m ∷ ms) = l ∷ without_last m ms

abbrev pub spot_of : List Label → Spot
spot_of [] = document_spot
spot_of (l ∷ name) = node_spot (l ∷ name) (last_label l name)

abbrev pub above_name : List Label → List Spot
above_name [] = []
above_name (l ∷ name) = spot_of (without_last l name) ∷ []

-- the element right above one, or its node
abbrev pub above_element : List Label → Local → Place → Spot
above_element name local [] = spot_of name
above_element name local (e ∷ []) = spot_of name
above_element name local (e ∷ f ∷ path) = element_spot name local (front e (f ∷ path))

abbrev pub spots_above : Spot → List Spot
spots_above document_spot = []
spots_above (node_spot name l) = above_name name
spots_above (element_spot name local path) = above_element name local path ∷ []

-- those to which a step goes from one of them, or from the node
abbrev pub step_elements : Separator → NameTest → Local → Place → List Place
step_elements separator test local above = filter (λ path. is_reached separator above path && passes (element_at local path) test) (element_paths local)

-- ---- one step from a place

-- the states that a look at a name carries
abbrev pub Marks : Type 0
Marks = List Label → List State

abbrev pub passes_label : Label → NameTest → Bool
passes_label l Any = true
passes_label l (Kind kind) = bytes_eq l.kind kind
passes_label l (Tag tag) = false

-- a test by kind needs the ids alone; any other needs the plain elements too
abbrev pub go_from : {A : Type 0} → NameTest → List Label → List State → (List Label → Run (List A)) → (Local → Run (List A)) → Run (List A)
go_from (Kind kind) name marks nodes elements = see_ids name marks nodes
go_from (Tag tag) name marks nodes elements = see_full name marks (λ ids local. join (nodes ids) (elements local))
go_from Any name marks nodes elements = see_full name marks (λ ids local. join (nodes ids) (elements local))

-- a child, and with `//` all below it too
abbrev pub go_to : {A : Type 0} → Separator → NameTest → List Label → Label → (Spot → Run (List A)) → Run (List A) → Run (List A)
go_to Slash test name child k deeper = where_so (passes_label child test) (k (node_spot (name ++ child ∷ []) child))
go_to DoubleSlash test name child k deeper = join (where_so (passes_label child test) (k (node_spot (name ++ child ∷ []) child))) deeper

-- from a node with at most that many levels below it
abbrev pub from_node : {A : Type 0} → ℕ → Separator → NameTest → Marks → Marks → List Label → (Spot → Run (List A)) → Run (List A)
from_node zero separator test own lower name k = go_from test name (own name)
    (gather (λ child. go_to Slash test name child k (give [])))
    (λ local. gather (λ path. k (element_spot name local path)) (step_elements separator test local []))
from_node (suc levels) separator test own lower name k = go_from test name (own name)
    (gather (λ child. go_to separator test name child k (from_node levels separator test lower lower (name ++ child ∷ []) k)))
    (λ local. gather (λ path. k (element_spot name local path)) (step_elements separator test local []))

-- A step from any place, with what is done at each place that it goes to. The look at the place itself carries other states than those below.
abbrev pub reach : {A : Type 0} → Label → Separator → NameTest → Marks → Marks → Spot → (Spot → Run (List A)) → Run (List A)
reach top separator test own lower document_spot k = go_to separator test [] top k (from_node (room (top ∷ [])) separator test lower lower (top ∷ []) k)
reach top separator test own lower (node_spot name l) k = from_node (room name) separator test own lower name k
reach top separator test own lower (element_spot name local above) k = gather (λ path. k (element_spot name local path)) (step_elements separator test local above)

-- ---- attributes

abbrev pub some_end : Option (List ℕ) → List (Option (List ℕ))
some_end None = []
some_end (Some value) = Some value ∷ []

abbrev pub element_ends : List ℕ → Local → List Place → List (Option (List ℕ))
element_ends attr local paths = map (λ value. Some value) (filter_map (λ path. attribute_at attr (element_at local path)) paths)

abbrev pub see_attribute : {A : Type 0} → Bool → List ℕ → List Label → Label → List State → (List (Option (List ℕ)) → List Label → List (Option (List ℕ)) → Run A) → Run A
see_attribute true attr name l marks k = see_ids name marks (λ ids. k (Some l.id ∷ []) ids [])
see_attribute false attr name l marks k = see_full name marks (λ ids local. k (some_end (value_of local.attrs attr)) ids (element_ends attr local (element_paths local)))

-- the attributes of a node and of all below it
abbrev pub attributes_from : ℕ → Marks → List ℕ → List Label → Label → Run (List (Option (List ℕ)))
attributes_from zero marks attr name l = see_attribute (is_id attr) attr name l (marks name) (λ own ids more. give (own ++ more))
attributes_from (suc levels) marks attr name l = see_attribute (is_id attr) attr name l (marks name) (λ own ids more.
    join (give (own ++ more)) (gather (λ child. attributes_from levels marks attr (name ++ child ∷ []) child) ids))

-- the attribute of a node alone; `@id` is told by the label
abbrev pub own_attribute : Bool → Marks → List ℕ → List Label → Label → Run (List (Option (List ℕ)))
own_attribute true marks attr name l = give (Some l.id ∷ [])
own_attribute false marks attr name l = see_full name (marks name) (λ ids local. give (some_end (value_of local.attrs attr)))

abbrev pub attributes : Label → Marks → Separator → List ℕ → Spot → Run (List (Option (List ℕ)))
attributes top marks Slash attr document_spot = give []
attributes top marks Slash attr (node_spot name l) = own_attribute (is_id attr) marks attr name l
attributes top marks Slash attr (element_spot name local path) = give (element_ends attr local (path ∷ []))
attributes top marks DoubleSlash attr document_spot = attributes_from (room (top ∷ [])) marks attr (top ∷ []) top
attributes top marks DoubleSlash attr (node_spot name l) = attributes_from (room name) marks attr name l
attributes top marks DoubleSlash attr (element_spot name local path) = give (element_ends attr local (filter (is_above path) (element_paths local)))

-- ---- predicates

abbrev pub spot_value : Spot → Option (List ℕ)
spot_value document_spot = None
spot_value (node_spot name l) = None
spot_value (element_spot name local path) = meaning.value_of (element_at local path)

-- Both sides of `and`, `or` and comparisons are evaluated, and each path is followed to its ends. The predicates of a step are evaluated one after another, up to the first that is false or undecided.
abbrev mutual
  pub ends : Label → Marks → Steps → Spot → Run (List (Option (List ℕ)))
  ends top marks here spot = give (spot_value spot ∷ [])
  ends top marks (attribute separator attr) spot = attributes top marks separator attr spot
  ends top marks (itself steps) spot = ends top marks steps spot
  ends top marks (parent steps) spot = gather (ends top marks steps) (spots_above spot)
  ends top marks (step separator test cs steps) spot = reach top separator test marks marks spot (λ at. next (all_hold top marks cs at) (λ b. where_so b (ends top marks steps at)))

  pub values : Label → Marks → Side → Spot → Run (List Value)
  values top marks (values_of steps) spot = next (ends top marks steps spot) (λ found. give (map of_text (filter_map (λ end. end) found)))
  values top marks (literal text) spot = give (of_text text ∷ [])
  values top marks (number n) spot = give (of_number n ∷ [])

  pub holds : Label → Marks → Condition → Spot → Run Bool
  holds top marks (any_of cs) spot = any_holds top marks cs spot
  holds top marks (all_of cs) spot = each_holds top marks cs spot
  holds top marks (not_so c) spot = next (holds top marks c spot) (λ b. give (not b))
  holds top marks (selects steps) spot = next (ends top marks steps spot) (λ found. give (has_some found))
  holds top marks (compares left comparison right) spot = both (λ us vs. list_any (λ u. list_any (compare comparison u) vs) us) (values top marks left spot) (values top marks right spot)

  pub any_holds : Label → Marks → Conditions → Spot → Run Bool
  any_holds top marks no_conditions spot = give false
  any_holds top marks (conditions c cs) spot = both (λ a b. a || b) (holds top marks c spot) (any_holds top marks cs spot)

  pub each_holds : Label → Marks → Conditions → Spot → Run Bool
  each_holds top marks no_conditions spot = give true
  each_holds top marks (conditions c cs) spot = both (λ a b. a && b) (holds top marks c spot) (each_holds top marks cs spot)

  pub all_hold : Label → Marks → Conditions → Spot → Run Bool
  all_hold top marks no_conditions spot = give true
  all_hold top marks (conditions c cs) spot = next (holds top marks c spot) (λ b. and_so b (all_hold top marks cs spot))

-- ---- selected places

-- a node with all below it, at most that many levels
abbrev pub subtree : ℕ → Label → List Label → Run Node
subtree zero l name = see_full name (states.Whole ∷ []) (λ ids local. give (node l local no_nodes))
subtree (suc levels) l name = see_full name (states.Whole ∷ []) (λ ids local.
    next (each (λ child. subtree levels child (name ++ child ∷ [])) ids) (λ below. give (node l local (nodes_of below))))

abbrev pub element_item : List Label → Option Part → List Item
element_item name None = []
element_item name (Some whole) = []
element_item name (Some (a_node n)) = []
element_item name (Some (a_plain p)) = record { at = name; is = elements.Plain p } ∷ []

abbrev pub found : Spot → Run (List Item)
found document_spot = give []
found (node_spot name l) = next (subtree (room name) l name) (λ n. give (record { at = name; is = elements.Node n } ∷ []))
found (element_spot name local path) = give (element_item name (element_at local path))

-- ---- the main path

-- what the predicates of a step look at in the node under test carries the state of that step
abbrev pub mark_at : List Label → State → Marks
mark_at at state name = if pointwise label_eq name at then state ∷ [] else []

abbrev pub tested_at : State → Spot → Marks
tested_at state document_spot name = []
tested_at state (node_spot at l) name = mark_at at state name
tested_at state (element_spot at local path) name = mark_at at state name

abbrev pub tested : {A : Type 0} → Label → ℕ → MainStep → Spot → Run (List A) → Run (List A)
tested top i s spot r = next (all_hold top (tested_at (states.Test i) spot) s.conditions spot) (λ b. where_so b r)

-- a step and all further ones; after the last one the place is selected
abbrev pub goes : Label → ℕ → List MainStep → Spot → Run (List Item)
goes top i [] spot = found spot
goes top i (s ∷ ss) spot = reach top s.separator s.test (λ name. states.At i ∷ []) (λ name. states.Seek i ∷ []) spot (λ at. tested top i s at (goes top (i + 1) ss at))

-- ---- starts

abbrev pub go_at : Label → ℕ → List MainStep → Spot → Run (List Item)
go_at top i [] spot = give []
go_at top i (s ∷ ss) spot = goes top i (s ∷ ss) spot

abbrev pub seek_at : Label → ℕ → List MainStep → Spot → Run (List Item)
seek_at top i [] spot = give []
seek_at top i (s ∷ ss) spot = reach top s.separator s.test (λ name. states.Seek i ∷ []) (λ name. states.Seek i ∷ []) spot (λ at. tested top i s at (goes top (i + 1) ss at))

abbrev pub test_at : Label → ℕ → List MainStep → Spot → Run (List Item)
test_at top i [] spot = give []
test_at top i (s ∷ ss) spot = tested top i s spot (goes top (i + 1) ss spot)

-- what a state does at a place; nothing where the query has no such step
abbrev pub enter : Label → List MainStep → Spot → State → Run (List Item)
enter top q spot (states.At i) = go_at top i (drop i q) spot
enter top q spot (states.Seek i) = seek_at top i (drop i q) spot
enter top q spot (states.Test i) = test_at top i (drop i q) spot
enter top q spot states.Whole = found spot

-- the look at the start's own name
abbrev pub own_look : List Label → Level → Run (List Item)
own_look name Ids = see_ids name [] (λ ids. give [])
own_look name Full = see_full name [] (λ ids local. give [])

abbrev pub program_from : Label → List MainStep → List Label → Level → List State → Run (List Item)
program_from top q [] level states = gather (enter top q document_spot) states
program_from top q (l ∷ name) level states = join (own_look (l ∷ name) level) (gather (enter top q (spot_of (l ∷ name))) states)

-- the program of a query from a start: its states at its name, one after another
abbrev pub program : Syntax → Start → Run (List Item)
program query start = program_from start.top (map main_of query) start.name start.level start.states
