-- What the calls of a walk do, as programs over its view.
use Rattle.std.specs.Prelude.{◌≡◌, ℕ, zero, suc, ◌+◌, Bool, true, false, List, [], ◌∷◌, ◌++◌, map, Option, Some, None, option_map, if◌then◌else◌}
use Rattle.std.specs.List.{list_any, filter_map}
use Rattle.iris_base.specs.declared.name.Label.{Label}
use Rattle.iris_base.specs.declared.state.State.{State}
use Rattle.iris_base.specs.declared.state.State.TheVariants as states
use Rattle.iris_base.specs.Attribute.{is_id}
use Rattle.iris_tree.specs.declared.local.Local.{Local}
use Rattle.iris_tree.specs.Document.{position, Place}
use Rattle.iris_tree.specs.declared.item.Item.{Item}
use Rattle.iris_xpath.specs.declared.expression.Expression.{Expression}
use Rattle.iris_xpath.specs.declared.expression.Step.{Step}
use Rattle.iris_xpath.specs.declared.expression.Separator.{Separator}
use Rattle.iris_xpath.specs.declared.expression.Separator.TheVariants.{Slash, DoubleSlash}
use Rattle.iris_xpath.specs.declared.expression.Comparison.{Comparison}
use Rattle.iris_xpath.specs.Syntax.{MainStep, main_of, parent, Side, values_of, literal, number}
use Rattle.iris_xpath.specs.Said.{all_conditions, steps_from}
use Rattle.iris_xpath.specs.Meaning.{Value, of_text, of_number, compare}
use Rattle.iris_need.specs.declared.need.Need.{Need}
use Rattle.iris_need.specs.declared.looks.Marks.{Marks as CodeMarks}
use Rattle.iris_need.specs.declared.looks.Marks.TheVariants as marks
use Rattle.iris_need.specs.declared.spot.Spot.{Spot as CodeSpot}
use Rattle.iris_need.specs.declared.spot.Spot.TheVariants as spots
use Rattle.iris_need.specs.declared.route.Route.{Route}
use Rattle.iris_need.specs.declared.further.Trail.{Trail}
use Rattle.iris_need.specs.declared.further.Further.{Further}
use Rattle.iris_need.specs.declared.further.Further.TheVariants.{Main, Path}
use Rattle.iris_need.specs.declared.ends.Sought.{Sought}
use Rattle.iris_need.specs.declared.walk.Walk.{Walk}
use Rattle.iris_need.specs.Collected.{take_look, collected, value_given}
use Rattle.iris_need.specs.Collected as known
use Rattle.iris_need.specs.Needs.{is_under}
use Rattle.iris_need.specs.Pieces.{piece_at, view_of}
use Rattle.iris_need.specs.Program.{Spot, document_spot, node_spot, element_spot, Marks, mark_at, gather, where_so, passes_label, step_elements, go_to, from_node, reach, see_attribute, ends, all_hold, tested, goes}
use Rattle.iris_need.specs.Run.{Run, give, next, Seen}

-- ---- what the code holds, as programs have it

-- the positions of a path to an element, as edges
abbrev pub path_of : List ℕ → Place
path_of path = map position path

-- the paths to elements
abbrev pub paths_of : List (List ℕ) → List Place
paths_of paths = map path_of paths

-- where a walk stands
abbrev pub spot_in : List Label → CodeSpot → Spot
spot_in name spots.Document = document_spot
spot_in name (spots.Node l) = node_spot name l
spot_in name (spots.Element local path) = element_spot name local.now (path_of path.now)

-- the states of looks
abbrev pub marks_of : CodeMarks → Marks
marks_of (marks.Each state) = λ name. state ∷ []
marks_of (marks.Only at state) = mark_at at.now state
marks_of marks.Nowhere = λ name. []

-- ---- looks, and what programs give

-- one look more, as the walk takes it
abbrev pub look_added : Walk → List Need → Need → List Need
look_added w needs look = take_look w.takes w.above.now (view_of w.view.now) needs look

-- the needs after all looks of a program are the new ones
abbrev pub Adds : Walk → List Need → List Need → {A : Type 0} → Run A → Type 0
Adds w old new r = new ≡ collected w.takes w.above.now w.view.now old r

-- what a program gives over what the walk sees
abbrev pub given : Walk → {A : Type 0} → Run A → Option A
given w r = value_given w.above.now w.view.now r

-- the ids at a name, where the walk sees them
abbrev pub ids_at : Walk → List Label → Option (List Label)
ids_at w name = if is_under name w.above.now then option_map (λ piece. piece.ids) (piece_at w.view.now name) else None

-- the ids and the local information at a name, where the walk sees both
abbrev pub full_at : Walk → List Label → Option Seen
full_at w name = if is_under name w.above.now then known.full_at w.view.now name else None

-- ---- what is found

-- the ends, where they are told
abbrev pub ends_if : Bool → List (Option (List ℕ)) → Option (List (Option (List ℕ)))
ends_if true ends = Some ends
ends_if false ends = None

-- the ends found before and those found now
abbrev pub ends_after : List (Option (List ℕ)) → Option (List (Option (List ℕ))) → Option (List (Option (List ℕ)))
ends_after found None = None
ends_after found (Some more) = Some (found ++ more)

-- the ends found before and those found now are the new ones, where they are told
abbrev pub FindsEnds : Bool → List (Option (List ℕ)) → List (Option (List ℕ)) → Option (List (Option (List ℕ))) → Type 0
FindsEnds told old new more = ends_if told new ≡ ends_after old more

-- ---- what is done further on

-- what programs find along the main path, and along the path of a predicate
abbrev pub Finding : Further → Type 0
Finding (Main route) = Item
Finding (Path s trail) = Option (List ℕ)

-- along the path of a predicate ends are found; along the main path the walk takes looks alone
abbrev pub HasFound : (f : Further) → Bool → List (Option (List ℕ)) → List (Option (List ℕ)) → Option (List (Finding f)) → Type 0
HasFound (Main route) told old new more = Unit {0}
HasFound (Path s trail) told old new more = FindsEnds told old new more

-- the step
abbrev pub step_in : Further → Step Expression
step_in (Main route) = route.step.now
step_in (Path s trail) = s.now

-- the states of its looks below the place where it begins
abbrev pub lower_of : Further → Marks
lower_of (Main route) = λ name. states.Seek route.number ∷ []
lower_of (Path s trail) = marks_of trail.marks

-- the ends of the further parts of a path
abbrev pub trail_ends : Walk → Trail → Spot → Run (List (Option (List ℕ)))
trail_ends w trail spot = ends w.top (marks_of trail.marks) (steps_from trail.parts.now trail.attribute.now) spot

-- the same from the place right above
abbrev pub ends_above : Walk → Trail → Spot → Run (List (Option (List ℕ)))
ends_above w trail spot = ends w.top (marks_of trail.marks) (parent (steps_from trail.parts.now trail.attribute.now)) spot

-- the same, where the predicates of a step hold
abbrev pub path_program : Label → Step Expression → Trail → Spot → Run (List (Option (List ℕ)))
path_program top s trail spot = next (all_hold top (marks_of trail.marks) (all_conditions s.predicates) spot) (λ b. where_so b (ends top (marks_of trail.marks) (steps_from trail.parts.now trail.attribute.now) spot))

-- a place under test by a step of the main path, and all further steps from it
abbrev pub main_program : Label → Route → Spot → Run (List Item)
main_program top route spot = tested top route.number (main_of route.step.now) spot (goes top (route.number + 1) (map main_of route.rest.now) spot)

-- what is done at each place to which a step goes
abbrev pub further_program : Label → (f : Further) → Spot → Run (List (Finding f))
further_program top (Main route) spot = main_program top route spot
further_program top (Path s trail) spot = path_program top s.now trail spot

-- ---- steps

-- a step from a place
abbrev pub reached : Walk → (f : Further) → CodeMarks → Spot → Run (List (Finding f))
reached w f own spot = reach w.top (step_in f).separator (step_in f).test (marks_of own) (lower_of f) spot (further_program w.top f)

-- a step of the main path from a place
abbrev pub main_reached : Walk → Route → CodeMarks → Spot → Run (List Item)
main_reached w route own spot = reach w.top route.step.now.separator route.step.now.test (marks_of own) (λ name. states.Seek route.number ∷ []) spot (main_program w.top route)

-- a step from a node with at most that many levels below it
abbrev pub node_reached : Walk → ℕ → (f : Further) → Marks → List Label → Run (List (Finding f))
node_reached w levels f own name = from_node levels (step_in f).separator (step_in f).test own (lower_of f) name (further_program w.top f)

-- a node, where the step goes to its label
abbrev pub label_reached : Walk → (f : Further) → List Label → Label → Run (List (Finding f))
label_reached w f name l = where_so (passes_label l (step_in f).test) (further_program w.top f (node_spot name l))

-- a step to a child of a node with at most that many levels below it
abbrev pub child_reached : Walk → ℕ → (f : Further) → List Label → Label → Run (List (Finding f))
child_reached w zero f name child = go_to Slash (step_in f).test name child (further_program w.top f) (give [])
child_reached w (suc levels) f name child = go_to (step_in f).separator (step_in f).test name child (further_program w.top f) (node_reached w levels f (lower_of f) (name ++ child ∷ []))

-- the same step from there on, by `//` alone
abbrev pub further_down : Walk → Separator → ℕ → (f : Further) → List Label → Run (List (Finding f))
further_down w Slash levels f name = give []
further_down w DoubleSlash levels f name = node_reached w levels f (lower_of f) name

abbrev pub deeper_reached : Walk → ℕ → (f : Further) → List Label → Run (List (Finding f))
deeper_reached w zero f name = give []
deeper_reached w (suc levels) f name = further_down w (step_in f).separator levels f name

-- a step to plain elements, from one of them or from the node
abbrev pub elements_reached : Walk → (f : Further) → Local → Place → List Label → Run (List (Finding f))
elements_reached w f local above name = gather (λ path. further_program w.top f (element_spot name local path)) (step_elements (step_in f).separator (step_in f).test local above)

-- the steps from a number on, from a place with a state; nothing where there are none
abbrev pub steps_entered : Label → State → ℕ → List MainStep → Spot → Run (List Item)
steps_entered top state i [] spot = give []
steps_entered top state i (s ∷ ss) spot = reach top s.separator s.test (λ name. state ∷ []) (λ name. states.Seek i ∷ []) spot (λ at. tested top i s at (goes top (i + 1) ss at))

-- ---- predicates

-- the values of a side of a comparison
abbrev pub side_values : Side → List (Option (List ℕ)) → List Value
side_values (values_of steps) found = map of_text (filter_map (λ end. end) found)
side_values (literal text) found = of_text text ∷ []
side_values (number n) found = of_number n ∷ []

-- whether some values of the two sides compare so
abbrev pub some_compare : Comparison → List Value → List Value → Bool
some_compare comparison us vs = list_any (λ u. list_any (compare comparison u) vs) us

-- ---- attributes

-- the values found at a node, and its ids
abbrev pub attributes_here : Walk → Sought → List Label → Label → Run (List (Option (List ℕ)) × List Label)
attributes_here w sought name l = see_attribute (is_id sought.attribute.now) sought.attribute.now name l (marks_of sought.marks name) (λ own ids more. give (own ++ more, ids))

-- the values and the ids, where they are told
abbrev pub HasAttributes : List (Option (List ℕ)) → List (Option (List ℕ)) → Option (List Label) → Option (List (Option (List ℕ)) × List Label) → Type 0
HasAttributes old new None more = more ≡ None
HasAttributes old new (Some ids) more = (found : List (Option (List ℕ))) × (more ≡ Some (found, ids)) × (new ≡ old ++ found)
