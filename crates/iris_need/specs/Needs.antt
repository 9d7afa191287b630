-- What an evaluation from a start lacks, and what it rests on.
use Rattle.std.specs.Prelude.{ℕ, Bool, true, false, not, ◌&&◌, if◌then◌else◌, List, [], ◌∷◌, map, filter, fold, None}
use Rattle.std.specs.Cmp.Lexicographic.{slice_cmp}
use Rattle.std.specs.Ordering.{nat_cmp}
use Rattle.std.specs.declared.cmp.Ordering.{Ordering}
use Rattle.std.specs.declared.cmp.Ordering.TheVariants.{Less, Equal, Greater}
use Rattle.iris_base.specs.declared.name.Label.{Label}
use Rattle.iris_base.specs.NameOrder.{label_eq, label_cmp}
use Rattle.iris_tree.specs.Universe.{Node, label_of}
use Rattle.iris_fragment.specs.declared.piece.Level.{Level}
use Rattle.iris_fragment.specs.declared.piece.Level.TheVariants.{Ids, Full}
use Rattle.iris_tree.specs.declared.item.Item.{Item}
use Rattle.iris_xpath.specs.Looks.{Extent, ids, full}
use Rattle.iris_xpath.specs.Syntax.{Syntax}
use Rattle.iris_need.specs.declared.need.Need.{Need}
use Rattle.iris_need.specs.declared.need.Start.{Start}
use Rattle.iris_base.specs.declared.state.State.{State}
use Rattle.iris_base.specs.declared.state.State.TheVariants as states
use Rattle.iris_need.specs.Pieces.{Pieces, view_of}
use Rattle.iris_need.specs.Program.{program}
use Rattle.iris_need.specs.Run.{View, Out, run, meets, all_of}

-- ---- merged by name

abbrev pub greater : Level → Level → Level
greater Full level = Full
greater Ids level = level

-- states as they stand in a need: by form, and then by number
abbrev pub state_form : State → ℕ
state_form (states.At i) = 0
state_form (states.Seek i) = 1
state_form (states.Test i) = 2
state_form states.Whole = 3

abbrev pub state_number : State → ℕ
state_number (states.At i) = i
state_number (states.Seek i) = i
state_number (states.Test i) = i
state_number states.Whole = 0

abbrev pub state_cmp : State → State → Ordering
state_cmp s t = slice_cmp nat_cmp (state_form s ∷ state_number s ∷ []) (state_form t ∷ state_number t ∷ [])

abbrev pub put_state : Ordering → State → State → List State → List State → List State
put_state Less s t ts more = s ∷ t ∷ ts
put_state Equal s t ts more = t ∷ ts
put_state Greater s t ts more = t ∷ more

-- states in their order, each once, with one more
abbrev pub with_state : List State → State → List State
with_state [] s = s ∷ []
with_state (t ∷ ts) s = put_state (state_cmp s t) s t ts (with_state ts s)

abbrev pub joined_needs : Need → Need → Need
joined_needs need look = record { name = need.name; level = greater need.level look.level; states = fold with_state need.states look.states }

abbrev pub put_look : Ordering → Need → Need → List Need → List Need → List Need
put_look Less look need needs more = look ∷ need ∷ needs
put_look Equal look need needs more = joined_needs need look ∷ needs
put_look Greater look need needs more = need ∷ more

-- needs in the order of their names, each name once, with one look more: the greater level, and the states together
abbrev pub with_look : List Need → Need → List Need
with_look [] look = look ∷ []
with_look (need ∷ needs) look = put_look (slice_cmp label_cmp look.name need.name) look need needs (with_look needs look)

abbrev pub merged : List Need → List Need
merged looks = fold with_look [] looks

-- ---- over a view

-- whether a name is another, or under it
abbrev pub is_under : List Label → List Label → Bool
is_under name [] = true
is_under [] (t ∷ ts) = false
is_under (l ∷ name) (t ∷ ts) = label_eq t l && is_under name ts

-- what an evaluation from a start sees of a view: what is at or under its name
abbrev pub seen_from : List Label → View → View
seen_from above w name = if is_under name above then w name else None

abbrev pub evaluation : Syntax → Start → View → Out (List Item)
evaluation query start w = run (seen_from start.name w) (program query start)

-- all that it looks at, in its order
abbrev pub looks : Syntax → Start → View → List Need
looks query start w = (evaluation query start w).log

-- a look at or under the start's name that the view doesn't meet; one outside is undecided and no need
abbrev pub is_missing : Start → View → Need → Bool
is_missing start w look = is_under look.name start.name && not (meets (seen_from start.name w) look)

abbrev pub missing_in : Syntax → Start → View → List Need
missing_in query start w = merged (filter (is_missing start w) (looks query start w))

abbrev pub without_states : Need → Need
without_states look = record { name = look.name; level = look.level; states = [] }

abbrev pub support_in : Syntax → Start → View → List Need
support_in query start w = merged (map without_states (filter (meets (seen_from start.name w)) (looks query start w)))

-- what is missing: a need for each name at which a look is not met
abbrev pub missing_of : Syntax → Start → Pieces → List Need
missing_of query start pieces = missing_in query start (view_of pieces)

-- what the evaluation rests on: the looks that are met
abbrev pub support_of : Syntax → Start → Pieces → List Need
support_of query start pieces = support_in query start (view_of pieces)

-- ---- from the document on

-- where a query of a client starts
abbrev pub from_document : Label → Start
from_document top = record { top = top; name = []; level = Ids; states = states.At 0 ∷ [] }

abbrev pub is_full_level : Level → Bool
is_full_level Ids = false
is_full_level Full = true

abbrev pub is_full : Need → Bool
is_full need = is_full_level need.level

-- the names of the needs of level Full
abbrev pub full_part : List Need → List (List Label)
full_part needs = map (λ need. need.name) (filter is_full needs)

-- the names that a query looks at with level Full, over all of a document
abbrev pub full_names : Syntax → Node → List (List Label)
full_names query document = full_part (merged (map without_states (looks query (from_document (label_of document)) (all_of document))))

-- a level as it stands in the meaning of queries
abbrev pub extent_of_level : Level → Extent
extent_of_level Ids = ids
extent_of_level Full = full
