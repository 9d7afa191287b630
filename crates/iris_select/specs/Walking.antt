-- The main path of a query at one place: which steps may be taken to it, and whether the path ends there.
use Rattle.std.specs.Prelude.{◌≡◌, ℕ, Bool, true, false, ◌&&◌, ◌||◌, if◌then◌else◌, List, [], ◌∷◌, ◌++◌, map, filter}
use Rattle.std.specs.List.{list_any, flat_map}
use Rattle.iris_tree.specs.Universe.{Node}
use Rattle.iris_base.specs.declared.name.Label.{Label}
use Rattle.iris_tree.specs.Document.{Edge, position, label, Place, Part}
use Rattle.iris_xpath.specs.declared.expression.Expression.{Expression}
use Rattle.iris_xpath.specs.declared.expression.Step.{Step}
use Rattle.iris_xpath.specs.Places.{edge_eq}
use Rattle.iris_xpath.specs.declared.expression.Separator.{Separator}
use Rattle.iris_xpath.specs.declared.expression.Separator.TheVariants.{Slash, DoubleSlash}
use Rattle.iris_xpath.specs.Looks.{is_sought}
use Rattle.iris_xpath.specs.Meaning.{fits, step_to}
use Rattle.iris_xpath.specs.Syntax.{MainStep, main_of}
use Rattle.iris_select.specs.Parts.{Child, children, places_in}

abbrev pub is_deep : Separator → Bool
is_deep Slash = false
is_deep DoubleSlash = true

-- whether a step from the context may be taken from a place down
abbrev pub goes_from : List Place → MainStep → Place → Bool
goes_from context s place = list_any (λ above. is_sought s.separator above place) context

-- which of the steps may be taken from a place down, where the first begins at the context
abbrev pub pending : Node → List Place → List MainStep → Place → List Bool
pending document context [] place = []
pending document context (s ∷ ss) place = goes_from context s place ∷ pending document (step_to document context s) ss place

-- which steps may be taken from a place down, where it is told which may be taken to it and whether the path begins there
abbrev pub further : Node → Place → Bool → List MainStep → List Bool → List Bool
further document place here [] bs = []
further document place here (s ∷ ss) [] = []
further document place here (s ∷ ss) (b ∷ bs) = (here || (b && is_deep s.separator)) ∷ further document place (b && fits document s place) ss bs

-- whether the path ends there
abbrev pub ends_here : Node → Place → Bool → List MainStep → List Bool → Bool
ends_here document place here [] bs = here
ends_here document place here (s ∷ ss) [] = here
ends_here document place here (s ∷ ss) (b ∷ bs) = ends_here document place (b && fits document s place) ss bs

-- the steps that may be taken
abbrev pub taken : List MainStep → List Bool → List MainStep
taken [] bs = []
taken (s ∷ ss) [] = []
taken (s ∷ ss) (b ∷ bs) = if b then s ∷ taken ss bs else taken ss bs

-- whether the path ends at the end of the edges below a place, by the steps that may be taken from it down
abbrev pub arrives : Node → List MainStep → List Bool → Bool → Place → Place → Bool
arrives document ss bs here above [] = here
arrives document ss bs here above (e ∷ path) =
    arrives document ss (further document (above ++ e ∷ []) false ss bs) (ends_here document (above ++ e ∷ []) false ss bs) (above ++ e ∷ []) path

-- no step may be taken from a place down, and the path doesn't end there
pub record Stops (document : Node) (ss : List MainStep) (bs : List Bool) (place : Place) : Type 0 where
  pub no_further : taken ss (further document place false ss bs) ≡ []
  pub no_end : ends_here document place false ss bs ≡ false

-- where a step may be taken, a node with that label stands
abbrev pub IsOnlyLabel : MainStep → Label → Type 0
IsOnlyLabel s l = (document : Node) (above : Place) (e : Edge) → edge_eq (label l) e ≡ false → fits document s (above ++ e ∷ []) ≡ false

-- right below a place, the steps go on at the node with that label alone
abbrev pub IsOnlyChild : List MainStep → List Bool → Label → Type 0
IsOnlyChild ss bs l = (document : Node) (above : Place) (e : Edge) → edge_eq (label l) e ≡ false → Stops document ss bs (above ++ e ∷ [])

-- the place alone, if it is one
abbrev pub found_here : Bool → Place → List Place
found_here here place = if here then place ∷ [] else []

-- what is found at and below what stands right below a place, by the steps that may be taken from the place down
abbrev pub found_at : Node → List MainStep → List Bool → Place → Child → List Place
found_at document ss bs above c =
    map (λ path. (above ++ c.edge ∷ []) ++ path) (filter (arrives document ss (further document (above ++ c.edge ∷ []) false ss bs) (ends_here document (above ++ c.edge ∷ []) false ss bs) (above ++ c.edge ∷ [])) (places_in document c.part))

-- what is found below a place, in place order
abbrev pub found_below : Node → List MainStep → List Bool → Place → Part → List Place
found_below document ss bs above part = flat_map (found_at document ss bs above) (children document part)

-- the steps of a query, as its meaning has them
abbrev pub main_steps : List (Step Expression) → List MainStep
main_steps steps = map main_of steps

-- ---- edges

-- the labels of a place
abbrev pub labels_in : Place → List Label
labels_in [] = []
labels_in (position i ∷ place) = labels_in place
labels_in (label l ∷ place) = l ∷ labels_in place

-- the positions of a place
abbrev pub positions_in : Place → List ℕ
positions_in [] = []
positions_in (position i ∷ place) = i ∷ positions_in place
positions_in (label l ∷ place) = positions_in place
