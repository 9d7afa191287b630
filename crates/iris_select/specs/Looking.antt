-- Where an evaluation looks from a place, part by part of what it evaluates.
use Rattle.std.specs.Prelude.{◌≡◌, Bool, false, ◌&&◌, ◌||◌, List, [], ◌∷◌, ◌++◌, Option, Some, None}
use Rattle.std.specs.List.{list_any}
use Rattle.iris_tree.specs.Universe.{Node}
use Rattle.iris_tree.specs.Document.{Edge, label, Place, Part, part_at_place, places}
use Rattle.iris_select.specs.Parts.{Child, child, children, places_in}
use Rattle.iris_base.specs.declared.name.Label.{Label}
use Rattle.iris_xpath.specs.Places.{edge_eq}
use Rattle.iris_xpath.specs.Meaning.{is_reached, passes, all_hold, fits}
use Rattle.iris_xpath.specs.Looks.{Looks, all_look, ends_look, looks_from, extent_of, whole_looks}
use Rattle.iris_xpath.specs.Syntax.{MainStep}
use Rattle.iris_xpath.specs.declared.expression.Expression.{Expression}
use Rattle.iris_xpath.specs.declared.expression.Part.{Part as PathPart}
use Rattle.iris_xpath.specs.declared.expression.Step.{Step}
use Rattle.iris_xpath.specs.declared.expression.Attribute.{Attribute}
use Rattle.iris_xpath.specs.Said.{all_conditions, steps_from}
use Rattle.iris_select.specs.Walking.{is_deep, further}

-- where it looks from a place that a step may reach: by the predicates, and then by the further parts
abbrev pub further_looks : Node → Looks → Step Expression → List (PathPart Expression) → Option Attribute → Place → Bool
further_looks document looks s ps a at =
    all_look document looks (all_conditions s.predicates) at || (all_hold document (all_conditions s.predicates) at && ends_look document looks (steps_from ps a) at)

abbrev pub looks_at : Node → Looks → Step Expression → List (PathPart Expression) → Option Attribute → Place → Bool
looks_at document looks s ps a at = passes (part_at_place document at) s.test && further_looks document looks s ps a at

-- where it looks from all places to which a step goes
abbrev pub looks_on : Node → Looks → Step Expression → List (PathPart Expression) → Option Attribute → Place → Bool
looks_on document looks s ps a above =
    list_any (λ place. (is_reached s.separator above place && passes (part_at_place document place) s.test) && further_looks document looks s ps a place) (places document)

-- where it looks by the same step from there, which goes on with `//` alone
abbrev pub looks_deeper : Node → Looks → Step Expression → List (PathPart Expression) → Option Attribute → Place → Bool
looks_deeper document looks s ps a place = is_deep s.separator && looks_on document looks s ps a place

-- ---- the main path

-- where it looks at a place to which these steps may be taken, and where it is told whether the path begins there
abbrev pub path_looks_at : Node → Looks → Place → Bool → List MainStep → List Bool → Bool
path_looks_at document looks place here [] bs = here && whole_looks document looks place
path_looks_at document looks place here (s ∷ ss) [] = here && whole_looks document looks place
path_looks_at document looks place here (s ∷ ss) (b ∷ bs) =
    ((here && looks_from document looks s.separator (extent_of s.test) place) || (b && (passes (part_at_place document place) s.test && all_look document looks s.conditions place)))
    || path_looks_at document looks place (b && fits document s place) ss bs

-- where it looks at the end of the edges below a place, by the steps that may be taken from it down; at the place itself as is told
abbrev pub walk_looks : Node → Looks → List MainStep → List Bool → Bool → Place → Place → Bool
walk_looks document looks ss bs here above [] = here
walk_looks document looks ss bs here above (e ∷ path) =
    walk_looks document looks ss (further document (above ++ e ∷ []) false ss bs) (path_looks_at document looks (above ++ e ∷ []) false ss bs) (above ++ e ∷ []) path

-- where it looks at and below what stands right below a place, by the steps that may be taken from the place down
abbrev pub looks_found_at : Node → Looks → List MainStep → List Bool → Place → Child → Bool
looks_found_at document looks ss bs above c =
    list_any (walk_looks document looks ss (further document (above ++ c.edge ∷ []) false ss bs) (path_looks_at document looks (above ++ c.edge ∷ []) false ss bs) (above ++ c.edge ∷ [])) (places_in document c.part)

-- where it looks below a place
abbrev pub looks_found_below : Node → Looks → List MainStep → List Bool → Place → Part → Bool
looks_found_below document looks ss bs above part = list_any (looks_found_at document looks ss bs above) (children document part)

-- the step makes no look by its predicates where no node with that label stands
abbrev pub IsOnlyLook : MainStep → Label → Type 0
IsOnlyLook s l = (document : Node) (looks : Looks) (above : Place) (e : Edge) → edge_eq (label l) e ≡ false → (passes (part_at_place document (above ++ e ∷ [])) s.test && all_look document looks s.conditions (above ++ e ∷ [])) ≡ false

-- right below a place, the steps look at the node with that label alone
abbrev pub AreOnlyLooks : List MainStep → List Bool → Label → Type 0
AreOnlyLooks ss bs l = (document : Node) (looks : Looks) (above : Place) (e : Edge) → edge_eq (label l) e ≡ false → path_looks_at document looks (above ++ e ∷ []) false ss bs ≡ false

-- where it looks at and below what stands at a label, if something does
abbrev pub looks_found_by : Node → Looks → List MainStep → List Bool → Place → Label → Option Part → Bool
looks_found_by document looks ss bs above l None = false
looks_found_by document looks ss bs above l (Some part) = looks_found_at document looks ss bs above (child (label l) part)
