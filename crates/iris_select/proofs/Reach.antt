-- What steps and attributes find from a place, by what stands there and below it.
use Rattle.std.proofs.Common.{◌≡◌, ℕ, Bool, true, false, cond, not, ◌&&◌, ◌||◌, List, [], ◌∷◌, ◌++◌, map, filter, refl, ap, sym, ◌∙◌, append-nil, append_assoc, Option, Some, None, option_map}
use Rattle.std.specs.List.{list_any, flat_map, filter_map}
use Rattle.iris_tree.specs.Universe.{Node, IsOrdered}
use Rattle.iris_tree.specs.Document.{Edge, Place, Part, whole, part_at_place, places}
use Rattle.iris_xpath.specs.Places.{place_eq, is_above, attribute_of}
use Rattle.iris_xpath.specs.Same.{some_passes}
use Rattle.iris_xpath.specs.Meaning.{is_reached, passes, attribute_at, from_here, all_hold, ends}
use Rattle.iris_xpath.specs.Syntax.{Conditions, Steps, step}
use Rattle.iris_xpath.specs.declared.expression.NameTest.{NameTest}
use Rattle.iris_xpath.specs.declared.expression.Separator.{Separator}
use Rattle.iris_xpath.specs.declared.expression.Separator.TheVariants.{Slash, DoubleSlash}
use Rattle.iris_xpath.proofs.Below.{begins, always, is_edge, has_edge, goes_down, reached_begins, above_begins, edge_itself}
use Rattle.iris_xpath.proofs.Passes.{any_alike, any_fails, any_map, any_filter, any_filter_map, any_flat, any_and, or_false, and_assoc, and_always}
use Rattle.iris_select.specs.Parts.{Child, child, children, child_part, part_below, places_in}
use Rattle.iris_select.specs.Walking.{is_deep}
use Rattle.iris_select.proofs.Parts.{any_in, at_below, part_step}

-- ---- a step

-- whether a step from a place goes to a wanted one
abbrev pub reaches : Node → Separator → (Place → Bool) → Place → Part → Bool
reaches document s wanted above part = list_any (λ q. goes_down s q && wanted (above ++ q)) (places_in document part)

-- of all places
pub reached_any : (document : Node) (s : Separator) (wanted : Place → Bool) (above : Place) (part : Part) → IsOrdered document → part_at_place document above ≡ Some part
    → list_any (λ place. is_reached s above place && wanted place) (places document) ≡ reaches document s wanted above part
reached_any document s wanted above part ordered there =
    any_alike _ _ (λ place. ap (λ b. b && wanted place) (reached_begins s above place)) (places document)
    ∙ at_below document (goes_down s) wanted whole above part ordered there

-- the place itself, and those below it
pub first_and_more : (document : Node) (part : Part) (t : Place → Bool) → list_any t (places_in document part) ≡ (t [] || list_any (λ q. has_edge q && t q) (places_in document part))
first_and_more document part t =
    any_in document part t
    ∙ ap (λ b. t [] || b) (sym (any_in document part (λ q. has_edge q && t q)))

-- the place itself alone
pub first_alone : (document : Node) (part : Part) (e : Edge) (t : Place → Bool) → list_any (λ q. is_edge (e ∷ q) && t q) (places_in document part) ≡ t []
first_alone document part e t =
    any_in document part (λ q. is_edge (e ∷ q) && t q)
    ∙ ap (λ b. t [] || b) (any_fails _ (λ (c : Child). any_fails _ (λ q. refl) (places_in document c.part)) (children document part))
    ∙ or_false (t [])

one_edge : (above : Place) (e : Edge) (q : Place) → (above ++ e ∷ []) ++ q ≡ above ++ e ∷ q
one_edge above e q = append_assoc above (e ∷ []) q

-- by those right below
pub reaches_children : (document : Node) (s : Separator) (wanted : Place → Bool) (above : Place) (part : Part)
    → reaches document s wanted above part ≡ list_any (λ c. wanted (above ++ c.edge ∷ []) || (is_deep s && reaches document s wanted (above ++ c.edge ∷ []) c.part)) (children document part)
reaches_children document Slash wanted above part =
    any_in document part (λ q. is_edge q && wanted (above ++ q))
    ∙ any_alike _ _ (λ (c : Child). first_alone document c.part c.edge (λ q. wanted (above ++ c.edge ∷ q)) ∙ sym (or_false (wanted (above ++ c.edge ∷ [])))) (children document part)
reaches_children document DoubleSlash wanted above part =
    any_in document part (λ q. has_edge q && wanted (above ++ q))
    ∙ any_alike _ _ (λ (c : Child). first_and_more document c.part (λ q. wanted (above ++ c.edge ∷ q))
    ∙ ap (λ b. wanted (above ++ c.edge ∷ []) || b) (any_alike _ _ (λ q. ap (λ (p : Place). has_edge q && wanted p) (sym (one_edge above c.edge q))) (places_in document c.part))) (children document part)

-- ---- ends of paths

regroup : (a b c d : Bool) → (((a && b) && c) && d) ≡ (a && ((b && c) && d))
regroup true b c d = refl
regroup false b c d = refl

-- whether a further end passes, from a place to which a step goes
abbrev pub wanted_at : Node → NameTest → Conditions → Steps → (Option (List ℕ) → Bool) → Place → Bool
wanted_at document test cs steps t place = (passes (part_at_place document place) test && all_hold document cs place) && list_any t (ends document steps place)

-- what a path finds from a place by a step
pub ends_step : (document : Node) (s : Separator) (test : NameTest) (cs : Conditions) (steps : Steps) (t : Option (List ℕ) → Bool) (above : Place) (part : Part) → IsOrdered document → part_at_place document above ≡ Some part
    → list_any t (ends document (step s test cs steps) above) ≡ reaches document s (wanted_at document test cs steps t) above part
ends_step document s test cs steps t above part ordered there =
    any_flat t (ends document steps) (filter (λ at. is_reached s above at && passes (part_at_place document at) test && all_hold document cs at) (places document))
    ∙ any_filter (λ at. list_any t (ends document steps at)) (λ at. is_reached s above at && passes (part_at_place document at) test && all_hold document cs at) (places document)
    ∙ any_alike _ _ (λ at. regroup (is_reached s above at) (passes (part_at_place document at) test) (all_hold document cs at) (list_any t (ends document steps at))) (places document)
    ∙ reached_any document s (wanted_at document test cs steps t) above part ordered there

-- what it finds, by those right below
abbrev pub found_at : Node → Separator → NameTest → Conditions → Steps → (Option (List ℕ) → Bool) → Place → Bool
found_at document s test cs steps t place = wanted_at document test cs steps t place || (is_deep s && list_any t (ends document (step s test cs steps) place))
