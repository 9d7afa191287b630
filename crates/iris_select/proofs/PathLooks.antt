-- The looks along the main path are those of the query.
use Rattle.std.proofs.Common.{◌≡◌, Bool, true, false, ◌&&◌, ◌||◌, List, [], ◌∷◌, ◌++◌, map, filter, refl, ap, sym, ◌∙◌, append-nil, append_assoc}
use Rattle.std.specs.List.{list_any}
use Rattle.iris_tree.specs.Universe.{Node, IsOrdered}
use Rattle.iris_tree.specs.Document.{Edge, Place, Part, whole, part_at_place, places}
use Rattle.iris_xpath.specs.Places.{place_eq}
use Rattle.iris_xpath.specs.Meaning.{is_reached, passes, all_hold, fits, step_to}
use Rattle.iris_xpath.specs.Looks.{Looks, extent_of, looks_from, all_look, whole_looks, path_looks, query_looks}
use Rattle.iris_xpath.specs.Syntax.{Syntax, MainStep, main_of}
use Rattle.iris_xpath.proofs.Passes.{any_alike, any_fails, any_filter, any_or, any_swap, or_false, or_assoc, and_assoc}
use Rattle.iris_select.specs.Looking.{path_looks_at, walk_looks, looks_found_at, looks_found_below}
use Rattle.iris_select.specs.Parts.{Child, children, places_in}
use Rattle.iris_select.specs.Walking.{pending, further}
use Rattle.iris_select.proofs.Parts.{any_in}
use Rattle.iris_select.proofs.Walking.{is_among, goes_to, step_among, and_right, tried, tried_next, tried_top, top, not_top, further_next, further_top}

-- ---- at one place

-- where the path looks there, told by the contexts of its steps
abbrev at_context : Node → Looks → List Place → List MainStep → Place → Bool
at_context document looks context [] place = is_among context place && whole_looks document looks place
at_context document looks context (s ∷ ss) place =
    ((is_among context place && looks_from document looks s.separator (extent_of s.test) place) || (goes_to context s place && (passes (part_at_place document place) s.test && all_look document looks s.conditions place)))
    || at_context document looks (step_to document context s) ss place

looks_are : (document : Node) (looks : Looks) (context : List Place) (ss : List MainStep) (place : Place) → IsOrdered document
    → path_looks_at document looks place (is_among context place) ss (tried document context ss place) ≡ at_context document looks context ss place
looks_are document looks context [] place ordered = refl
looks_are document looks context (s ∷ ss) place ordered =
    let next = step_to document context s in
    let here = (is_among context place && looks_from document looks s.separator (extent_of s.test) place) || (goes_to context s place && (passes (part_at_place document place) s.test && all_look document looks s.conditions place)) in
    ap (λ b. here || path_looks_at document looks place b ss (tried document next ss place)) (sym (step_among document context s place ordered))
    ∙ ap (λ b. here || b) (looks_are document looks next ss place ordered)

looks_next : (document : Node) (looks : Looks) (ss : List MainStep) (place : Place) (e : Edge) → IsOrdered document
    → path_looks_at document looks (place ++ e ∷ []) false ss (pending document top ss place) ≡ at_context document looks top ss (place ++ e ∷ [])
looks_next document looks ss place e ordered =
    let at = place ++ e ∷ [] in
    ap (λ bs. path_looks_at document looks at false ss bs) (sym (tried_next document top ss place e))
    ∙ ap (λ b. path_looks_at document looks at b ss (tried document top ss at)) (not_top place e)
    ∙ looks_are document looks top ss at ordered

-- along the edges down
along : (document : Node) (looks : Looks) (ss : List MainStep) (above path : Place) → IsOrdered document
    → walk_looks document looks ss (pending document top ss above) (at_context document looks top ss above) above path ≡ at_context document looks top ss (above ++ path)
along document looks ss above [] ordered = ap (at_context document looks top ss) (sym (append-nil above))
along document looks ss above (e ∷ path) ordered =
    let at = above ++ e ∷ [] in
    ap (λ bs. walk_looks document looks ss bs (path_looks_at document looks at false ss (pending document top ss above)) at path) (further_next document ss above e ordered)
    ∙ ap (λ b. walk_looks document looks ss (pending document top ss at) b at path) (looks_next document looks ss above e ordered)
    ∙ along document looks ss at path ordered
    ∙ ap (at_context document looks top ss) (append_assoc above (e ∷ []) path)

-- ---- at all places

-- the places of the context are some of all places
abbrev Covers : Node → List Place → Type 0
Covers document context = (t : Place → Bool) → list_any t context ≡ list_any (λ place. is_among context place && t place) (places document)

covers_top : (document : Node) → Covers document top
covers_top document t =
    sym (any_in document whole (λ place. is_among top place && t place)
    ∙ ap (λ b. t [] || b) (any_fails _ (λ (c : Child). any_fails _ (λ q. refl) (places_in document c.part)) (children document whole)))

covers_step : (document : Node) (context : List Place) (s : MainStep) → IsOrdered document → Covers document (step_to document context s)
covers_step document context s ordered t =
    any_filter t (λ place. goes_to context s place && fits document s place) (places document)
    ∙ any_alike _ _ (λ place. ap (λ b. b && t place) (sym (step_among document context s place ordered))) (places document)

-- by the predicates, and then further on
parted : (g p l h r : Bool) → (g && (p && (l || (h && r)))) ≡ ((g && (p && l)) || ((g && (p && h)) && r))
parted true true l h r = refl
parted true false l h r = refl
parted false p l h r = refl

steps_look : (document : Node) (looks : Looks) (context : List Place) (ss : List MainStep) → IsOrdered document → Covers document context
    → list_any (path_looks document looks ss) context ≡ list_any (at_context document looks context ss) (places document)
steps_look document looks context [] ordered covers = covers (whole_looks document looks)
steps_look document looks context (s ∷ ss) ordered covers =
    let all = places document in
    let next = step_to document context s in
    let from = λ (place : Place). looks_from document looks s.separator (extent_of s.test) place in
    let told = λ (place : Place). all_look document looks s.conditions place in
    let rest = path_looks document looks ss in
    let ahead = λ (place : Place). told place || (all_hold document s.conditions place && rest place) in
    let go = λ (above place : Place). (is_reached s.separator above place && passes (part_at_place document place) s.test) && ahead place in
    let tests = λ (place : Place). goes_to context s place && (passes (part_at_place document place) s.test && told place) in
    let on : list_any (λ above. list_any (go above) all) context ≡ (list_any tests all || list_any (at_context document looks next ss) all) =
    any_swap go context all
    ∙ any_alike _ _ (λ place.
    any_alike _ _ (λ above. and_assoc (is_reached s.separator above place) (passes (part_at_place document place) s.test) (ahead place)) context
    ∙ and_right (λ above. is_reached s.separator above place) (passes (part_at_place document place) s.test && ahead place) context
    ∙ parted (goes_to context s place) (passes (part_at_place document place) s.test) (told place) (all_hold document s.conditions place) (rest place)) all
    ∙ any_or tests (λ place. (goes_to context s place && fits document s place) && rest place) all
    ∙ ap (λ b. list_any tests all || b) (sym (any_filter rest (λ place. goes_to context s place && fits document s place) all) ∙ steps_look document looks next ss ordered (covers_step document context s ordered)) in
    any_or from (λ above. list_any (go above) all) context
    ∙ ap (λ b. b || list_any (λ above. list_any (go above) all) context) (covers from)
    ∙ ap (λ b. list_any (λ place. is_among context place && from place) all || b) on
    ∙ sym (or_assoc (list_any (λ place. is_among context place && from place) all) (list_any tests all) (list_any (at_context document looks next ss) all))
    ∙ ap (λ b. b || list_any (at_context document looks next ss) all) (sym (any_or (λ place. is_among context place && from place) tests all))
    ∙ sym (any_or (λ place. (is_among context place && from place) || tests place) (at_context document looks next ss) all)

-- ---- from the document down

-- at a place and below it
pub looks_form : (document : Node) (looks : Looks) (ss : List MainStep) (bs : List Bool) (here : Bool) (above : Place) (part : Part)
    → list_any (walk_looks document looks ss bs here above) (places_in document part) ≡ (here || looks_found_below document looks ss bs above part)
looks_form document looks ss bs here above part = any_in document part (walk_looks document looks ss bs here above)

-- the walk looks where the query does
pub looks_all : (document : Node) (looks : Looks) (query : Syntax) → IsOrdered document
    → (path_looks_at document looks [] true (map main_of query) (map (λ s. false) (map main_of query))
    || looks_found_below document looks (map main_of query) (further document [] true (map main_of query) (map (λ s. false) (map main_of query))) [] whole)
    ≡ query_looks document looks query
looks_all document looks query ordered =
    let ss = map main_of query in
    ap (λ bs. path_looks_at document looks [] true ss (map (λ s. false) ss) || looks_found_below document looks ss bs [] whole) (further_top document ss ordered)
    ∙ ap (λ b. b || looks_found_below document looks ss (pending document top ss []) [] whole)
    (ap (λ bs. path_looks_at document looks [] true ss bs) (sym (tried_top document top ss)) ∙ looks_are document looks top ss [] ordered)
    ∙ sym (looks_form document looks ss (pending document top ss []) (at_context document looks top ss []) [] whole)
    ∙ any_alike _ _ (λ path. along document looks ss [] path ordered) (places document)
    ∙ sym (steps_look document looks top ss ordered (covers_top document))
    ∙ or_false (path_looks document looks ss [])

-- ---- where no step may be taken

-- a place to which no step may be taken is not looked at
pub no_looks : (document : Node) (looks : Looks) (place : Place) (ss : List MainStep) (bs : List Bool) → list_any (λ b. b) bs ≡ false → path_looks_at document looks place false ss bs ≡ false
no_looks document looks place [] bs h = refl
no_looks document looks place (s ∷ ss) [] h = refl
no_looks document looks place (s ∷ ss) (true ∷ bs) h = absurd (cc)
no_looks document looks place (s ∷ ss) (false ∷ bs) h = no_looks document looks place ss bs h
