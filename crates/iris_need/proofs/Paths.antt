-- The main path of a program reaches just the places that the query selects.
use Rattle.std.proofs.Common.{◌≡◌, ℕ, ◌+◌, Bool, true, false, ◌&&◌, ◌||◌, List, [], ◌∷◌, map, refl, ap, sym, ◌∙◌}
use Rattle.std.specs.List.{list_any}
use Rattle.iris_tree.specs.Universe.{Node, label_of}
use Rattle.iris_tree.specs.Document.{Place, part_at_place, places}
use Rattle.iris_xpath.specs.Meaning.{is_reached, passes, fits, step_to, steps_to, selected}
use Rattle.iris_xpath.specs.Meaning as meaning
use Rattle.iris_xpath.specs.Syntax.{Syntax, MainStep, main_of}
use Rattle.iris_base.specs.declared.state.State.TheVariants as states
use Rattle.iris_need.specs.Program.{Spot, document_spot, tested, tested_at, all_hold}
use Rattle.iris_need.specs.Run.{Run, give, eval}
use Rattle.iris_need.specs.Found.{goes_then, reached_places}
use Rattle.iris_xpath.specs.Same.{HaveSame}
use Rattle.iris_need.specs.Spots.{place_at, IsSpot}
use Rattle.iris_need.proofs.Predicates.{all_hold_is}
use Rattle.iris_need.proofs.Steps.{where_any, Finds, stepping, reach_any}
use Rattle.iris_xpath.proofs.Passes.{any_alike, any_filter, any_swap, or_false}
use Rattle.iris_need.proofs.Attributes.{IsCity}

-- whether steps lead from a place to a wanted one
abbrev pub leads : Node → List MainStep → (Place → Bool) → Place → Bool
leads document [] wanted above = wanted above
leads document (s ∷ ss) wanted above = stepping document s.separator s.test above (λ place. meaning.all_hold document s.conditions place && leads document ss wanted place)

-- ---- the program

tested_any : {A : Type 0} (document : Node) (i : ℕ) (s : MainStep) (spot : Spot) (r : Run (List A)) (t : A → Bool) → IsCity document → IsSpot document spot
    → list_any t (eval document (tested (label_of document) i s spot r)) ≡ (meaning.all_hold document s.conditions (place_at spot) && list_any t (eval document r))
tested_any document i s spot r t city is =
    let marks = tested_at (states.Test i) spot in
    where_any document t (eval document (all_hold (label_of document) marks s.conditions spot)) r
    ∙ ap (λ b. b && list_any t (eval document r)) (all_hold_is document marks city s.conditions spot is)

-- a step and all further ones of a program find what they lead to
pub goes_any : {A : Type 0} (document : Node) (i : ℕ) (ss : List MainStep) (end : Spot → Run (List A)) (spot : Spot) (t : A → Bool) (wanted : Place → Bool) → IsCity document → IsSpot document spot → Finds document t end wanted
    → list_any t (eval document (goes_then (label_of document) i ss end spot)) ≡ leads document ss wanted (place_at spot)
goes_any document i [] end spot t wanted city is finds = finds spot is
goes_any document i (s ∷ ss) end spot t wanted city is finds =
    reach_any document s.separator s.test (λ name. states.At i ∷ []) (λ name. states.Seek i ∷ []) spot (λ at. tested (label_of document) i s at (goes_then (label_of document) (i + 1) ss end at)) t
    (λ place. meaning.all_hold document s.conditions place && leads document ss wanted place) city.in_order is
    (λ at h. tested_any document i s at (goes_then (label_of document) (i + 1) ss end at) t city h ∙ ap (λ b. meaning.all_hold document s.conditions (place_at at) && b) (goes_any document (i + 1) ss end at t wanted city h finds))

-- ---- the meaning

and_regroup : (a b c d : Bool) → ((a && (b && c)) && d) ≡ ((a && b) && (c && d))
and_regroup true true c d = refl
and_regroup true false c d = refl
and_regroup false b c d = refl

any_and_right : {A : Type 0} (t : A → Bool) (b : Bool) (xs : List A) → list_any (λ x. t x && b) xs ≡ (list_any t xs && b)
any_and_right t b [] = refl
any_and_right t b (x ∷ xs) = ap (λ c. (t x && b) || c) (any_and_right t b xs) ∙ or_and (t x) (list_any t xs) b
  where
    or_and : (a c d : Bool) → ((a && d) || (c && d)) ≡ ((a || c) && d)
    or_and true true true = refl
    or_and true true false = refl
    or_and true false true = refl
    or_and true false false = refl
    or_and false c d = refl

-- a step from a context goes where it goes from one of its places
step_any : (document : Node) (context : List Place) (s : MainStep) (wanted : Place → Bool)
    → list_any wanted (step_to document context s) ≡ list_any (λ above. stepping document s.separator s.test above (λ place. meaning.all_hold document s.conditions place && wanted place)) context
step_any document context s wanted =
    let reached = λ (above place : Place). is_reached s.separator above place in
    any_filter wanted (λ place. list_any (λ above. reached above place) context && fits document s place) (places document)
    ∙ any_alike _ _ (λ place.
    and_regroup (list_any (λ above. reached above place) context) (passes (part_at_place document place) s.test) (meaning.all_hold document s.conditions place) (wanted place)
    ∙ ap (λ b. b && (meaning.all_hold document s.conditions place && wanted place)) (sym (any_and_right (λ above. reached above place) (passes (part_at_place document place) s.test) context))
    ∙ sym (any_and_right (λ above. reached above place && passes (part_at_place document place) s.test) (meaning.all_hold document s.conditions place && wanted place) context)) (places document)
    ∙ any_swap (λ place above. (reached above place && passes (part_at_place document place) s.test) && (meaning.all_hold document s.conditions place && wanted place)) (places document) context

steps_any : (document : Node) (context : List Place) (ss : List MainStep) (wanted : Place → Bool) → list_any wanted (steps_to document context ss) ≡ list_any (leads document ss wanted) context
steps_any document context [] wanted = refl
steps_any document context (s ∷ ss) wanted = steps_any document (step_to document context s) ss wanted ∙ step_any document context s (leads document ss wanted)

-- a wanted place is selected just where the steps lead to it from the document
pub selected_any : (document : Node) (query : Syntax) (wanted : Place → Bool) → list_any wanted (selected document query) ≡ leads document (map main_of query) wanted []
selected_any document query wanted = steps_any document ([] ∷ []) (map main_of query) wanted ∙ or_false (leads document (map main_of query) wanted [])

-- the program reaches the selected places and no others
pub reached_same : (document : Node) (query : Syntax) → IsCity document → HaveSame (reached_places document query) (selected document query)
reached_same document query city t =
    goes_any document 0 (map main_of query) (λ spot. give (place_at spot ∷ [])) document_spot t t city tt (λ spot is. or_false (t (place_at spot))) ∙ sym (selected_any document query t)
