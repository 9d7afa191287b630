-- The steps that may be taken lead just to the places that a query selects.
use Rattle.std.proofs.Common.{◌≡◌, Bool, true, false, cond, not, ◌&&◌, ◌||◌, List, [], ◌∷◌, ◌++◌, map, filter, refl, ap, sym, ◌∙◌, append-nil, append_assoc, Option, Some, None, true≢false}
use Rattle.std.specs.List.{list_any, flat_map}
use Rattle.std.specs.Str.{bytes_eq}
use Rattle.std.proofs.lemmas.List.{map-append}
use Rattle.std.proofs.lemmas.List.Elements.{filter-append}
use Rattle.std.proofs.lemmas.Slice.Eq.{bytes_eq-Decides}
use Rattle.iris_base.specs.declared.name.Label.{Label}
use Rattle.iris_base.proofs.Labels.{label_eq-Decides}
use Rattle.iris_tree.specs.Universe.{Node, IsOrdered}
use Rattle.iris_tree.specs.Document.{Edge, position, label, Place, Part, whole, part_at_place, places}
use Rattle.iris_xpath.specs.declared.expression.Separator.{Separator}
use Rattle.iris_xpath.specs.declared.expression.Separator.TheVariants.{Slash, DoubleSlash}
use Rattle.iris_xpath.specs.Places.{edge_eq, place_eq, is_parent, is_above}
use Rattle.iris_xpath.specs.Looks.{is_sought}
use Rattle.iris_xpath.specs.Meaning.{is_reached, passes, all_hold, fits, step_to, steps_to}
use Rattle.iris_xpath.specs.Syntax.{MainStep}
use Rattle.iris_xpath.proofs.Below.{begins, edge_itself}
use Rattle.iris_xpath.proofs.SelectedPlaces.{filter_same}
use Rattle.iris_xpath.proofs.Passes.{any_alike, any_fails, any_filter, any_or, or_false, and_never, and_always}
use Rattle.iris_select.specs.Parts.{Child, child, children, places_in}
use Rattle.iris_select.specs.Walking.{is_deep, goes_from, pending, further, ends_here, arrives, found_here, found_at, found_below}
use Rattle.iris_select.proofs.Parts.{under, places_form, any_in, at_below}

-- ---- equal places

pub edge_exact : (e f : Edge) → edge_eq e f ≡ true → e ≡ f
edge_exact (position i) (position j) h = let same : i ∷ [] ≡ j ∷ [] = (bytes_eq-Decides (i ∷ []) (j ∷ [])).0 h in cc
edge_exact (position i) (label m) h = absurd (cc)
edge_exact (label l) (position j) h = absurd (cc)
edge_exact (label l) (label m) h = ap label ((label_eq-Decides l m).0 h)

both_true : (a b : Bool) → (a && b) ≡ true → (a ≡ true) × (b ≡ true)
both_true true b h = (refl, h)
both_true false b h = absurd (cc)

exact : (p q : Place) → place_eq p q ≡ true → p ≡ q
exact [] [] h = refl
exact [] (f ∷ q) h = absurd (cc)
exact (e ∷ p) [] h = absurd (cc)
exact (e ∷ p) (f ∷ q) h =
    let k = both_true (edge_eq e f) (place_eq p q) h in
    ap (λ d. d ∷ p) (edge_exact e f k.0) ∙ ap (λ r. f ∷ r) (exact p q k.1)

itself : (p : Place) → place_eq p p ≡ true
itself [] = refl
itself (e ∷ p) = rw (edge_itself e) (itself p)

above_itself : (p : Place) → is_above p p ≡ true
above_itself [] = refl
above_itself (e ∷ p) = rw (edge_itself e) (above_itself p)

symmetric : (p q : Place) → place_eq p q ≡ place_eq q p
symmetric p q = decided (place_eq p q) (place_eq q p) refl refl
  where
    decided : (a b : Bool) → place_eq p q ≡ a → place_eq q p ≡ b → a ≡ b
    decided true true e h = refl
    decided true false e h = absurd (true≢false (sym (ap (λ r. place_eq q r) (exact p q e) ∙ itself q) ∙ h))
    decided false true e h = absurd (true≢false (sym (ap (λ r. place_eq p r) (exact q p h) ∙ itself p) ∙ e))
    decided false false e h = refl

-- ---- one place among all

abbrev is_here : Place → Bool
is_here [] = true
is_here (e ∷ place) = false

begins_here : (above place : Place) → begins is_here above place ≡ place_eq above place
begins_here [] [] = refl
begins_here [] (f ∷ q) = refl
begins_here (e ∷ p) [] = refl
begins_here (e ∷ p) (f ∷ q) = ap (λ b. edge_eq e f && b) (begins_here p q)

and_comm : (a b : Bool) → (a && b) ≡ (b && a)
and_comm true true = refl
and_comm true false = refl
and_comm false true = refl
and_comm false false = refl

-- a place at which something stands is one of all places
pub there_once : (document : Node) (w : Place → Bool) (place : Place) (y : Part) → IsOrdered document → part_at_place document place ≡ Some y → list_any (λ q. place_eq place q && w q) (places document) ≡ w place
there_once document w place y ordered there =
    any_alike _ _ (λ q. ap (λ b. b && w q) (sym (begins_here place q))) (places document)
    ∙ at_below document is_here w whole place y ordered there
    ∙ any_in document y (λ q. is_here q && w (place ++ q))
    ∙ ap (λ b. w (place ++ []) || b) (any_fails _ (λ (c : Child). any_fails _ (λ q. refl) (places_in document c.part)) (children document y))
    ∙ or_false (w (place ++ []))
    ∙ ap w (append-nil place)

-- whether a place is one of these
abbrev pub is_among : List Place → Place → Bool
is_among context place = list_any (λ above. place_eq above place) context

-- whether a step from the context goes to a place
abbrev pub goes_to : List Place → MainStep → Place → Bool
goes_to context s place = list_any (λ above. is_reached s.separator above place) context

other_place : (P : Place → Bool) (place q : Place) → P place ≡ false → (P q && place_eq q place) ≡ false
other_place P place q never = decided (place_eq q place) refl
  where
    decided : (b : Bool) → place_eq q place ≡ b → (P q && place_eq q place) ≡ false
    decided true e = ap (λ b. b && place_eq q place) (ap P (exact q place e) ∙ never)
    decided false e = ap (λ b. P q && b) e ∙ and_never (P q)

kept_among : (document : Node) (P : Place → Bool) (place : Place) (o : Option Part) → IsOrdered document → part_at_place document place ≡ o → (o ≡ None → P place ≡ false) → is_among (filter P (places document)) place ≡ P place
kept_among document P place None ordered there never =
    any_filter (λ q. place_eq q place) P (places document) ∙ any_fails _ (λ q. other_place P place q (never refl)) (places document) ∙ sym (never refl)
kept_among document P place (Some y) ordered there never =
    any_filter (λ q. place_eq q place) P (places document)
    ∙ any_alike _ _ (λ q. and_comm (P q) (place_eq q place) ∙ ap (λ b. b && P q) (symmetric q place)) (places document)
    ∙ there_once document P place y ordered there

-- the places to which a step goes
pub step_among : (document : Node) (context : List Place) (s : MainStep) (place : Place) → IsOrdered document → is_among (step_to document context s) place ≡ (goes_to context s place && fits document s place)
step_among document context s place ordered =
    kept_among document (λ at. goes_to context s at && fits document s at) place (part_at_place document place) ordered refl
    (λ none. ap (λ (o : Option Part). goes_to context s place && (passes o s.test && all_hold document s.conditions place)) none ∙ and_never (goes_to context s place))

-- ---- from a place to those right below

parent_next : (above place : Place) (e : Edge) → is_parent above (place ++ e ∷ []) ≡ place_eq above place
parent_next [] [] e = refl
parent_next [] (f ∷ []) e = refl
parent_next [] (f ∷ g ∷ q) e = refl
parent_next (d ∷ []) [] e = and_never (edge_eq d e)
parent_next (d ∷ c ∷ p) [] e = and_never (edge_eq d e)
parent_next (d ∷ p) (f ∷ q) e = ap (λ b. edge_eq d f && b) (parent_next p q e)

never_both : (a b : Bool) → ((a && b) && not (a && b)) ≡ false
never_both true true = refl
never_both true false = refl
never_both false b = refl

never_first : (a b : Bool) → ((a && false) && b) ≡ false
never_first true b = refl
never_first false b = refl

split : (b c d : Bool) → ((b && c) && not (b && d)) ≡ (b && (c && not d))
split true c d = refl
split false c d = refl

above_next : (above place : Place) (e : Edge) → (is_above above (place ++ e ∷ []) && not (place_eq above (place ++ e ∷ []))) ≡ is_above above place
above_next [] [] e = refl
above_next [] (f ∷ q) e = refl
above_next (d ∷ []) [] e = never_both (edge_eq d e) true
above_next (d ∷ c ∷ p) [] e = never_first (edge_eq d e) (not (edge_eq d e && false))
above_next (d ∷ p) (f ∷ q) e = split (edge_eq d f) (is_above p (q ++ e ∷ [])) (place_eq p (q ++ e ∷ [])) ∙ ap (λ b. edge_eq d f && b) (above_next p q e)

reached_next : (s : Separator) (above place : Place) (e : Edge) → is_reached s above (place ++ e ∷ []) ≡ is_sought s above place
reached_next Slash above place e = parent_next above place e
reached_next DoubleSlash above place e = above_next above place e

-- a step is taken from a place down where the path begins there, or with `//` where it may be taken to it
sought_again : (s : Separator) (above place : Place) → is_sought s above place ≡ (place_eq above place || (is_reached s above place && is_deep s))
sought_again Slash above place = sym (ap (λ b. place_eq above place || b) (and_never (is_parent above place)) ∙ or_false (place_eq above place))
sought_again DoubleSlash above place = decided (place_eq above place) refl
  where
    decided : (b : Bool) → place_eq above place ≡ b → is_above above place ≡ (b || ((is_above above place && not b) && true))
    decided true e = ap (λ p. is_above p place) (exact above place e) ∙ above_itself place
    decided false e = sym (and_always (is_above above place && true) ∙ and_always (is_above above place))

pub and_right : {A : Type 0} (t : A → Bool) (b : Bool) (xs : List A) → list_any (λ x. t x && b) xs ≡ (list_any t xs && b)
and_right t b [] = refl
and_right t b (x ∷ xs) = ap (λ c. (t x && b) || c) (and_right t b xs) ∙ or_and (t x) (list_any t xs) b
  where
    or_and : (a c d : Bool) → ((a && d) || (c && d)) ≡ ((a || c) && d)
    or_and true true true = refl
    or_and true true false = refl
    or_and true false true = refl
    or_and true false false = refl
    or_and false c d = refl

goes_again : (context : List Place) (s : MainStep) (place : Place) → (is_among context place || (goes_to context s place && is_deep s.separator)) ≡ goes_from context s place
goes_again context s place =
    sym (any_alike _ _ (λ above. sought_again s.separator above place) context
    ∙ any_or (λ above. place_eq above place) (λ above. is_reached s.separator above place && is_deep s.separator) context
    ∙ ap (λ b. is_among context place || b) (and_right (λ above. is_reached s.separator above place) (is_deep s.separator) context))

-- which of the steps may be taken to a place
abbrev pub tried : Node → List Place → List MainStep → Place → List Bool
tried document context [] place = []
tried document context (s ∷ ss) place = goes_to context s place ∷ tried document (step_to document context s) ss place

pub tried_next : (document : Node) (context : List Place) (ss : List MainStep) (place : Place) (e : Edge) → tried document context ss (place ++ e ∷ []) ≡ pending document context ss place
tried_next document context [] place e = refl
tried_next document context (s ∷ ss) place e =
    ap (λ b. b ∷ tried document (step_to document context s) ss (place ++ e ∷ [])) (any_alike _ _ (λ above. reached_next s.separator above place e) context)
    ∙ ap (λ bs. goes_from context s place ∷ bs) (tried_next document (step_to document context s) ss place e)

further_is : (document : Node) (context : List Place) (ss : List MainStep) (place : Place) → IsOrdered document → further document place (is_among context place) ss (tried document context ss place) ≡ pending document context ss place
further_is document context [] place ordered = refl
further_is document context (s ∷ ss) place ordered =
    let next = step_to document context s in
    ap (λ b. b ∷ further document place (goes_to context s place && fits document s place) ss (tried document next ss place)) (goes_again context s place)
    ∙ ap (λ b. goes_from context s place ∷ further document place b ss (tried document next ss place)) (sym (step_among document context s place ordered))
    ∙ ap (λ bs. goes_from context s place ∷ bs) (further_is document next ss place ordered)

ends_are : (document : Node) (context : List Place) (ss : List MainStep) (place : Place) → IsOrdered document → ends_here document place (is_among context place) ss (tried document context ss place) ≡ is_among (steps_to document context ss) place
ends_are document context [] place ordered = refl
ends_are document context (s ∷ ss) place ordered =
    let next = step_to document context s in
    ap (λ b. ends_here document place b ss (tried document next ss place)) (sym (step_among document context s place ordered)) ∙ ends_are document next ss place ordered

-- ---- from the document down

-- the document alone
abbrev pub top : List Place
top = [] ∷ []

-- no place below the document is it
pub not_top : (place : Place) (e : Edge) → false ≡ is_among top (place ++ e ∷ [])
not_top [] e = refl
not_top (f ∷ place) e = refl

-- one edge further down
pub further_next : (document : Node) (ss : List MainStep) (place : Place) (e : Edge) → IsOrdered document → further document (place ++ e ∷ []) false ss (pending document top ss place) ≡ pending document top ss (place ++ e ∷ [])
further_next document ss place e ordered =
    let at = place ++ e ∷ [] in
    ap (λ bs. further document at false ss bs) (sym (tried_next document top ss place e)) ∙ ap (λ b. further document at b ss (tried document top ss at)) (not_top place e) ∙ further_is document top ss at ordered

pub ends_next : (document : Node) (ss : List MainStep) (place : Place) (e : Edge) → IsOrdered document → ends_here document (place ++ e ∷ []) false ss (pending document top ss place) ≡ is_among (steps_to document top ss) (place ++ e ∷ [])
ends_next document ss place e ordered =
    let at = place ++ e ∷ [] in
    ap (λ bs. ends_here document at false ss bs) (sym (tried_next document top ss place e)) ∙ ap (λ b. ends_here document at b ss (tried document top ss at)) (not_top place e) ∙ ends_are document top ss at ordered

pub arrives_is : (document : Node) (ss : List MainStep) (above path : Place) → IsOrdered document → arrives document ss (pending document top ss above) (is_among (steps_to document top ss) above) above path ≡ is_among (steps_to document top ss) (above ++ path)
arrives_is document ss above [] ordered = ap (is_among (steps_to document top ss)) (sym (append-nil above))
arrives_is document ss above (e ∷ path) ordered =
    let at = above ++ e ∷ [] in
    ap (λ bs. arrives document ss bs (ends_here document at false ss (pending document top ss above)) at path) (further_next document ss above e ordered)
    ∙ ap (λ b. arrives document ss (pending document top ss at) b at path) (ends_next document ss above e ordered)
    ∙ arrives_is document ss at path ordered
    ∙ ap (is_among (steps_to document top ss)) (append_assoc above (e ∷ []) path)

none_above : (s : Separator) (above : Place) → is_reached s above [] ≡ false
none_above Slash [] = refl
none_above Slash (e ∷ p) = refl
none_above DoubleSlash [] = refl
none_above DoubleSlash (e ∷ p) = refl

pub tried_top : (document : Node) (context : List Place) (ss : List MainStep) → tried document context ss [] ≡ map (λ s. false) ss
tried_top document context [] = refl
tried_top document context (s ∷ ss) = ap (λ b. b ∷ tried document (step_to document context s) ss []) (any_fails _ (none_above s.separator) context) ∙ ap (λ bs. false ∷ bs) (tried_top document (step_to document context s) ss)

-- at the document the first step may be taken
pub further_top : (document : Node) (ss : List MainStep) → IsOrdered document → further document [] true ss (map (λ s. false) ss) ≡ pending document top ss []
further_top document ss ordered = ap (λ bs. further document [] true ss bs) (sym (tried_top document top ss)) ∙ further_is document top ss [] ordered

pub ends_top : (document : Node) (ss : List MainStep) → IsOrdered document → ends_here document [] true ss (map (λ s. false) ss) ≡ is_among (steps_to document top ss) []
ends_top document ss ordered = ap (λ bs. ends_here document [] true ss bs) (sym (tried_top document top ss)) ∙ ends_are document top ss [] ordered

-- ---- lists

map_same : {A B : Type 0} (f g : A → B) → ((x : A) → f x ≡ g x) → (xs : List A) → map f xs ≡ map g xs
map_same f g h [] = refl
map_same f g h (x ∷ xs) = ap (λ y. y ∷ map f xs) (h x) ∙ ap (λ ys. g x ∷ ys) (map_same f g h xs)

-- one function after another
pub map_map : {A B C : Type 0} (f : B → C) (g : A → B) (xs : List A) → map f (map g xs) ≡ map (λ x. f (g x)) xs
map_map f g [] = refl
map_map f g (x ∷ xs) = ap (λ ys. f (g x) ∷ ys) (map_map f g xs)

map_cond : {A B : Type 0} (f : A → B) (b : Bool) (x : A) (xs : List A) → map f (cond b (x ∷ xs) xs) ≡ cond b (f x ∷ map f xs) (map f xs)
map_cond f true x xs = refl
map_cond f false x xs = refl

filter_map_same : {A B : Type 0} (t : B → Bool) (f : A → B) (xs : List A) → filter t (map f xs) ≡ map f (filter (λ x. t (f x)) xs)
filter_map_same t f [] = refl
filter_map_same t f (x ∷ xs) = ap (λ ys. cond (t (f x)) (f x ∷ ys) ys) (filter_map_same t f xs) ∙ sym (map_cond f (t (f x)) x (filter (λ y. t (f y)) xs))

-- ---- what is found

found_each : (document : Node) (ss : List MainStep) (bs : List Bool) (here : Bool) (above : Place) (cs : List Child)
    → map (λ path. above ++ path) (filter (arrives document ss bs here above) (flat_map (under document) cs)) ≡ flat_map (found_at document ss bs above) cs
found_each document ss bs here above [] = refl
found_each document ss bs here above (c ∷ cs) =
    let t = arrives document ss bs here above in
    let later = flat_map (under document) cs in
    ap (map (λ path. above ++ path)) (filter-append t (under document c) later)
    ∙ map-append (λ path. above ++ path) (filter t (under document c)) (filter t later)
    ∙ ap (λ (ps : List Place). ps ++ map (λ path. above ++ path) (filter t later))
    (ap (map (λ path. above ++ path)) (filter_map_same t (λ path. c.edge ∷ path) (places_in document c.part))
    ∙ map_map (λ path. above ++ path) (λ path. c.edge ∷ path) (filter (λ path. t (c.edge ∷ path)) (places_in document c.part))
    ∙ map_same _ _ (λ path. sym (append_assoc above (c.edge ∷ []) path)) (filter (λ path. t (c.edge ∷ path)) (places_in document c.part)))
    ∙ ap (λ (ps : List Place). found_at document ss bs above c ++ ps) (found_each document ss bs here above cs)

here_first : (b : Bool) (above : Place) (rest : List Place) → map (λ path. above ++ path) (cond b ([] ∷ rest) rest) ≡ found_here b above ++ map (λ path. above ++ path) rest
here_first true above rest = ap (λ (p : Place). p ∷ map (λ path. above ++ path) rest) (append-nil above)
here_first false above rest = refl

-- at a place and below it: the place itself, and then what is found at and below each that stands right below it
pub found_form : (document : Node) (ss : List MainStep) (bs : List Bool) (here : Bool) (above : Place) (part : Part)
    → map (λ path. above ++ path) (filter (arrives document ss bs here above) (places_in document part)) ≡ found_here here above ++ found_below document ss bs above part
found_form document ss bs here above part =
    let t = arrives document ss bs here above in
    ap (λ ps. map (λ path. above ++ path) (filter t ps)) (places_form document part)
    ∙ here_first here above (filter t (flat_map (under document) (children document part)))
    ∙ ap (λ ps. found_here here above ++ ps) (found_each document ss bs here above (children document part))

own_places : (document : Node) (context : List Place) (s : MainStep) (ss : List MainStep) → IsOrdered document → filter (is_among (steps_to document context (s ∷ ss))) (places document) ≡ steps_to document context (s ∷ ss)
own_places document context s [] ordered = filter_same _ _ (λ place. step_among document context s place ordered) (places document)
own_places document context s (t ∷ ss) ordered = own_places document (step_to document context s) t ss ordered

map_nothing : (ps : List Place) → map (λ path. [] ++ path) ps ≡ ps
map_nothing [] = refl
map_nothing (p ∷ ps) = ap (λ qs. p ∷ qs) (map_nothing ps)

-- from the document down, the steps lead to the places that the query selects
pub found_all : (document : Node) (s : MainStep) (ss : List MainStep) → IsOrdered document
    → found_here (ends_here document [] true (s ∷ ss) (map (λ s. false) (s ∷ ss))) [] ++ found_below document (s ∷ ss) (further document [] true (s ∷ ss) (map (λ s. false) (s ∷ ss))) [] whole ≡ steps_to document top (s ∷ ss)
found_all document s ss ordered =
    let steps = s ∷ ss in
    let selected = steps_to document top steps in
    ap (λ b. found_here b [] ++ found_below document steps (further document [] true steps (map (λ s. false) steps)) [] whole) (ends_top document steps ordered)
    ∙ ap (λ bs. found_here (is_among selected []) [] ++ found_below document steps bs [] whole) (further_top document steps ordered)
    ∙ sym (found_form document steps (pending document top steps []) (is_among selected []) [] whole)
    ∙ map_nothing _
    ∙ filter_same _ _ (λ path. arrives_is document steps [] path ordered) (places document)
    ∙ own_places document top s ss ordered
