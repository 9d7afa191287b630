-- What the ends of paths are, by what stands at a place.
use Rattle.std.proofs.Common.{◌≡◌, ℕ, Bool, true, false, cond, not, length, ◌==◌, ◌&&◌, ◌||◌, List, [], ◌∷◌, ◌++◌, map, append-nil, refl, ap, sym, ◌∙◌, Option, Some, None, option_and_then}
use Rattle.std.proofs.Math.Dec.{eqb-suc-zero}
use Rattle.std.specs.List.{list_any, flat_map, filter_map}
use Rattle.iris_tree.specs.Universe.{Node, IsOrdered}
use Rattle.iris_tree.specs.Document.{Edge, Place, Part, whole, part_at_place, places}
use Rattle.iris_xpath.specs.Places.{is_above, attribute_of}
use Rattle.iris_xpath.specs.declared.expression.Part.{Part as PathPart}
use Rattle.iris_xpath.specs.declared.expression.Expression.{Expression}
use Rattle.iris_xpath.specs.declared.expression.Step.{Step}
use Rattle.iris_xpath.specs.declared.expression.Attribute.{Attribute}
use Rattle.iris_xpath.specs.Same.{some_passes, HaveSame}
use Rattle.iris_xpath.specs.Meaning.{passes, attribute_at, from_here, parents_of, front, all_hold, ends, has_some, Value, of_text}
use Rattle.iris_xpath.specs.Looks.{Looks, ends_look}
use Rattle.iris_xpath.specs.Syntax.{Conditions, Steps, attribute, parent, step}
use Rattle.iris_xpath.specs.declared.expression.NameTest.{NameTest}
use Rattle.iris_xpath.specs.declared.expression.Separator.{Separator}
use Rattle.iris_xpath.specs.declared.expression.Separator.TheVariants.{Slash, DoubleSlash}
use Rattle.iris_xpath.proofs.Below.{always, above_begins, first_found}
use Rattle.iris_xpath.proofs.Passes.{any_alike, any_map, any_filter, any_filter_map, or_false, or_assoc, some_is_any}
use Rattle.iris_select.specs.Parts.{Child, children, child_part, part_below, places_in, InOrder}
use Rattle.iris_xpath.specs.Said.{all_conditions, steps_from, step_on}
use Rattle.iris_select.specs.Evaluating.{attributes_in, ends_of, ends_with, ends_at, ends_beyond, ends_deeper}
use Rattle.std.proofs.Common.{Bor}
use Rattle.std.proofs.lemmas.List.{map-append}
use Rattle.iris_xpath.specs.declared.value.Value.{Value as CodeValue}
use Rattle.iris_xpath.specs.declared.value.Value.TheVariants as values
use Rattle.iris_xpath.specs.Values.{value_of}
use Rattle.iris_select.specs.Walking.{is_deep}
use Rattle.iris_select.proofs.Parts.{at_below, part_here, part_step}
use Rattle.iris_select.proofs.Reach.{reaches_children, wanted_at, ends_step, found_at}
use Rattle.iris_select.proofs.Siblings.{ends_with_any, attributes_any, any_same, each_found, part_snoc}

-- ---- attributes

-- what stands below a place stands below what stands there
pub part_append : (document : Node) (part y : Part) (path q : Place) → part_below document part path ≡ Some y → part_below document part (path ++ q) ≡ part_below document y q
part_append document part y [] q h =
    let it : part ≡ y = let here : part_below document part [] ≡ Some part = part_here document part in cc in
    ap (λ (x : Part). part_below document x q) it
part_append document part y (f ∷ path) q h =
    let c = first_found (λ at. part_below document at path) (child_part document part f) y (sym (part_step document part f path) ∙ h) in
    part_step document part f (path ++ q)
    ∙ ap (λ (o : Option Part). option_and_then (λ at. part_below document at (path ++ q)) o) c.1
    ∙ part_append document c.0 y path q c.2

-- whether an attribute at a place passes
abbrev passing_at : Node → List ℕ → (Option (List ℕ) → Bool) → Place → Bool
passing_at document name t at = some_passes (λ v. t (Some v)) (attribute_at name (part_at_place document at))

taken_any : (document : Node) (s : Separator) (name : List ℕ) (t : Option (List ℕ) → Bool) (place : Place) → list_any t (ends document (attribute s name) place) ≡ list_any (passing_at document name t) (from_here document s place)
taken_any document s name t place =
    any_map t (λ value. Some value) (filter_map (λ at. attribute_at name (part_at_place document at)) (from_here document s place))
    ∙ any_filter_map (λ v. t (Some v)) (λ at. attribute_at name (part_at_place document at)) (from_here document s place)

-- the attribute of the place itself
pub own_attribute : (document : Node) (name : List ℕ) (place : Place) (part : Part) → part_at_place document place ≡ Some part → (t : Option (List ℕ) → Bool)
    → list_any t (ends_with (attribute_of part name)) ≡ list_any t (ends document (attribute Slash name) place)
own_attribute document name place part there t =
    ends_with_any t (attribute_of part name)
    ∙ ap (λ (o : Option Part). some_passes (λ v. t (Some v)) (attribute_at name o)) (sym there)
    ∙ sym (taken_any document Slash name t place ∙ or_false (passing_at document name t place))

-- the attributes of it and of all below it
pub all_attributes : (document : Node) (name : List ℕ) (place : Place) (part : Part) → IsOrdered document → part_at_place document place ≡ Some part → (t : Option (List ℕ) → Bool)
    → list_any t (attributes_in document part name) ≡ list_any t (ends document (attribute DoubleSlash name) place)
all_attributes document name place part ordered there t =
    attributes_any document part name t
    ∙ any_alike _ _ (λ q. ap (λ (o : Option Part). some_passes (λ v. t (Some v)) (attribute_at name o)) (sym (part_append document whole part place q there))) (places_in document part)
    ∙ sym (taken_any document DoubleSlash name t place
    ∙ any_filter (passing_at document name t) (is_above place) (places document)
    ∙ any_alike _ _ (λ q. ap (λ b. b && passing_at document name t q) (above_begins place q)) (places document)
    ∙ at_below document always (passing_at document name t) whole place part ordered there)

-- ---- the place right above

fronts : (place : Place) (e f : Edge) → front f (place ++ e ∷ []) ≡ f ∷ place
fronts [] e f = refl
fronts (g ∷ place) e f = ap (λ p. f ∷ p) (fronts place e g)

-- a place has one parent
pub one_parent : (place : Place) (e : Edge) → parents_of (place ++ e ∷ []) ≡ place ∷ []
one_parent [] e = refl
one_parent (f ∷ place) e = ap (λ p. p ∷ []) (fronts place e f)

-- where something stands, something stands right above
pub stands_above : (document : Node) (part y : Part) (path : Place) (e : Edge) → part_below document part (path ++ e ∷ []) ≡ Some y → part_below document part path ≡ None → ⊥
stands_above document part y [] e h none = let here : part_below document part [] ≡ Some part = part_here document part in cc
stands_above document part y (f ∷ path) e h none =
    let c = first_found (λ at. part_below document at (path ++ e ∷ [])) (child_part document part f) y (sym (part_step document part f (path ++ e ∷ [])) ∙ h) in
    stands_above document c.0 y path e c.2 (sym (ap (λ (o : Option Part). option_and_then (λ at. part_below document at path) o) c.1) ∙ sym (part_step document part f path) ∙ none)

-- so a path goes on there
pub parent_ends : (document : Node) (steps : Steps) (place : Place) (e : Edge) (t : Option (List ℕ) → Bool) → list_any t (ends document (parent steps) (place ++ e ∷ [])) ≡ list_any t (ends document steps place)
parent_ends document steps place e t = ap (λ ps. list_any t (flat_map (ends document steps) ps)) (one_parent place e) ∙ ap (list_any t) (append-nil (ends document steps place))

-- and looks there
pub parent_looks : (document : Node) (looks : Looks) (steps : Steps) (place : Place) (e : Edge) → ends_look document looks (parent steps) (place ++ e ∷ []) ≡ ends_look document looks steps place
parent_looks document looks steps place e = ap (list_any (ends_look document looks steps)) (one_parent place e) ∙ or_false (ends_look document looks steps place)

-- ---- a step

-- what it finds is found at those right below
pub step_children : (document : Node) (s : Separator) (test : NameTest) (cs : Conditions) (steps : Steps) (place : Place) (part : Part) → IsOrdered document → InOrder document part → part_at_place document place ≡ Some part → (t : Option (List ℕ) → Bool)
    → list_any t (ends document (step s test cs steps) place) ≡ list_any (λ c. found_at document s test cs steps t (place ++ c.edge ∷ [])) (children document part)
step_children document s test cs steps place part ordered siblings there t =
    ends_step document s test cs steps t place part ordered there
    ∙ reaches_children document s (wanted_at document test cs steps t) place part
    ∙ any_same _ _ _ (λ (c : Child) found. ap (λ b. wanted_at document test cs steps t (place ++ c.edge ∷ []) || (is_deep s && b))
    (sym (ends_step document s test cs steps t (place ++ c.edge ∷ []) c.part ordered (part_snoc document whole part place c.edge there ∙ found)))) (children document part) (each_found document part siblings)

-- ---- what one child gives

kept_any : {A : Type 0} (t : A → Bool) (b : Bool) (xs : List A) → list_any t (cond b xs []) ≡ (b && list_any t xs)
kept_any t true xs = refl
kept_any t false xs = refl

-- what is found where a step may arrive
pub at_any : (document : Node) (s : Step Expression) (ps : List (PathPart Expression)) (a : Option Attribute) (place : Place) (t : Option (List ℕ) → Bool)
    → list_any t (ends_at document s ps a place) ≡ wanted_at document s.test (all_conditions s.predicates) (steps_from ps a) t place
at_any document s ps a place t = kept_any t (passes (part_at_place document place) s.test && all_hold document (all_conditions s.predicates) place) (ends document (steps_from ps a) place)

beyond_any : (document : Node) (s : Separator) (steps : Steps) (place : Place) (t : Option (List ℕ) → Bool) → list_any t (ends_beyond document s steps place) ≡ (is_deep s && list_any t (ends document steps place))
beyond_any document Slash steps place t = refl
beyond_any document DoubleSlash steps place t = refl

-- with what is found further down
pub child_gives : (document : Node) (s : Step Expression) (ps : List (PathPart Expression)) (a : Option Attribute) (place : Place) (t : Option (List ℕ) → Bool) (new mid old : Bool)
    → mid ≡ (old || list_any t (ends_at document s ps a place)) → new ≡ (mid || list_any t (ends_deeper document s ps a place))
    → new ≡ (old || found_at document s.separator s.test (all_conditions s.predicates) (steps_from ps a) t place)
child_gives document s ps a place t new mid old h k =
    k ∙ ap (λ b. b || list_any t (ends_deeper document s ps a place)) h
    ∙ or_assoc old (list_any t (ends_at document s ps a place)) (list_any t (ends_deeper document s ps a place))
    ∙ ap (λ b. old || (b || list_any t (ends_deeper document s ps a place))) (at_any document s ps a place t)
    ∙ ap (λ b. old || (wanted_at document s.test (all_conditions s.predicates) (steps_from ps a) t place || b)) (beyond_any document s.separator (step_on s ps a) place t)

-- ---- values

-- the texts of the same ends are the same
pub texts_same : (xs ys : List (Option (List ℕ))) → HaveSame xs ys → HaveSame (map of_text (filter_map (λ end. end) xs)) (map of_text (filter_map (λ end. end) ys))
texts_same xs ys same t = texts_any xs ∙ same (λ o. some_passes (λ v. t (of_text v)) o) ∙ sym (texts_any ys)
  where
    texts_any : (zs : List (Option (List ℕ))) → list_any t (map of_text (filter_map (λ end. end) zs)) ≡ list_any (λ o. some_passes (λ v. t (of_text v)) o) zs
    texts_any zs = any_map t of_text (filter_map (λ end. end) zs) ∙ any_filter_map (λ v. t (of_text v)) (λ end. end) zs

-- what is the same compares the same
pub compared_same : (f : Value → Value → Bool) (us vs xs ys : List Value) → HaveSame us xs → HaveSame vs ys → list_any (λ u. list_any (f u) vs) us ≡ list_any (λ u. list_any (f u) ys) xs
compared_same f us vs xs ys h k = any_alike _ _ (λ u. k (f u)) us ∙ h (λ u. list_any (f u) ys)

-- whether there is something
pub some_same : {A : Type 0} (xs ys : List A) → HaveSame xs ys → has_some xs ≡ has_some ys
some_same xs ys same = some_is_any xs ∙ same (λ x. true) ∙ sym (some_is_any ys)

-- a list of no elements has nothing
pub some_by_length : {A B : Type 0} (f : A → B) (xs : List A) → not (length xs == 0) ≡ has_some (map f xs)
some_by_length f [] = refl
some_by_length f (x ∷ xs) = ap not (eqb-suc-zero (length xs))

-- ---- texts, one end after another

-- the texts of ends
abbrev pub texts_of : List (Option (Bor (List ℕ))) → List Value
texts_of found = map of_text (filter_map (λ end. end) (ends_of found))

texts_append : (xs ys : List (Option (Bor (List ℕ)))) → texts_of (xs ++ ys) ≡ texts_of xs ++ texts_of ys
texts_append [] ys = refl
texts_append (None ∷ xs) ys = texts_append xs ys
texts_append (Some t ∷ xs) ys = ap (λ vs. of_text t.now ∷ vs) (texts_append xs ys)

-- an end with a text
pub one_text : (vs new : List CodeValue) (xs : List (Option (Bor (List ℕ)))) (o : Option (Bor (List ℕ))) (t : Bor (List ℕ)) → map value_of vs ≡ texts_of xs → o ≡ Some t → new ≡ vs ++ values.Text t ∷ [] → map value_of new ≡ texts_of (xs ++ o ∷ [])
one_text vs new xs o t sofar is h =
    ap (map value_of) h ∙ map-append value_of vs (values.Text t ∷ []) ∙ ap (λ us. us ++ of_text t.now ∷ []) sofar
    ∙ sym (ap (λ (p : Option (Bor (List ℕ))). texts_of (xs ++ p ∷ [])) is ∙ texts_append xs (Some t ∷ []))

-- an end without one
pub no_text : (vs : List CodeValue) (xs : List (Option (Bor (List ℕ)))) (o : Option (Bor (List ℕ))) → map value_of vs ≡ texts_of xs → o ≡ None → map value_of vs ≡ texts_of (xs ++ o ∷ [])
no_text vs xs o sofar is = sofar ∙ sym (ap (λ (p : Option (Bor (List ℕ))). texts_of (xs ++ p ∷ [])) is ∙ texts_append xs (None ∷ []) ∙ append-nil (texts_of xs))
