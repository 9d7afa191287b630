-- An evaluation that is back where it was, and one that goes to what stands right below.
use Rattle.std.proofs.Common.{◌≡◌, ℕ, ◌+◌, ◌<◌, Bool, true, false, cond, ◌&&◌, ◌||◌, List, [], ◌∷◌, ◌++◌, map, drop, length, refl, ap, sym, ◌∙◌, subst, Option, Some, None, get_or, Bor, option_map, slice_get, MatchOption}
use Rattle.std.specs.List.{list_any}
use Rattle.std.proofs.lemmas.List.{map-append}
use Rattle.std.proofs.lemmas.Option.{slice_get-get_or}
use Rattle.iris_tree.specs.Universe.{Node, IsOrdered}
use Rattle.iris_tree.specs.Document.{Place, Part, whole, part_at_place}
use Rattle.iris_xpath.specs.declared.expression.Expression.{Expression}
use Rattle.iris_xpath.specs.Syntax.{condition_of}
use Rattle.iris_xpath.specs.Meaning.{holds, all_hold, any_holds}
use Rattle.iris_select.specs.declared.evaluator.Evaluator.{Evaluator}
use Rattle.iris_select.specs.declared.spot.Spot.{Spot}
use Rattle.iris_select.specs.declared.spot.Edge.{Edge}
use Rattle.iris_select.specs.declared.spot.Child.{Child as CodeChild}
use Rattle.iris_select.specs.Parts.{edge_of, part_of, child_of, children, child_part, InOrder}
use Rattle.iris_xpath.specs.Said.{all_conditions}
use Rattle.iris_select.specs.Evaluating.{document_of, place_in, Stands, IsBack}
use Rattle.iris_select.proofs.Children.{drop_one}
use Rattle.iris_select.proofs.Siblings.{part_snoc, child_found}

-- what is told by the document and the place is the same
pub back_same : {X : Type 0} (f : Node → Place → X) (old new : Evaluator) → IsBack old new → f (document_of new) (place_in new) ≡ f (document_of old) (place_in old)
back_same f old new back =
    ap (λ (r : Bor Node). f r.now (place_in new)) back.document ∙ ap (λ (trail : List Edge). f (document_of old) (map edge_of trail)) back.trail

-- so is what stands there
pub stands_still : (old new : Evaluator) (spot : Spot) → IsBack old new → Stands old spot → Stands new spot
stands_still old new spot back h = record {
  in_order = subst (λ (d : Node). IsOrdered d) (sym (ap (λ (r : Bor Node). r.now) back.document)) h.in_order;
  there = back_same (λ d p. part_at_place d p) old new back ∙ h.there;
}

-- where nothing was done it is back
pub back_here : (e : Evaluator) → IsBack e e
back_here e = record { document = refl; trail = refl }

-- back twice is back
pub back_again : (a b c : Evaluator) → IsBack a b → IsBack b c → IsBack a c
back_again a b c h k = record { document = k.document ∙ h.document; trail = k.trail ∙ h.trail }

-- ---- right below

-- the place at one edge more
pub place_below : (old new : Evaluator) (edge : Edge) → new.trail.items ≡ old.trail.items ++ edge ∷ [] → place_in new ≡ place_in old ++ edge_of edge ∷ []
place_below old new edge h = ap (map edge_of) h ∙ map-append edge_of old.trail.items (edge ∷ [])

-- what stands there
pub stands_below : (old new : Evaluator) (spot below : Spot) (edge : Edge) → new.top ≡ old.top → new.trail.items ≡ old.trail.items ++ edge ∷ [] → Stands old spot → child_part (document_of old) (part_of spot) (edge_of edge) ≡ Some (part_of below) → Stands new below
stands_below old new spot below edge same more h found = record {
  in_order = subst (λ (d : Node). IsOrdered d) (sym (ap (λ (r : Bor Node). r.now) same)) h.in_order;
  there =
      ap (λ (r : Bor Node). part_at_place r.now (place_in new)) same ∙ ap (part_at_place (document_of old)) (place_below old new edge more)
      ∙ part_snoc (document_of old) whole (part_of spot) (place_in old) (edge_of edge) h.there ∙ found;
}

-- ---- conditions, one after another

-- whether the one in hand holds, and those that are left
pub all_step : (document : Node) (place : Place) (es : List Expression) (i : ℕ) (e : Expression) → i < length es → e ≡ get_or es i e
    → all_hold document (all_conditions (drop i es)) place ≡ (holds document (condition_of e) place && all_hold document (all_conditions (drop (i + 1) es)) place)
all_step document place es i e within is =
    ap (λ (xs : List Expression). all_hold document (all_conditions xs) place) (drop_one es i e (slice_get-get_or es i e within ∙ ap (λ (x : Expression). Some x) (sym is)))

-- whether the one in hand holds, or one of those that are left
pub any_step : (document : Node) (place : Place) (es : List Expression) (i : ℕ) (e : Expression) → i < length es → e ≡ get_or es i e
    → any_holds document (all_conditions (drop i es)) place ≡ (holds document (condition_of e) place || any_holds document (all_conditions (drop (i + 1) es)) place)
any_step document place es i e within is =
    ap (λ (xs : List Expression). any_holds document (all_conditions xs) place) (drop_one es i e (slice_get-get_or es i e within ∙ ap (λ (x : Expression). Some x) (sym is)))

-- ---- at what stands right below

-- what is told there by the document and the place
pub below_same : {X : Type 0} (f : Node → Place → X) (old new : Evaluator) (edge : Edge) → new.top ≡ old.top → new.trail.items ≡ old.trail.items ++ edge ∷ [] → f (document_of new) (place_in new) ≡ f (document_of old) (place_in old ++ edge_of edge ∷ [])
below_same f old new edge same more = ap (λ (r : Bor Node). f r.now (place_in new)) same ∙ ap (f (document_of old)) (place_below old new edge more)

-- the child in hand stands there
pub child_stands : (old new : Evaluator) (spot : Spot) (child : CodeChild) (at : ℕ) → new.top ≡ old.top → new.trail.items ≡ old.trail.items ++ child.edge ∷ [] → Stands old spot → InOrder (document_of old) (part_of spot)
    → slice_get (children (document_of old) (part_of spot)) at ≡ Some (child_of child) → Stands new child.spot
child_stands old new spot child at same more h ordered there =
    stands_below old new spot child.spot child.edge same more h (child_found (document_of old) (part_of spot) at (child_of child) ordered there)

-- ---- and back

-- a list without its last element
abbrev front_of : List Edge → List Edge
front_of [] = []
front_of (x ∷ []) = []
front_of (x ∷ y ∷ xs) = x ∷ front_of (y ∷ xs)

front_is : (xs : List Edge) (e : Edge) → front_of (xs ++ e ∷ []) ≡ xs
front_is [] e = refl
front_is (x ∷ []) e = refl
front_is (x ∷ y ∷ xs) e = ap (λ ys. x ∷ ys) (front_is (y ∷ xs) e)

not_empty : (xs : List Edge) (e : Edge) → xs ++ e ∷ [] ≡ [] → ⊥
not_empty [] e h = cc
not_empty (x ∷ xs) e h = cc

-- what was entered is left again
pub left_again : (o : Option Edge) (before pushed after : List Edge) (edge : Edge) → pushed ≡ before ++ edge ∷ [] → MatchOption o ((pushed ≡ []) × (after ≡ [])) (λ last. pushed ≡ after ++ last ∷ []) → after ≡ before
left_again None before pushed after edge is h = absurd (not_empty before edge (sym is ∙ h.0))
left_again (Some last) before pushed after edge is h = sym (front_is after last) ∙ ap front_of (sym h ∙ is) ∙ front_is before edge
