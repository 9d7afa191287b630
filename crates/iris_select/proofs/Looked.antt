-- Looks of an evaluation, one after another.
use Rattle.std.proofs.Common.{◌≡◌, ℕ, ◌+◌, ◌≤◌, ◌<◌, Bool, true, false, ◌&&◌, ◌||◌, List, [], ◌∷◌, ◌++◌, map, drop, length, refl, ap, sym, ◌∙◌, subst, Option, Some, None, Bor, IsSome, get_or, slice_get}
use Rattle.std.specs.List.{list_any}
use Rattle.std.proofs.lemmas.Option.{slice_get-get_or}
use Rattle.iris_base.specs.declared.name.Label.{Label}
use Rattle.iris_tree.specs.Universe.{Node, IsOrdered, node_at}
use Rattle.iris_tree.specs.Document.{Edge, Place, Part, whole, part_at_place, places}
use Rattle.iris_xpath.specs.Meaning.{is_reached, passes, holds, all_hold}
use Rattle.iris_xpath.specs.Looks.{Looks, is_full_at, all_look, each_look, condition_looks, ends_look}
use Rattle.iris_xpath.specs.Syntax.{condition_of}
use Rattle.iris_xpath.specs.declared.expression.Expression.{Expression}
use Rattle.iris_xpath.specs.declared.expression.Part.{Part as PathPart}
use Rattle.iris_xpath.specs.declared.expression.Step.{Step}
use Rattle.iris_xpath.specs.declared.expression.Attribute.{Attribute}
use Rattle.iris_xpath.proofs.Passes.{any_alike, or_false, or_assoc, and_assoc}
use Rattle.iris_select.specs.declared.evaluator.Evaluator.{Evaluator}
use Rattle.iris_xpath.specs.Said.{all_conditions}
use Rattle.iris_select.specs.Evaluating.{document_of, place_in, IsBack}
use Rattle.iris_select.specs.Looking.{further_looks, looks_at, looks_on, looks_deeper}
use Rattle.iris_select.specs.Marks.{has_look, HasLooked}
use Rattle.iris_select.specs.Parts.{Child, children, part_below, places_in, InOrder}
use Rattle.iris_select.specs.Walking.{is_deep}
use Rattle.iris_select.specs.declared.spot.Edge.{Edge as CodeEdge}
use Rattle.iris_select.specs.Parts.{edge_of}
use Rattle.iris_select.proofs.Back.{back_same, below_same}
use Rattle.iris_select.proofs.Children.{drop_one}
use Rattle.iris_select.proofs.More.{nothing_left}
use Rattle.iris_select.proofs.Reach.{reaches, reached_any, reaches_children}
use Rattle.iris_select.proofs.Siblings.{any_same, each_found, part_snoc}

-- what it looked into is told by the document and the marks
pub looked_same : (old new : Evaluator) → new.top ≡ old.top → new.marks ≡ old.marks → (name : List Label) → has_look new name ≡ has_look old name
looked_same old new top marks name =
    ap (λ (r : Bor Node). has_look (record new { top = r }) name) top ∙ ap (λ m. has_look (record old { marks = m }) name) marks

-- no look
pub looked_none : (old new : Evaluator) (f : Looks → Bool) → new.top ≡ old.top → new.marks ≡ old.marks → ((looks : Looks) → f looks ≡ false) → HasLooked old new f
looked_none old new f top marks none = record { each = λ name h. looked_same old new top marks name ∙ sym (ap (λ b. has_look old name || b) (none (is_full_at name)) ∙ or_false (has_look old name)) }

-- the same looks, told in other words
pub looked_as : (old new : Evaluator) (f g : Looks → Bool) → ((looks : Looks) → f looks ≡ g looks) → HasLooked old new f → HasLooked old new g
looked_as old new f g same h = record { each = λ name there. h.each name there ∙ ap (λ b. has_look old name || b) (same (is_full_at name)) }

-- looks after others
pub looked_then : (a b c : Evaluator) (f g h : Looks → Bool) → b.top ≡ a.top → ((looks : Looks) → h looks ≡ (f looks || g looks)) → HasLooked a b f → HasLooked b c g → HasLooked a c h
looked_then a b c f g h top both first then = record {
  each = λ name there.
      then.each name (subst (λ (r : Bor Node). IsSome (node_at r.now name)) (sym top) there)
      ∙ ap (λ x. x || g (is_full_at name)) (first.each name there)
      ∙ or_assoc (has_look a name) (f (is_full_at name)) (g (is_full_at name))
      ∙ ap (λ x. has_look a name || x) (sym (both (is_full_at name)));
}

-- ---- in a loop

-- with the looks that are left, it makes all of them
pub record HasLeft (old new : Evaluator) (left all : Looks → Bool) : Type 0 where
  pub each : (name : List Label) → IsSome (node_at old.top.now name) → (has_look new name || left (is_full_at name)) ≡ (has_look old name || all (is_full_at name))

-- at first all are left
pub left_first : (e : Evaluator) (all : Looks → Bool) → HasLeft e e all all
left_first e all = record { each = λ name there. refl }

-- some were made
pub left_fewer : (a b c : Evaluator) (made left later all : Looks → Bool) → b.top ≡ a.top → ((looks : Looks) → left looks ≡ (made looks || later looks)) → HasLooked b c made → HasLeft a b left all → HasLeft a c later all
left_fewer a b c made left later all top split looked sofar = record {
  each = λ name there.
      ap (λ x. x || later (is_full_at name)) (looked.each name (subst (λ (r : Bor Node). IsSome (node_at r.now name)) (sym top) there))
      ∙ or_assoc (has_look b name) (made (is_full_at name)) (later (is_full_at name))
      ∙ ap (λ x. has_look b name || x) (sym (split (is_full_at name)))
      ∙ sofar.each name there;
}

-- at last none is left
pub left_none : (a b : Evaluator) (left all : Looks → Bool) → ((looks : Looks) → left looks ≡ false) → HasLeft a b left all → HasLooked a b all
left_none a b left all none sofar = record { each = λ name there. sym (ap (λ x. has_look b name || x) (none (is_full_at name)) ∙ or_false (has_look b name)) ∙ sofar.each name there }

-- ---- conditions

-- the looks of the one in hand, and where it holds of those that are left
pub all_looks_step : (document : Node) (looks : Looks) (place : Place) (es : List Expression) (i : ℕ) (e : Expression) → i < length es → e ≡ get_or es i e
    → all_look document looks (all_conditions (drop i es)) place ≡ (condition_looks document looks (condition_of e) place || (holds document (condition_of e) place && all_look document looks (all_conditions (drop (i + 1) es)) place))
all_looks_step document looks place es i e within is =
    ap (λ (xs : List Expression). all_look document looks (all_conditions xs) place) (drop_one es i e (slice_get-get_or es i e within ∙ ap (λ (x : Expression). Some x) (sym is)))

-- the looks of the one in hand, and of those that are left
pub each_looks_step : (document : Node) (looks : Looks) (place : Place) (es : List Expression) (i : ℕ) (e : Expression) → i < length es → e ≡ get_or es i e
    → each_look document looks (all_conditions (drop i es)) place ≡ (condition_looks document looks (condition_of e) place || each_look document looks (all_conditions (drop (i + 1) es)) place)
each_looks_step document looks place es i e within is =
    ap (λ (xs : List Expression). each_look document looks (all_conditions xs) place) (drop_one es i e (slice_get-get_or es i e within ∙ ap (λ (x : Expression). Some x) (sym is)))

-- ---- steps

-- where it looks from what stands right below
abbrev pub looks_below : Node → Looks → Step Expression → List (PathPart Expression) → Option Attribute → Place → Bool
looks_below document looks s ps a place = looks_at document looks s ps a place || looks_deeper document looks s ps a place

on_reached : (document : Node) (looks : Looks) (s : Step Expression) (ps : List (PathPart Expression)) (a : Option Attribute) (place : Place) (part : Part) → IsOrdered document → part_at_place document place ≡ Some part
    → looks_on document looks s ps a place ≡ reaches document s.separator (looks_at document looks s ps a) place part
on_reached document looks s ps a place part ordered there =
    any_alike _ _ (λ at. and_assoc (is_reached s.separator place at) (passes (part_at_place document at) s.test) (further_looks document looks s ps a at)) (places document)
    ∙ reached_any document s.separator (looks_at document looks s ps a) place part ordered there

-- a step looks from those right below
pub on_children : (document : Node) (looks : Looks) (s : Step Expression) (ps : List (PathPart Expression)) (a : Option Attribute) (place : Place) (part : Part) → IsOrdered document → InOrder document part → part_at_place document place ≡ Some part
    → looks_on document looks s ps a place ≡ list_any (λ c. looks_below document looks s ps a (place ++ c.edge ∷ [])) (children document part)
on_children document looks s ps a place part ordered siblings there =
    on_reached document looks s ps a place part ordered there
    ∙ reaches_children document s.separator (looks_at document looks s ps a) place part
    ∙ any_same _ _ _ (λ (c : Child) found. ap (λ b. looks_at document looks s ps a (place ++ c.edge ∷ []) || (is_deep s.separator && b))
    (sym (on_reached document looks s ps a (place ++ c.edge ∷ []) c.part ordered (part_snoc document whole part place c.edge there ∙ found)))) (children document part) (each_found document part siblings)

-- one of them, and then those that are left
pub one_looks : {A : Type 0} (given : A → Bool) (xs : List A) (k : ℕ) (x : A) → slice_get xs k ≡ Some x → list_any given (drop k xs) ≡ (given x || list_any given (drop (k + 1) xs))
one_looks given xs k x is = ap (list_any given) (drop_one xs k x is)

-- after the last none is left
pub none_looks : {A : Type 0} (given : A → Bool) (xs : List A) (k : ℕ) → length xs ≤ k → list_any given (drop k xs) ≡ false
none_looks given xs k past = ap (list_any given) (nothing_left xs k past)

-- ---- there and back

-- where it goes and comes back is no look
pub looked_around : (e l m v : Evaluator) (f g : Looks → Bool) → l.top ≡ e.top → l.marks ≡ e.marks → v.top ≡ m.top → v.marks ≡ m.marks → ((looks : Looks) → f looks ≡ g looks) → HasLooked l m f → HasLooked e v g
looked_around e l m v f g top marks top_back marks_back same h = record {
  each = λ name there.
      looked_same m v top_back marks_back name
      ∙ h.each name (subst (λ (r : Bor Node). IsSome (node_at r.now name)) (sym top) there)
      ∙ ap (λ b. b || f (is_full_at name)) (looked_same e l top marks name)
      ∙ ap (λ b. has_look e name || b) (same (is_full_at name));
}

-- at what stands right below, and further down from there
pub child_looked : (e l n r g v : Evaluator) (edge : CodeEdge) (s : Step Expression) (ps : List (PathPart Expression)) (a : Option Attribute) → n.top ≡ e.top → n.trail.items ≡ e.trail.items ++ edge ∷ []
    → n.top ≡ l.top → n.marks ≡ l.marks → IsBack n r → HasLooked n r (λ looks. looks_at (document_of n) looks s ps a (place_in n)) → HasLooked r g (λ looks. looks_deeper (document_of r) looks s ps a (place_in r)) → v.top ≡ g.top → v.marks ≡ g.marks
    → HasLooked l v (λ looks. looks_below (document_of e) looks s ps a (place_in e ++ edge_of edge ∷ []))
child_looked e l n r g v edge s ps a top trail own marks back first then top_back marks_back =
    let document = document_of e in
    let place = place_in e ++ edge_of edge ∷ [] in
    let both : HasLooked n g (λ looks. looks_below document looks s ps a place) =
    looked_then n r g (λ looks. looks_at document looks s ps a place) (λ looks. looks_deeper document looks s ps a place) (λ looks. looks_below document looks s ps a place) back.document (λ looks. refl)
    (looked_as n r _ _ (λ looks. below_same (λ d p. looks_at d looks s ps a p) e n edge top trail) first)
    (looked_as r g _ _ (λ looks. back_same (λ d p. looks_deeper d looks s ps a p) n r back ∙ below_same (λ d p. looks_deeper d looks s ps a p) e n edge top trail) then) in
    looked_around l n g v _ _ own marks top_back marks_back (λ looks. refl) both
