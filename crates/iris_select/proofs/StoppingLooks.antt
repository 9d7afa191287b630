-- Where no step may be taken nothing is looked at, and a step with an id looks at one child alone.
use Rattle.std.proofs.Common.{◌≡◌, ℕ, Bool, true, false, ◌&&◌, ◌||◌, List, [], ◌∷◌, ◌++◌, map, refl, ap, sym, ◌∙◌, Option, Some, None, codes}
use Rattle.std.specs.List.{list_any}
use Rattle.std.specs.Str.{bytes_eq}
use Rattle.iris_base.specs.declared.name.Label.{Label}
use Rattle.iris_tree.specs.Universe.{Node, label_of}
use Rattle.iris_tree.specs.Document.{Edge, label, Place, Part, whole, a_node, a_plain, part_at_place}
use Rattle.iris_xpath.specs.declared.expression.Expression.{Expression}
use Rattle.iris_xpath.specs.declared.expression.Step.{Step}
use Rattle.iris_xpath.specs.declared.expression.NameTest.{NameTest}
use Rattle.iris_xpath.specs.declared.expression.NameTest.TheVariants.{Kind}
use Rattle.iris_xpath.specs.declared.expression.Separator.TheVariants.{Slash}
use Rattle.iris_xpath.specs.Places.{edge_eq}
use Rattle.iris_xpath.specs.Meaning.{passes, holds, fits}
use Rattle.iris_xpath.specs.Looks.{Looks, attribute_looks, condition_looks, all_look}
use Rattle.iris_xpath.specs.Syntax.{Condition, conditions_of, condition_of, MainStep, main_of}
use Rattle.iris_xpath.specs.Thin.{Equals}
use Rattle.iris_xpath.specs.ThinQuery.{equality, equality_of, kind_of}
use Rattle.iris_xpath.proofs.ThinQuery.{expression_is, condition_is}
use Rattle.iris_xpath.proofs.Passes.{any_alike, any_fails, or_false, and_never}
use Rattle.iris_select.specs.Looking.{path_looks_at, walk_looks, looks_found_at, looks_found_below, IsOnlyLook, AreOnlyLooks, looks_found_by}
use Rattle.iris_select.specs.Parts.{Child, child, children, child_part, places_in, InOrder}
use Rattle.iris_select.specs.Walking.{further, taken, Stops, IsOnlyLabel, IsOnlyChild}
use Rattle.iris_select.proofs.Parts.{one_child}
use Rattle.iris_select.proofs.Siblings.{any_same, each_found}
use Rattle.iris_select.proofs.Stopping.{nothing, none_taken, label_apart, of_kind, ends_label, id_says}
use Rattle.iris_select.proofs.Walking.{edge_exact}

-- ---- nothing may be taken

none_at : (document : Node) (looks : Looks) (place : Place) (ss : List MainStep) (bs : List Bool) → taken ss bs ≡ [] → path_looks_at document looks place false ss bs ≡ false
none_at document looks place [] bs h = refl
none_at document looks place (s ∷ ss) [] h = refl
none_at document looks place (s ∷ ss) (true ∷ bs) h = absurd (cc)
none_at document looks place (s ∷ ss) (false ∷ bs) h = none_at document looks place ss bs h

looks_nowhere : (document : Node) (looks : Looks) (ss : List MainStep) (bs : List Bool) (above path : Place) → taken ss bs ≡ [] → walk_looks document looks ss bs false above path ≡ false
looks_nowhere document looks ss bs above [] h = refl
looks_nowhere document looks ss bs above (e ∷ path) h =
    let at = above ++ e ∷ [] in
    let k = nothing document at ss bs h in
    ap (λ b. walk_looks document looks ss (further document at false ss bs) b at path) (none_at document looks at ss bs h) ∙ looks_nowhere document looks ss (further document at false ss bs) at path k.no_further

-- where the steps stop nothing is looked at
looks_nothing : (document : Node) (looks : Looks) (ss : List MainStep) (bs : List Bool) (above : Place) (c : Child) → Stops document ss bs (above ++ c.edge ∷ []) → path_looks_at document looks (above ++ c.edge ∷ []) false ss bs ≡ false
    → looks_found_at document looks ss bs above c ≡ false
looks_nothing document looks ss bs above c stops none =
    let at = above ++ c.edge ∷ [] in
    let more = further document at false ss bs in
    ap (λ b. list_any (walk_looks document looks ss more b at) (places_in document c.part)) none
    ∙ any_fails _ (λ path. looks_nowhere document looks ss more at path stops.no_further) (places_in document c.part)

-- no step may be taken
pub looks_none : (document : Node) (looks : Looks) (ss : List MainStep) (bs : List Bool) (above : Place) (part : Part) → list_any (λ b. b) bs ≡ false → looks_found_below document looks ss bs above part ≡ false
looks_none document looks ss bs above part h =
    let none : taken ss bs ≡ [] = none_taken ss bs h in
    any_fails _ (λ (c : Child). looks_nothing document looks ss bs above c (nothing document (above ++ c.edge ∷ []) ss bs none) (none_at document looks (above ++ c.edge ∷ []) ss bs none)) (children document part)

-- ---- one step may be taken

-- it does not fit, and makes no look
one_look : (document : Node) (looks : Looks) (place : Place) (s : MainStep) (ss : List MainStep) (bs : List Bool) → taken ss bs ≡ s ∷ [] → fits document s place ≡ false → (passes (part_at_place document place) s.test && all_look document looks s.conditions place) ≡ false
    → path_looks_at document looks place false ss bs ≡ false
one_look document looks place s [] bs h misses none = absurd (cc)
one_look document looks place s (t ∷ ss) [] h misses none = absurd (cc)
one_look document looks place s (t ∷ ss) (true ∷ bs) h misses none =
    let same : t ≡ s = cc in
    let rest : taken ss bs ≡ [] = cc in
    ap (λ b. b || path_looks_at document looks place (fits document t place) ss bs) (ap (λ (x : MainStep). passes (part_at_place document place) x.test && all_look document looks x.conditions place) same ∙ none)
    ∙ ap (λ b. path_looks_at document looks place b ss bs) (ap (λ (x : MainStep). fits document x place) same ∙ misses)
    ∙ none_at document looks place ss bs rest
one_look document looks place s (t ∷ ss) (false ∷ bs) h misses none = one_look document looks place s ss bs h misses none

-- so the steps look at one child alone
pub only_looks : (s : MainStep) (ss : List MainStep) (bs : List Bool) (l : Label) → taken ss bs ≡ s ∷ [] → IsOnlyLabel s l → IsOnlyLook s l → AreOnlyLooks ss bs l
only_looks s ss bs l one misses none document looks above e differs = one_look document looks (above ++ e ∷ []) s ss bs one (misses document above e differs) (none document looks above e differs)

-- ---- one child alone

elsewhere : (e : Edge) (c : Child) (g : Child → Bool) → (edge_eq e c.edge ≡ false → g c ≡ false) → g c ≡ (edge_eq e c.edge && g c)
elsewhere e c g h = decided (edge_eq e c.edge) refl
  where
    decided : (b : Bool) → edge_eq e c.edge ≡ b → g c ≡ (b && g c)
    decided true same = refl
    decided false differs = h differs

absent : (document : Node) (part : Part) (e : Edge) (c : Child) (g : Child → Bool) → child_part document part e ≡ None → child_part document part c.edge ≡ Some c.part → (edge_eq e c.edge && g c) ≡ false
absent document part e c g none found = decided (edge_eq e c.edge) refl
  where
    decided : (b : Bool) → edge_eq e c.edge ≡ b → (b && g c) ≡ false
    decided true same = let it : child_part document part e ≡ child_part document part c.edge = ap (child_part document part) (edge_exact e c.edge same) in absurd (cc)
    decided false differs = refl

-- by steps that look at one child alone
pub looks_only : (document : Node) (looks : Looks) (ss : List MainStep) (bs : List Bool) (above : Place) (part : Part) (l : Label) → InOrder document part → IsOnlyChild ss bs l → AreOnlyLooks ss bs l
    → looks_found_below document looks ss bs above part ≡ looks_found_by document looks ss bs above l (child_part document part (label l))
looks_only document looks ss bs above part l ordered only alone =
    any_alike g (λ c. edge_eq (label l) c.edge && g c) (λ (c : Child). elsewhere (label l) c g (λ differs. looks_nothing document looks ss bs above c (only document above c.edge differs) (alone document looks above c.edge differs))) (children document part)
    ∙ by_part (child_part document part (label l)) refl
  where
    g : Child → Bool
    g = looks_found_at document looks ss bs above

    by_part : (o : Option Part) → child_part document part (label l) ≡ o → list_any (λ c. edge_eq (label l) c.edge && g c) (children document part) ≡ looks_found_by document looks ss bs above l o
    by_part None none = any_same _ _ (λ c. false) (λ (c : Child) found. absent document part (label l) c g none found) (children document part) (each_found document part ordered) ∙ any_fails _ (λ c. refl) (children document part)
    by_part (Some y) there = one_child document part y (label l) g ordered there

-- ---- a step with an id

id_looks : (document : Node) (looks : Looks) (x : Expression) (name value : List ℕ) (place : Place) → equality_of x ≡ Some (record { name = name; value = value }) → bytes_eq name (codes "id") ≡ true → condition_looks document looks (condition_of x) place ≡ false
id_looks document looks x name value place says is =
    let e : Equals = record { name = name; value = value } in
    ap (λ (y : Expression). condition_looks document looks (condition_of y) place) (expression_is x e says)
    ∙ ap (λ (c : Condition). condition_looks document looks c place) (condition_is e)
    ∙ ap (λ b. attribute_looks document looks Slash b place || false) is

-- the first predicate of a step is `@id='..'`, and its test a kind
pub only_look : (s : Step Expression) (kind name value : List ℕ) (x : Expression) (xs : List Expression) (l : Label) → kind_of s.test ≡ Some kind → s.predicates ≡ x ∷ xs → equality_of x ≡ Some (record { name = name; value = value })
    → bytes_eq name (codes "id") ≡ true → l.kind ≡ kind → l.id ≡ value → IsOnlyLook (main_of s) l
only_look s kind name value x xs l test first says is k v document looks above e differs =
    ap (λ (t : NameTest). passes (part_at_place document at) t && all_look document looks (conditions_of (map condition_of s.predicates)) at) (of_kind s.test kind test)
    ∙ ap (λ (ys : List Expression). passes (part_at_place document at) (Kind kind) && all_look document looks (conditions_of (map condition_of ys)) at) first
    ∙ ap (λ b. passes (part_at_place document at) (Kind kind) && (b || (holds document (condition_of x) at && rest))) (id_looks document looks x name value at says is)
    ∙ by_part (part_at_place document at) refl
  where
    at : Place
    at = above ++ e ∷ []

    rest : Bool
    rest = all_look document looks (conditions_of (map condition_of xs)) at

    by_part : (o : Option Part) → part_at_place document at ≡ o → (passes o (Kind kind) && (holds document (condition_of x) at && rest)) ≡ false
    by_part None there = refl
    by_part (Some whole) there = refl
    by_part (Some (a_plain p)) there = refl
    by_part (Some (a_node n)) there =
        ap (λ b. bytes_eq (label_of n).kind kind && (b && rest)) (id_says document x name value at n says is there)
        ∙ label_apart l n kind value k v (ap (λ (f : Edge). edge_eq (label l) f) (sym (ends_label document whole above e n there)) ∙ differs) rest
