-- Canonical plain elements: the form of one, and what a change of local information keeps.
use Rattle.std.proofs.Common.{◌≡◌, ℕ, zero, suc, Bool, true, false, cond, List, [], ◌∷◌, map, Option, Some, None, refl, sym, ◌∙◌, ap, subst}
use Rattle.std.specs.Prelude.{option_and_then}
use Rattle.std.specs.List.{filter, AllByRecursion, slice_get}
use Rattle.std.proofs.lemmas.List.Elements.{All-from_recursion, recursion_from_All}
use Rattle.iris_tree.specs.declared.plain.Plain.{Plain}
use Rattle.iris_tree.specs.declared.plain.Plain.TheOpen.{Plain-F}
use Rattle.iris_tree.specs.declared.plain.Plain.TheViews.{out-Plain, roll-Plain, out-roll-Plain}
use Rattle.iris_tree.specs.declared.plain.Plain.TheFolds.{fold_out-Plain}
use Rattle.iris_tree.specs.Attrs.{Pairs}
use Rattle.iris_tree.specs.Changes.{with_plain, has_other_tag}
use Rattle.iris_tree.specs.Document.{Place, position, label, a_plain, below_plain}
use Rattle.iris_tree.specs.PlainOrder.{AreInTextOrder, IsCanonicalPlain, AreCanonical, IsCanonical, in_text_order, canonical_step, canonical_plain}
use Rattle.iris_tree.proofs.Changed.{IsKept}
use Rattle.iris_tree.proofs.TextOrder.{all_ordered, ordered_rises}

-- ---- the canonical form of an element

-- it is the element with kids in their order
pub canonical_parts : (p : Plain) (attrs : Pairs) (text : List ℕ) (kids : List Plain) → attrs ≡ (out-Plain p).attrs → text ≡ (out-Plain p).text → kids ≡ in_text_order (map canonical_plain (out-Plain p).kids)
    → roll-Plain (record { tag = (out-Plain p).tag; attrs = attrs; text = text; kids = kids }) ≡ canonical_plain p
canonical_parts p attrs text kids same_attrs same_text ordered =
    (λ i. roll-Plain (record { tag = (out-Plain p).tag; attrs = same_attrs i; text = same_text i; kids = ordered i })) ∙ sym (fold_out-Plain Plain canonical_step p)

-- its kids
pub kids_of_canonical : (p : Plain) → (out-Plain (canonical_plain p)).kids ≡ in_text_order (map canonical_plain (out-Plain p).kids)
kids_of_canonical p = ap (λ (q : Plain). (out-Plain q).kids) (fold_out-Plain Plain canonical_step p) ∙ ap (λ (x : Plain-F Plain). x.kids) (out-roll-Plain _)

abbrev IsForm : Plain → Type 0
IsForm q = (p : Plain) × (q ≡ canonical_plain p)

each_is_form : (ps : List Plain) → AllByRecursion IsForm (map canonical_plain ps)
each_is_form [] = tt
each_is_form (p ∷ ps) = ((p, refl), each_is_form ps)

of_found : (P : Plain → Type 0) (ps : List Plain) (i : ℕ) (p : Plain) → AllByRecursion P ps → slice_get ps i ≡ Some p → P p
of_found P [] i p each found = absurd (cc)
of_found P (q ∷ ps) zero p each found = let same : q ≡ p = cc in subst P same each.0
of_found P (q ∷ ps) (suc i) p each found = of_found P ps i p each.1 found

canonical_below : (place : Place) (p q : Plain) → below_plain (canonical_plain p) place ≡ Some (a_plain q) → AreInTextOrder (out-Plain q).kids
canonical_below [] p q there =
    let same : canonical_plain p ≡ q = cc in
    subst (λ (r : Plain). AreInTextOrder (out-Plain r).kids) same (subst (λ (ps : List Plain). AreInTextOrder ps) (sym (kids_of_canonical p)) (ordered_rises (map canonical_plain (out-Plain p).kids)))
canonical_below (label l ∷ place) p q there = absurd (cc)
canonical_below (position i ∷ place) p q there = by (slice_get (out-Plain (canonical_plain p)).kids i) refl there (λ r. canonical_below place r q)
  where
    kids_are : AllByRecursion IsForm (out-Plain (canonical_plain p)).kids
    kids_are = subst (λ (ps : List Plain). AllByRecursion IsForm ps) (sym (kids_of_canonical p)) (all_ordered IsForm _ (each_is_form (out-Plain p).kids))

    by : (o : Option Plain) → slice_get (out-Plain (canonical_plain p)).kids i ≡ o → option_and_then (λ kid. below_plain kid place) o ≡ Some (a_plain q)
        → ((r : Plain) → below_plain (canonical_plain r) place ≡ Some (a_plain q) → AreInTextOrder (out-Plain q).kids) → AreInTextOrder (out-Plain q).kids
    by None found at rest = absurd (cc)
    by (Some kid) found at rest =
        let form = of_found IsForm (out-Plain (canonical_plain p)).kids i kid kids_are found in
        rest form.0 (subst (λ (r : Plain). below_plain r place ≡ Some (a_plain q)) form.1 at)

-- it is canonical
pub is_canonical : (p : Plain) → IsCanonicalPlain (canonical_plain p)
is_canonical p place q there = canonical_below place p q there

-- ---- changes

-- what holds of each element holds of those that pass a test
pub all_filtered : (P : Plain → Type 0) (test : Plain → Bool) (ps : List Plain) → AllByRecursion P ps → AllByRecursion P (filter test ps)
all_filtered P test [] each = tt
all_filtered P test (p ∷ ps) each = by (test p) (all_filtered P test ps each.1)
  where
    by : (b : Bool) → AllByRecursion P (filter test ps) → AllByRecursion P (cond b (p ∷ filter test ps) (filter test ps))
    by false rest = rest
    by true rest = (each.0, rest)

put_canonical : (ps : List Plain) (p : Plain) → AreCanonical ps → AreCanonical (with_plain ps p)
put_canonical ps p are =
    let others = filter (has_other_tag (out-Plain p).tag) ps in
    let each : AllByRecursion IsCanonicalPlain (canonical_plain p ∷ others) = (is_canonical p, all_filtered IsCanonicalPlain (has_other_tag (out-Plain p).tag) ps (recursion_from_All IsCanonicalPlain ps are.1)) in
    (ordered_rises (canonical_plain p ∷ others), All-from_recursion IsCanonicalPlain (with_plain ps p) (all_ordered IsCanonicalPlain (canonical_plain p ∷ others) each))

-- changes keep local information canonical
pub canonical_kept : IsKept IsCanonical
canonical_kept = record { attr = λ l name value other are. are; drop = λ l name are. are; put = λ l p none are. put_canonical l.plain p are }
