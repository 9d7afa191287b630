-- Names: their order, and how they are cut into the name above and the last label.
use Rattle.std.proofs.Common.{◌≡◌, true, false, List, [], ◌∷◌, ◌++◌, Option, Some, None, refl, sym, ap, ◌∙◌}
use Rattle.std.specs.declared.cmp.Ordering.{Ordering}
use Rattle.std.specs.declared.cmp.Ordering.TheVariants.{Less, Equal, Greater}
use Rattle.std.specs.Ordering.{ordering_then, ordering_reverse, is_eq, is_gt}
use Rattle.std.specs.FinMap.{IsAntisymmetric, slice_cmp-IsAntisymmetric}
use Rattle.std.specs.Cmp.Lexicographic.{slice_cmp, pointwise}
use Rattle.iris_base.specs.declared.name.Label.{Label}
use Rattle.iris_base.specs.NameOrder.{label_eq, label_cmp, labels_equiv, labels_total, labels_ties, names_equiv, names_ties}
use Rattle.iris_base.specs.Under.{Under}
use Rattle.iris_base.proofs.Labels.{label_eq-Decides}
use Rattle.iris_fragment.specs.Contents.{one_above, cut}

-- ---- the order of names

-- labels that compare as equal are equal
pub label_exact : IsAntisymmetric label_cmp
label_exact x y e = (label_eq-Decides x y).0 (labels_ties x y ∙ ap is_eq e)

-- names that compare as equal are equal
pub name_exact : (m n : List Label) → slice_cmp label_cmp m n ≡ Equal → m ≡ n
name_exact = slice_cmp-IsAntisymmetric label_exact

-- a name is like itself
pub alike_self : (n : List Label) → pointwise label_eq n n ≡ true
alike_self = names_equiv.refl

-- an ordering that says equal is that
pub equal_from_is_eq : (o : Ordering) → is_eq o ≡ true → o ≡ Equal
equal_from_is_eq Less h = absurd (cc)
equal_from_is_eq Equal h = refl
equal_from_is_eq Greater h = absurd (cc)

-- a name compares as equal to itself
pub name_self : (n : List Label) → slice_cmp label_cmp n n ≡ Equal
name_self n = equal_from_is_eq _ (sym (names_ties n n) ∙ alike_self n)

-- so does a label
pub label_self : (l : Label) → label_cmp l l ≡ Equal
label_self l = equal_from_is_eq _ (sym (labels_ties l l) ∙ labels_equiv.refl l)

-- names that are alike are equal
pub alike_exact : (m n : List Label) → pointwise label_eq m n ≡ true → m ≡ n
alike_exact m n h = name_exact m n (equal_from_is_eq _ (sym (names_ties m n) ∙ h))

-- a name stands before those below it
pub less_below : (n : List Label) (x : Label) (xs : List Label) → slice_cmp label_cmp n (n ++ x ∷ xs) ≡ Less
less_below [] x xs = refl
less_below (l ∷ ls) x xs = rw (label_self l) (less_below ls x xs)

next_label : (l y : Label) (ls ys xs : List Label) (o : Ordering) → label_cmp l y ≡ o
    → (slice_cmp label_cmp ls ys ≡ Less → is_gt (slice_cmp label_cmp ys (ls ++ xs)) ≡ false → Under ys ls)
    → ordering_then o (slice_cmp label_cmp ls ys) ≡ Less → is_gt (ordering_then (label_cmp y l) (slice_cmp label_cmp ys (ls ++ xs))) ≡ false → Under (y ∷ ys) (l ∷ ls)
next_label l y ls ys xs Less e more after before =
    let greater : label_cmp y l ≡ Greater = labels_total.antisymm y l ∙ ap ordering_reverse e in
    let bad : true ≡ false = rw greater at before in
    absurd (cc)
next_label l y ls ys xs Equal e more after before =
    let same = label_exact l y e in
    let back : label_cmp y l ≡ Equal = labels_total.antisymm y l ∙ ap ordering_reverse e in
    let below = more after (rw back at before) in
    (below.0, λ i. (sym same i) ∷ (below.1 i))
next_label l y ls ys xs Greater e more after before = absurd (cc)

-- what stands after a name and not after one below it is below it
pub under_between : (n next xs : List Label) → slice_cmp label_cmp n next ≡ Less → is_gt (slice_cmp label_cmp next (n ++ xs)) ≡ false → Under next n
under_between [] next xs after before = (next, refl)
under_between (l ∷ ls) [] xs after before = absurd (cc)
under_between (l ∷ ls) (y ∷ ys) xs after before = next_label l y ls ys xs (label_cmp l y) refl (under_between ls ys xs) after before

-- ---- cutting a name

one_above_some : (l : Label) (front : List Label) (x : Label) (o : Option (List Label × Label)) → o ≡ Some (front, x) → one_above l o ≡ Some (l ∷ front, x)
one_above_some l front x o h = rw h refl

-- a name with a last label is cut before it
pub cut_last : (front : List Label) (x : Label) → cut (front ++ x ∷ []) ≡ Some (front, x)
cut_last [] x = refl
cut_last (l ∷ ls) x = one_above_some l ls x _ (cut_last ls x)

joined_one : (l : Label) (ls : List Label) (o : Option (List Label × Label)) (p : List Label × Label) → one_above l o ≡ Some p
    → (o ≡ None → ls ≡ []) → ((q : List Label × Label) → o ≡ Some q → ls ≡ q.0 ++ q.1 ∷ []) → l ∷ ls ≡ p.0 ++ p.1 ∷ []
joined_one l ls None p h none some =
    let is : p ≡ ([], l) = cc in
    rw is (ap (λ (ms : List Label). l ∷ ms) (none refl))
joined_one l ls (Some q) p h none some =
    let is : p ≡ (l ∷ q.0, q.1) = cc in
    rw is (ap (λ (ms : List Label). l ∷ ms) (some q refl))

one_above_not : (l : Label) (o : Option (List Label × Label)) → one_above l o ≡ None → ⊥
one_above_not l None h = cc
one_above_not l (Some q) h = cc

-- only the document's name is not cut
pub cut_none : (n : List Label) → cut n ≡ None → n ≡ []
cut_none [] h = refl
cut_none (l ∷ ls) h = absurd (one_above_not l (cut ls) h)

-- the two parts of a cut name make it up
pub cut_joined : (n : List Label) (p : List Label × Label) → cut n ≡ Some p → n ≡ p.0 ++ p.1 ∷ []
cut_joined [] p h = absurd (cc)
cut_joined (l ∷ ls) p h = joined_one l ls (cut ls) p h (cut_none ls) (cut_joined ls)
