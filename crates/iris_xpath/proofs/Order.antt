-- Places in order, each once: they are the same list where they have the same elements.
use Rattle.std.proofs.Common.{◌≡◌, Bool, true, false, ◌&&◌, ◌||◌, List, [], ◌∷◌, fold, refl, ap, sym, ◌∙◌, subst, true≢false}
use Rattle.std.specs.List.{AllByRecursion, list_any}
use Rattle.std.specs.List.Sorted.{IsStrictlySortedBy}
use Rattle.std.specs.Cmp.{IsTotalOrder}
use Rattle.std.specs.Cmp.Lexicographic.{lists_total}
use Rattle.std.specs.Ordering.{ordering_reverse, is_lt, is_eq}
use Rattle.std.specs.declared.cmp.Ordering.{Ordering}
use Rattle.std.specs.declared.cmp.Ordering.TheVariants.{Less, Equal, Greater}
use Rattle.std.proofs.lemmas.Cmp.{nat_cmp_total}
use Rattle.std.specs.FinMap.{nat_cmp-IsAntisymmetric, slice_cmp-IsAntisymmetric}
use Rattle.iris_base.specs.declared.name.Label.{Label}
use Rattle.iris_base.specs.NameOrder.{label_cmp, labels_total, labels_ties}
use Rattle.iris_base.proofs.Labels.{label_eq-Decides}
use Rattle.iris_tree.specs.Document.{Edge, position, label, Place}
use Rattle.iris_xpath.specs.PlaceOrder.{edge_cmp, place_cmp, put_place, with_place, in_place_order}
use Rattle.iris_xpath.specs.Same.{HaveSame}
use Rattle.iris_xpath.proofs.PlaceOrder.{equal_itself}
use Rattle.iris_xpath.proofs.Passes.{or_false, or_assoc, or_comm}

-- ---- the order of places

edges_antisymm : (e f : Edge) → edge_cmp e f ≡ ordering_reverse (edge_cmp f e)
edges_antisymm (position i) (position j) = nat_cmp_total.antisymm i j
edges_antisymm (position i) (label m) = refl
edges_antisymm (label l) (position j) = refl
edges_antisymm (label l) (label m) = labels_total.antisymm l m

edges_trans : (e f g : Edge) → edge_cmp e f ≡ Less → edge_cmp f g ≡ Less → edge_cmp e g ≡ Less
edges_trans (position i) (position j) (position k) h t = nat_cmp_total.trans i j k h t
edges_trans (position i) (position j) (label n) h t = refl
edges_trans (position i) (label m) (position k) h t = absurd (cc)
edges_trans (position i) (label m) (label n) h t = refl
edges_trans (label l) (position j) g h t = absurd (cc)
edges_trans (label l) (label m) (position k) h t = absurd (cc)
edges_trans (label l) (label m) (label n) h t = labels_total.trans l m n h t

edges_congr : (e f g : Edge) → edge_cmp e f ≡ Equal → edge_cmp e g ≡ edge_cmp f g
edges_congr (position i) (position j) (position k) h = nat_cmp_total.congr i j k h
edges_congr (position i) (position j) (label n) h = refl
edges_congr (position i) (label m) g h = absurd (cc)
edges_congr (label l) (position j) g h = absurd (cc)
edges_congr (label l) (label m) (position k) h = refl
edges_congr (label l) (label m) (label n) h = labels_total.congr l m n h

edges_total : IsTotalOrder edge_cmp
edges_total = record { antisymm = edges_antisymm; trans = edges_trans; congr = edges_congr }

-- places are ordered totally
pub places_total : IsTotalOrder place_cmp
places_total = lists_total edges_total

label_exact : (l m : Label) → label_cmp l m ≡ Equal → l ≡ m
label_exact l m h = (label_eq-Decides l m).0 (labels_ties l m ∙ ap is_eq h)

edge_exact : (e f : Edge) → edge_cmp e f ≡ Equal → e ≡ f
edge_exact (position i) (position j) h = ap position (nat_cmp-IsAntisymmetric i j h)
edge_exact (position i) (label m) h = absurd (cc)
edge_exact (label l) (position j) h = absurd (cc)
edge_exact (label l) (label m) h = ap label (label_exact l m h)

-- places that compare as equal are one
pub place_exact : (p q : Place) → place_cmp p q ≡ Equal → p ≡ q
place_exact = slice_cmp-IsAntisymmetric edge_exact

-- ---- putting places into order

-- all of these places are greater
abbrev AreAfter : Place → List Place → Type 0
AreAfter p = AllByRecursion (λ q. place_cmp p q ≡ Less)

abbrev Rises : List Place → Type 0
Rises ps = IsStrictlySortedBy place_cmp ps

after_more : (p q : Place) → place_cmp p q ≡ Less → (ps : List Place) → AreAfter q ps → AreAfter p ps
after_more p q e [] h = tt
after_more p q e (r ∷ rs) h = (places_total.trans p q r e h.0, after_more p q e rs h.1)

put_after : (first : Place) (o : Ordering) (p q : Place) (qs more : List Place) → place_cmp first p ≡ Less → place_cmp first q ≡ Less → AreAfter first qs → AreAfter first more → AreAfter first (put_place o p q qs more)
put_after first Less p q qs more h k rest also = (h, (k, rest))
put_after first Equal p q qs more h k rest also = (k, rest)
put_after first Greater p q qs more h k rest also = (k, also)

with_after : (first p : Place) → place_cmp first p ≡ Less → (qs : List Place) → AreAfter first qs → AreAfter first (with_place qs p)
with_after first p h [] k = (h, tt)
with_after first p h (q ∷ qs) k = put_after first (place_cmp p q) p q qs (with_place qs p) h k.0 k.1 (with_after first p h qs k.1)

put_rises : (o : Ordering) (p q : Place) (qs more : List Place) → place_cmp p q ≡ o → AreAfter q qs → Rises qs → (place_cmp q p ≡ Less → AreAfter q more) → Rises more → Rises (put_place o p q qs more)
unfolding IsStrictlySortedBy
put_rises Less p q qs more e first rest also rises = ((e, after_more p q e qs first), (first, rest))
put_rises Equal p q qs more e first rest also rises = (first, rest)
put_rises Greater p q qs more e first rest also rises = (also (places_total.antisymm q p ∙ ap ordering_reverse e), rises)

with_rises : (p : Place) (qs : List Place) → Rises qs → Rises (with_place qs p)
unfolding IsStrictlySortedBy
with_rises p [] h = (tt, tt)
with_rises p (q ∷ qs) h = put_rises (place_cmp p q) p q qs (with_place qs p) refl h.0 h.1 (λ e. with_after q p e qs h.0) (with_rises p qs h.1)

fold_rises : (ps qs : List Place) → Rises qs → Rises (fold with_place qs ps)
fold_rises [] qs h = h
fold_rises (p ∷ ps) qs h = fold_rises ps (with_place qs p) (with_rises p qs h)

-- places put in order rise
pub order_rises : (ps : List Place) → IsStrictlySortedBy place_cmp (in_place_order ps)
unfolding IsStrictlySortedBy
order_rises ps = fold_rises ps [] tt

or_twice : (a b : Bool) → (a || b) ≡ ((a || b) || a)
or_twice true b = refl
or_twice false true = refl
or_twice false false = refl

put_any : (t : Place → Bool) (o : Ordering) (p q : Place) (qs more : List Place) → place_cmp p q ≡ o → list_any t more ≡ (list_any t qs || t p) → list_any t (put_place o p q qs more) ≡ (list_any t (q ∷ qs) || t p)
put_any t Less p q qs more e h = or_comm (t p) (t q || list_any t qs)
put_any t Equal p q qs more e h = or_twice (t q) (list_any t qs) ∙ ap (λ (r : Place). (t q || list_any t qs) || t r) (sym (place_exact p q e))
put_any t Greater p q qs more e h = ap (λ b. t q || b) h ∙ sym (or_assoc (t q) (list_any t qs) (t p))

with_any : (t : Place → Bool) (qs : List Place) (p : Place) → list_any t (with_place qs p) ≡ (list_any t qs || t p)
with_any t [] p = or_false (t p)
with_any t (q ∷ qs) p = put_any t (place_cmp p q) p q qs (with_place qs p) refl (with_any t qs p)

fold_any : (t : Place → Bool) (ps qs : List Place) → list_any t (fold with_place qs ps) ≡ (list_any t qs || list_any t ps)
fold_any t [] qs = sym (or_false (list_any t qs))
fold_any t (p ∷ ps) qs = fold_any t ps (with_place qs p) ∙ ap (λ b. b || list_any t ps) (with_any t qs p) ∙ or_assoc (list_any t qs) (t p) (list_any t ps)

-- and they are the same places
pub order_same : (ps : List Place) → HaveSame (in_place_order ps) ps
order_same ps t = fold_any t ps []

-- ---- one list alone

-- in any order in which ties are the same
module _ {X : Type 0} (c : X → X → Ordering) (total : IsTotalOrder c) (exact : (x y : X) → c x y ≡ Equal → x ≡ y) where
  it_itself : (x : X) → c x x ≡ Equal
  it_itself x = equal_itself (c x x) (total.antisymm x x)

  later_too : (x y : X) → c x y ≡ Less → (zs : List X) → AllByRecursion (λ z. c y z ≡ Less) zs → AllByRecursion (λ z. c x z ≡ Less) zs
  later_too x y e [] h = tt
  later_too x y e (z ∷ zs) h = (total.trans x y z e h.0, later_too x y e zs h.1)

  any_after : (x : X) (t : X → Bool) (ys : List X) → AllByRecursion (λ y. c x y ≡ Less) ys → list_any (λ y. is_lt (c x y) && t y) ys ≡ list_any t ys
  any_after x t [] h = refl
  any_after x t (y ∷ ys) h = ap (λ o. (is_lt o && t y) || list_any (λ z. is_lt (c x z) && t z) ys) h.0 ∙ ap (λ b. t y || b) (any_after x t ys h.1)

  -- a test of what stands after the first
  any_rest : (x : X) (t : X → Bool) (ys : List X) → AllByRecursion (λ y. c x y ≡ Less) ys → list_any (λ y. is_lt (c x y) && t y) (x ∷ ys) ≡ list_any t ys
  any_rest x t ys h = ap (λ o. (is_lt o && t x) || list_any (λ y. is_lt (c x y) && t y) ys) (it_itself x) ∙ any_after x t ys h

  none_after : (x : X) (ys : List X) → AllByRecursion (λ y. c x y ≡ Less) ys → list_any (λ y. is_eq (c x y)) ys ≡ false
  none_after x [] h = refl
  none_after x (y ∷ ys) h = ap (λ o. is_eq o || list_any (λ z. is_eq (c x z)) ys) h.0 ∙ none_after x ys h.1

  -- what is less than the first is not there
  less_absent : (x y : X) (xs ys : List X) → c x y ≡ Less → AllByRecursion (λ z. c y z ≡ Less) ys → HaveSame (x ∷ xs) (y ∷ ys) → ⊥
  less_absent x y xs ys e after same =
      let there : list_any (λ z. is_eq (c x z)) (x ∷ xs) ≡ true = ap (λ o. is_eq o || list_any (λ z. is_eq (c x z)) xs) (it_itself x) in
      let absent : list_any (λ z. is_eq (c x z)) (y ∷ ys) ≡ false = ap (λ o. is_eq o || list_any (λ z. is_eq (c x z)) ys) e ∙ none_after x ys (later_too x y e ys after) in
      true≢false (sym there ∙ same (λ z. is_eq (c x z)) ∙ absent)

  same_first : (x y : X) (xs ys : List X) (o : Ordering) → c x y ≡ o → AllByRecursion (λ z. c x z ≡ Less) xs → AllByRecursion (λ z. c y z ≡ Less) ys → HaveSame (x ∷ xs) (y ∷ ys) → x ≡ y
  same_first x y xs ys Less e h k same = absurd (less_absent x y xs ys e k same)
  same_first x y xs ys Equal e h k same = exact x y e
  same_first x y xs ys Greater e h k same = absurd (less_absent y x ys xs (total.antisymm y x ∙ ap ordering_reverse e) h (λ t. sym (same t)))

  -- two lists that rise and have the same elements are one
  pub one_list : (xs ys : List X) → IsStrictlySortedBy c xs → IsStrictlySortedBy c ys → HaveSame xs ys → xs ≡ ys
  unfolding IsStrictlySortedBy
  one_list [] [] h k same = refl
  one_list [] (y ∷ ys) h k same = absurd (true≢false (sym (same (λ z. true))))
  one_list (x ∷ xs) [] h k same = absurd (true≢false (same (λ z. true)))
  one_list (x ∷ xs) (y ∷ ys) h k same =
      let first : x ≡ y = same_first x y xs ys (c x y) refl h.0 k.0 same in
      let after : AllByRecursion (λ z. c x z ≡ Less) ys = subst (λ (w : X). AllByRecursion (λ z. c w z ≡ Less) ys) (sym first) k.0 in
      let again : HaveSame (x ∷ xs) (x ∷ ys) = subst (λ (w : X). HaveSame (x ∷ xs) (w ∷ ys)) (sym first) same in
      ap (λ (w : X). w ∷ xs) first ∙ ap (λ (zs : List X). y ∷ zs) (one_list xs ys h.1 k.1 (λ t. sym (any_rest x t xs h.0) ∙ again (λ z. is_lt (c x z) && t z) ∙ any_rest x t ys after))

-- two lists of the same places in order are one
pub one_order : (ps qs : List Place) → IsStrictlySortedBy place_cmp ps → IsStrictlySortedBy place_cmp qs → HaveSame ps qs → ps ≡ qs
one_order = one_list place_cmp places_total place_exact
