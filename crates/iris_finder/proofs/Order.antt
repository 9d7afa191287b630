-- Lists put into an order: the order rises, has the same elements, and is the only one where no two different elements tie.
use Rattle.std.proofs.Common.{◌≡◌, ℕ, zero, suc, ◌+◌, Bool, true, false, not, ◌&&◌, cond, if◌then◌else◌, List, [], ◌∷◌, get_or, refl, sym, ◌∙◌, ap, subst, arith, zero-add}
use Rattle.std.specs.Prelude.{count_by, replicate}
use Rattle.std.specs.List.{filter, AllByRecursion}
use Rattle.std.specs.List.Sorted.{IsPermutation, IsSortedBy, ties}
use Rattle.std.specs.Cmp.{IsStrictWeakOrder}
use Rattle.std.proofs.lemmas.List.Sorted.{sorted_far, IsPermutation-refl, IsPermutation-cons, IsPermutation-trans, IsPermutation-middle, sum_by-IsPermutation}
use Rattle.std.proofs.lemmas.List.Elements.{recursion_from_All}
use Rattle.std.proofs.lemmas.List.Sums.{sum_by-cons}
use Rattle.iris_finder.specs.Ranked.{put_in, in_order}

module _ {X : Type 0} (before : X → X → Bool) (weak : IsStrictWeakOrder before) where
  abbrev tied : X → X → Bool
  tied = ties before

  not_itself : (x : X) → before x x ≡ false
  not_itself x = by (before x x) refl
    where
      by : (b : Bool) → before x x ≡ b → before x x ≡ false
      by false h = h
      by true h = weak.one_way x x h

  tied_itself : (x : X) → tied x x ≡ true
  tied_itself x = rw (not_itself x) refl

  -- ---- rising elements, by recursion

  abbrev Rise : List X → Type 0
  Rise [] = Unit {0}
  Rise (x ∷ xs) = AllByRecursion (λ y. before y x ≡ false) xs × Rise xs

  next_but_one : (x : X) (xs : List X) (k : ℕ) (d : X) → get_or (x ∷ xs) (suc k + 1) d ≡ get_or xs (k + 1) d
  next_but_one x xs k d = let same : suc k + 1 ≡ suc (k + 1) = omega arith in ap (λ (n : ℕ). get_or (x ∷ xs) n d) same

  tail_in_order : (x : X) (xs : List X) → IsSortedBy before (x ∷ xs) → IsSortedBy before xs
  tail_in_order x xs rise k d low within =
      subst (λ (y : X). before y (get_or xs k d) ≡ false) (next_but_one x xs k d) (rise (suc k) d (omega arith) (omega arith))

  rise_from : (xs : List X) → IsSortedBy before xs → Rise xs
  rise_from [] rise = tt
  rise_from (x ∷ xs) rise =
      (recursion_from_All (λ y. before y x ≡ false) xs (λ k d within. sorted_far before weak (x ∷ xs) rise 0 (suc k) d (omega arith) (omega arith)), rise_from xs (tail_in_order x xs rise))

  in_order_from : (xs : List X) → Rise xs → IsSortedBy before xs
  in_order_from [] rise k d low within = absurd (omega arith)
  in_order_from (x ∷ []) rise k d low within = absurd (omega arith)
  in_order_from (x ∷ y ∷ xs) rise zero d low within = rise.0.0
  in_order_from (x ∷ y ∷ xs) rise (suc k) d low within =
      subst (λ (z : X). before z (get_or (y ∷ xs) k d) ≡ false) (sym (next_but_one x (y ∷ xs) k d)) (in_order_from (y ∷ xs) rise.1 k d (omega arith) (omega arith))

  -- ---- the order rises

  all_put : (P : X → Type 0) (x : X) (ys : List X) → P x → AllByRecursion P ys → AllByRecursion P (put_in before x ys)
  all_put P x [] here each = (here, tt)
  all_put P x (y ∷ ys) here each = by (before y x) (all_put P x ys here each.1)
    where
      by : (b : Bool) → AllByRecursion P (put_in before x ys) → AllByRecursion P (if b then y ∷ put_in before x ys else x ∷ y ∷ ys)
      by false rest = (here, each)
      by true rest = (each.0, rest)

  later : (x y : X) (ys : List X) → before y x ≡ false → AllByRecursion (λ z. before z y ≡ false) ys → AllByRecursion (λ z. before z x ≡ false) ys
  later x y [] h each = tt
  later x y (z ∷ ys) h each = (weak.chain z y x each.0 h, later x y ys h each.1)

  rise_put : (x : X) (ys : List X) → Rise ys → Rise (put_in before x ys)
  rise_put x [] rise = (tt, tt)
  rise_put x (y ∷ ys) rise = by (before y x) refl (rise_put x ys rise.1)
    where
      by : (b : Bool) → before y x ≡ b → Rise (put_in before x ys) → Rise (if b then y ∷ put_in before x ys else x ∷ y ∷ ys)
      by false h rest = ((h, later x y ys h rise.0), rise)
      by true h rest = (all_put (λ z. before z y ≡ false) x ys (weak.one_way y x h) rise.0, rest)

  rise_order : (xs : List X) → Rise (in_order before xs)
  rise_order [] = tt
  rise_order (x ∷ xs) = rise_put x (in_order before xs) (rise_order xs)

  -- elements put into their order are in it
  pub order_rises : (xs : List X) → IsSortedBy before (in_order before xs)
  order_rises xs = in_order_from (in_order before xs) (rise_order xs)

  -- ---- it has the same elements

  same_put : (x : X) (ys : List X) → IsPermutation (x ∷ ys) (put_in before x ys)
  same_put x [] = IsPermutation-refl (x ∷ [])
  same_put x (y ∷ ys) = by (before y x) (same_put x ys)
    where
      by : (b : Bool) → IsPermutation (x ∷ ys) (put_in before x ys) → IsPermutation (x ∷ y ∷ ys) (if b then y ∷ put_in before x ys else x ∷ y ∷ ys)
      by false rest = IsPermutation-refl (x ∷ y ∷ ys)
      by true rest = IsPermutation-trans (x ∷ y ∷ ys) (y ∷ x ∷ ys) (y ∷ put_in before x ys) (IsPermutation-middle (x ∷ []) y ys) (IsPermutation-cons y (x ∷ ys) (put_in before x ys) rest)

  -- elements put into their order are the same
  pub order_same : (xs : List X) → IsPermutation xs (in_order before xs)
  order_same [] = IsPermutation-refl []
  order_same (x ∷ xs) = IsPermutation-trans (x ∷ xs) (x ∷ in_order before xs) (in_order before (x ∷ xs)) (IsPermutation-cons x xs (in_order before xs) (order_same xs)) (same_put x (in_order before xs))

  -- ---- it is the only one

  none_tied : (x : X) (ys : List X) → AllByRecursion (λ z. before x z ≡ true) ys → filter (tied x) ys ≡ []
  none_tied x [] each = refl
  none_tied x (y ∷ ys) each = rw each.0 (none_tied x ys each.1)

  all_behind : (x y : X) (ys : List X) → before x y ≡ true → AllByRecursion (λ z. before z y ≡ false) ys → AllByRecursion (λ z. before x z ≡ true) ys
  all_behind x y [] h each = tt
  all_behind x y (z ∷ ys) h each = (by (before x z) refl, all_behind x y ys h each.1)
    where
      by : (b : Bool) → before x z ≡ b → before x z ≡ true
      by true less = less
      by false less = let never = weak.chain x z y less each.0 in absurd (cc)

  no_tie : (x y : X) (ys : List X) → before x y ≡ true → Rise (y ∷ ys) → filter (tied x) (y ∷ ys) ≡ []
  no_tie x y ys h rise = none_tied x (y ∷ ys) (h, all_behind x y ys h rise.0)

  ties_with_itself : (x : X) (xs : List X) → filter (tied x) (x ∷ xs) ≡ x ∷ filter (tied x) xs
  ties_with_itself x xs = rw (tied_itself x) refl

  same_tail : (x : X) (b : Bool) (xs ys : List X) → cond b (x ∷ xs) xs ≡ cond b (x ∷ ys) ys → xs ≡ ys
  same_tail x false xs ys h = h
  same_tail x true xs ys h = cc

  same_first : (x y : X) (xs ys : List X) → Rise (x ∷ xs) → Rise (y ∷ ys) → ((z : X) → filter (tied z) (x ∷ xs) ≡ filter (tied z) (y ∷ ys)) → x ≡ y
  same_first x y xs ys rise_x rise_y same = by (before x y) (before y x) refl refl
    where
      by : (a b : Bool) → before x y ≡ a → before y x ≡ b → x ≡ y
      by true b h g = let never = sym (ties_with_itself x xs) ∙ same x ∙ no_tie x y ys h rise_y in absurd (cc)
      by false true h g = let never = sym (ties_with_itself y ys) ∙ sym (same y) ∙ no_tie y x xs g rise_x in absurd (cc)
      by false false h g =
          let both : tied x y ≡ true = rw (h, g) refl in
          let heads : x ∷ filter (tied x) xs ≡ y ∷ filter (tied x) ys = sym (ties_with_itself x xs) ∙ same x ∙ rw both refl in
          cc

  same_order : (xs ys : List X) → Rise xs → Rise ys → ((z : X) → filter (tied z) xs ≡ filter (tied z) ys) → xs ≡ ys
  same_order [] [] rise_x rise_y same = refl
  same_order [] (y ∷ ys) rise_x rise_y same = let never = same y ∙ ties_with_itself y ys in absurd (cc)
  same_order (x ∷ xs) [] rise_x rise_y same = let never = sym (same x) ∙ ties_with_itself x xs in absurd (cc)
  same_order (x ∷ xs) (y ∷ ys) rise_x rise_y same =
      let first = same_first x y xs ys rise_x rise_y same in
      let rest = same_order xs ys rise_x.1 rise_y.1
      (λ z. same_tail x (tied z x) (filter (tied z) xs) (filter (tied z) ys) (same z ∙ ap (λ (w : X). filter (tied z) (w ∷ ys)) (sym first))) in
      λ i. first i ∷ rest i

  module _ (exact : (x y : X) → before x y ≡ false → before y x ≡ false → x ≡ y) where
    both_false : (a b : Bool) → not a && not b ≡ true → (a ≡ false) × (b ≡ false)
    both_false false false h = (refl, refl)
    both_false false true h = absurd (cc)
    both_false true b h = absurd (cc)

    tied_same : (x y : X) → tied x y ≡ true → x ≡ y
    tied_same x y h = let two = both_false (before x y) (before y x) h in exact x y two.0 two.1

    copies : (x : X) (ys : List X) → filter (tied x) ys ≡ replicate (count_by (tied x) ys) x
    copies x [] = refl
    copies x (y ∷ ys) = by (tied x y) refl (copies x ys)
      where
        by : (b : Bool) → tied x y ≡ b → filter (tied x) ys ≡ replicate (count_by (tied x) ys) x → filter (tied x) (y ∷ ys) ≡ replicate (count_by (tied x) (y ∷ ys)) x
        by false h rest = rw (sum_by-cons (λ (z : X). cond (tied x z) 1 0) y ys, h, zero-add (count_by (tied x) ys)) rest
        by true h rest =
            let is : x ≡ y = tied_same x y h in
            let one : 1 + count_by (tied x) ys ≡ suc (count_by (tied x) ys) = omega arith in
            rw (sum_by-cons (λ (z : X). cond (tied x z) 1 0) y ys, h, one) (λ i. sym is i ∷ rest i)

    same_ties : (given sorted : List X) → IsPermutation given sorted → (x : X) → filter (tied x) sorted ≡ filter (tied x) given
    same_ties given sorted same x =
        copies x sorted ∙ ap (λ (n : ℕ). replicate n x) (sum_by-IsPermutation (λ (z : X). cond (tied x z) 1 0) given sorted same) ∙ sym (copies x given)

    -- a rising list of the same elements is their order
    pub order_once : (given sorted : List X) → IsPermutation given sorted → IsSortedBy before sorted → sorted ≡ in_order before given
    order_once given sorted same rise =
        same_order sorted (in_order before given) (rise_from sorted rise) (rise_order given)
        (λ z. same_ties given sorted same z ∙ sym (same_ties given (in_order before given) (order_same given) z))
