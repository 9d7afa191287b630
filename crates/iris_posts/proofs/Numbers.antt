-- Look-ups by numbers that rise.
use Rattle.std.proofs.Common.{◌≡◌, ℕ, zero, suc, ◌+◌, ◌<◌, ◌≤◌, Bool, true, false, cond, eqb, ltb, ◌&&◌, ◌⊎◌, inl, inr, List, [], ◌∷◌, ◌++◌, length, get_or, Option, Some, None, Result, Ok, Err, refl, sym, ◌∙◌, ap, subst, arith}
use Rattle.std.specs.Prelude.{slice_get, option_map, option_and_then}
use Rattle.std.specs.Result.{result_ok}
use Rattle.std.specs.List.Sorted.{IsBinarySearchResult, IsSearchInRange, IsSortedBy}
use Rattle.std.specs.Ordering.{nat_cmp, is_lt}
use Rattle.std.specs.Cmp.{nat_cmp_is}
use Rattle.std.specs.declared.cmp.Ordering.{Ordering}
use Rattle.std.specs.declared.cmp.Ordering.TheVariants.{Less, Equal, Greater}
use Rattle.std.proofs.lemmas.Bool.{cases_lt, eqb-true, eqb-false, ne_eqb, eq-eqb, le-ltb, lt-ltb}
use Rattle.std.proofs.Math.Bool.{and-false}
use Rattle.std.proofs.lemmas.Cmp.{nat_cmp_total}
use Rattle.std.proofs.lemmas.Map.Lookups.{exact_unsigned}
use Rattle.std.proofs.lemmas.Option.{slice_get-map, slice_get-get_or, slice_get_read}
use Rattle.std.proofs.lemmas.List.Sorted.{searchable_from_sorted}
use Rattle.iris_posts.specs.declared.slot.Slot.{Slot}
use Rattle.iris_posts.specs.Posts.{KeptPost, kept_at, is_over}
use Rattle.iris_posts.specs.Slots.{kept_of, kept_in, AreNumbered}

-- ---- one look-up

-- the first post is the one that is looked up, or the look-up goes on
pub kept_first : (p : KeptPost) (ps : List KeptPost) (n : ℕ) (b : Bool) → eqb n p.number ≡ b → kept_at (p ∷ ps) n ≡ cond b (Some p) (kept_at ps n)
kept_first p ps n b h = ap (λ (c : Bool). cond c (Some p) (kept_at ps n)) h

-- the post that is found has the number
pub kept_number : (ps : List KeptPost) (n : ℕ) (p : KeptPost) → kept_at ps n ≡ Some p → p.number ≡ n
kept_number [] n p h = absurd (cc)
kept_number (q ∷ ps) n p h = by (eqb n q.number) refl (λ at. kept_number ps n p at)
  where
    by : (b : Bool) → eqb n q.number ≡ b → (kept_at ps n ≡ Some p → p.number ≡ n) → p.number ≡ n
    by true same rest = let found : Some q ≡ Some p = sym (kept_first q ps n true same) ∙ h in let is : q ≡ p = cc in sym (ap (λ (r : KeptPost). r.number) is) ∙ sym (eqb-true n q.number same)
    by false other rest = rest (sym (kept_first q ps n false other) ∙ h)

-- ---- numbers that rise

-- a number below all is that of no post
pub none_below : (least made : ℕ) (slots : List Slot) (n : ℕ) → AreNumbered least made slots → n < least → kept_at (kept_in slots) n ≡ None
none_below least made [] n h lt = refl
none_below least made (s ∷ slots) n h lt =
    kept_first (kept_of s) (kept_in slots) n false (ne_eqb n s.number (λ e. omega (arith, h.0))) ∙ none_below (s.number + 1) made slots n h.2 (omega (arith, h.0))

-- a number that was not given is that of no post
pub none_above : (least made : ℕ) (slots : List Slot) (n : ℕ) → AreNumbered least made slots → made ≤ n → kept_at (kept_in slots) n ≡ None
none_above least made [] n h le = refl
none_above least made (s ∷ slots) n h le = kept_first (kept_of s) (kept_in slots) n false (ne_eqb n s.number (λ e. omega (arith, h.1))) ∙ none_above (s.number + 1) made slots n h.2 le

-- the number of a kept post was given
pub kept_below : (least made : ℕ) (slots : List Slot) (n : ℕ) (p : KeptPost) → AreNumbered least made slots → kept_at (kept_in slots) n ≡ Some p → n < made
kept_below least made slots n p h found = elim (cases_lt n made) [
  | inl lt ↦ lt
  | inr le ↦ let none = none_above least made slots n h le in let bad : None ≡ Some p = sym none ∙ found in absurd (cc)
]

-- numbers from the least on are so from a lesser one on
pub numbered_from : (least less made : ℕ) (slots : List Slot) → AreNumbered least made slots → less ≤ least → AreNumbered less made slots
numbered_from least less made [] h le = tt
numbered_from least less made (s ∷ slots) h le = (omega (arith, h.0), h.1, h.2)

-- each number is from the least on
pub number_from : (least made : ℕ) (slots : List Slot) (at : ℕ) (s : Slot) → AreNumbered least made slots → slice_get slots at ≡ Some s → least ≤ s.number
number_from least made [] at s h is = absurd (cc)
number_from least made (t ∷ slots) zero s h is = let same : t ≡ s = cc in omega (arith, h.0, ap (λ (r : Slot). r.number) same)
number_from least made (t ∷ slots) (suc at) s h is = let from = number_from (t.number + 1) made slots at s h.2 is in omega (arith, h.0, from)

-- the post at a place is that of its number
pub found_at : (least made : ℕ) (slots : List Slot) (at : ℕ) (s : Slot) → AreNumbered least made slots → slice_get slots at ≡ Some s → kept_at (kept_in slots) s.number ≡ Some (kept_of s)
found_at least made [] at s h is = absurd (cc)
found_at least made (t ∷ slots) zero s h is =
    let same : t ≡ s = cc in kept_first (kept_of t) (kept_in slots) s.number true (eq-eqb s.number t.number (ap (λ (r : Slot). r.number) (sym same))) ∙ ap (λ (r : Slot). Some (kept_of r)) same
found_at least made (t ∷ slots) (suc at) s h is =
    let from = number_from (t.number + 1) made slots at s h.2 is in
    kept_first (kept_of t) (kept_in slots) s.number false (ne_eqb s.number t.number (λ e. omega (arith, from))) ∙ found_at (t.number + 1) made slots at s h.2 is

-- ---- a search by halves

not_equal : (a n : ℕ) (o : Ordering) → nat_cmp a n ≡ o → (o ≡ Equal → ⊥) → eqb n a ≡ false
not_equal a n o h other = ne_eqb n a (λ e. other (sym h ∙ sym (nat_cmp_is a n Equal (sym e))))

none_alike : (slots : List Slot) (n : ℕ) → ((k : ℕ) (d : Slot) → k < length slots → eqb n (get_or slots k d).number ≡ false) → kept_at (kept_in slots) n ≡ None
none_alike [] n h = refl
none_alike (s ∷ slots) n h = kept_first (kept_of s) (kept_in slots) n false (h 0 s (omega arith)) ∙ none_alike slots n (λ k d lt. h (suc k) d (omega arith))

numbers_rise : (least made : ℕ) (slots : List Slot) → AreNumbered least made slots → (k : ℕ) (d : Slot) → suc k < length slots → (get_or slots k d).number ≤ (get_or slots (suc k) d).number
numbers_rise least made [] h k d lt = absurd (omega arith)
numbers_rise least made (s ∷ []) h k d lt = absurd (omega arith)
numbers_rise least made (s ∷ (t ∷ slots)) h zero d lt = omega (arith, h.2.0)
numbers_rise least made (s ∷ (t ∷ slots)) h (suc k) d lt = numbers_rise (s.number + 1) made (t ∷ slots) h.2 k d (omega arith)

not_less : (a b : ℕ) → b ≤ a → is_lt (nat_cmp a b) ≡ false
not_less a b le =
    ap (λ (c : Bool). is_lt (cond c Less (cond (eqb a b) Equal Greater))) (le-ltb a b le) ∙ elim (eqb a b) as (λ c. is_lt (cond c Equal Greater) ≡ false) [ true ↦ refl | false ↦ refl ]

numbers_sorted : (least made : ℕ) (slots : List Slot) → AreNumbered least made slots → IsSortedBy (λ (a b : Slot). is_lt (nat_cmp a.number b.number)) slots
numbers_sorted least made slots h = λ k d low lt.
    let next : suc k ≡ k + 1 = omega arith in
    let rise = subst (λ (j : ℕ). (get_or slots k d).number ≤ (get_or slots j d).number) next (numbers_rise least made slots h k d (omega arith)) in
    not_less (get_or slots (k + 1) d).number (get_or slots k d).number rise

-- where a search for a number ends
pub searched : (made : ℕ) (slots : List Slot) (n : ℕ) (r : Result ℕ ℕ) → AreNumbered 0 made slots → IsSearchInRange r (length slots) → IsBinarySearchResult (λ s. nat_cmp s.number n) slots r → option_and_then (slice_get (kept_in slots)) (result_ok r) ≡ kept_at (kept_in slots) n
searched made [] n (Ok at) h within same = absurd (omega (arith, within))
searched made (s ∷ slots) n (Ok at) h within same =
    let x = get_or (s ∷ slots) at s in
    let is : slice_get (s ∷ slots) at ≡ Some x = slice_get-get_or (s ∷ slots) at s within in
    slice_get-map kept_of (s ∷ slots) at ∙ ap (option_map kept_of) is ∙ sym (found_at 0 made (s ∷ slots) at x h is) ∙ ap (kept_at (kept_in (s ∷ slots))) (exact_unsigned x.number n (same s))
searched made slots n (Err at) h within parted =
    sym (none_alike slots n (λ k d lt. by k d lt (cases_lt k at)))
  where
    by : (k : ℕ) (d : Slot) → k < length slots → (k < at) ⊎ (at ≤ k) → eqb n (get_or slots k d).number ≡ false
    by k d lt (inl before) = not_equal (get_or slots k d).number n Less ((parted (searchable_from_sorted nat_cmp_total (λ (s : Slot). s.number) slots n (numbers_sorted 0 made slots h))).0 k d (omega arith) before) (λ e. cc)
    by k d lt (inr after) = not_equal (get_or slots k d).number n Greater ((parted (searchable_from_sorted nat_cmp_total (λ (s : Slot). s.number) slots n (numbers_sorted 0 made slots h))).1 k d after lt) (λ e. cc)

-- ---- one post more

-- the numbers with the next one behind them
pub numbered_more : (least made : ℕ) (slots : List Slot) (s : Slot) → AreNumbered least made slots → least ≤ made → s.number ≡ made → AreNumbered least (made + 1) (slots ++ s ∷ [])
numbered_more least made [] s h le is = (omega arith, omega arith, tt)
numbered_more least made (t ∷ slots) s h le is = (h.0, omega (arith, h.1), numbered_more (t.number + 1) made slots s h.2 (omega (arith, h.1)) is)

-- a look-up with a post more, of the next number
pub pushed_at : (least made : ℕ) (slots : List Slot) (p : KeptPost) (n : ℕ) → AreNumbered least made slots → p.number ≡ made → kept_at (kept_in slots ++ p ∷ []) n ≡ cond (eqb n p.number) (Some p) (kept_at (kept_in slots) n)
pushed_at least made [] p n h is = refl
pushed_at least made (s ∷ slots) p n h is = by (eqb n s.number) refl (pushed_at (s.number + 1) made slots p n h.2 is)
  where
    by : (b : Bool) → eqb n s.number ≡ b → kept_at (kept_in slots ++ p ∷ []) n ≡ cond (eqb n p.number) (Some p) (kept_at (kept_in slots) n)
        → kept_at (kept_in (s ∷ slots) ++ p ∷ []) n ≡ cond (eqb n p.number) (Some p) (kept_at (kept_in (s ∷ slots)) n)
    by true same rest =
        let lower : n ≡ p.number → ⊥ = λ e. omega (arith, h.1, eqb-true n s.number same) in
        kept_first (kept_of s) (kept_in slots ++ p ∷ []) n true same ∙ sym (kept_first (kept_of s) (kept_in slots) n true same)
        ∙ sym (ap (λ (c : Bool). cond c (Some p) (kept_at (kept_in (s ∷ slots)) n)) (ne_eqb n p.number lower))
    by false other rest =
        kept_first (kept_of s) (kept_in slots ++ p ∷ []) n false other ∙ rest ∙ ap (λ (o : Option KeptPost). cond (eqb n p.number) (Some p) o) (sym (kept_first (kept_of s) (kept_in slots) n false other))

-- the message of a look-up with a post more
pub post_pushed : (b : Bool) (p : KeptPost) (o : Option KeptPost) → option_map (λ (q : KeptPost). q.post) (cond b (Some p) o) ≡ cond b (Some p.post) (option_map (λ (q : KeptPost). q.post) o)
post_pushed true p o = refl
post_pushed false p o = refl

given_alike : (made n : ℕ) → eqb n made ≡ false → ltb n (made + 1) ≡ ltb n made
given_alike made n other = elim (cases_lt n made) [
  | inl lt ↦ lt-ltb n (made + 1) (omega arith) ∙ sym (lt-ltb n made lt)
  | inr le ↦ let differ = eqb-false n made other in le-ltb n (made + 1) (omega (arith, differ)) ∙ sym (le-ltb n made le)
]

-- what is seen with a post more, which was not delivered
pub seen_pushed : (made n : ℕ) (p : KeptPost) (o : Option KeptPost) → p.delivered ≡ false → (ltb n (made + 1) && is_over (cond (eqb n made) (Some p) o)) ≡ cond (eqb n made) false (ltb n made && is_over o)
seen_pushed made n p o new = by (eqb n made) refl
  where
    by : (b : Bool) → eqb n made ≡ b → (ltb n (made + 1) && is_over (cond (eqb n made) (Some p) o)) ≡ cond (eqb n made) false (ltb n made && is_over o)
    by true same =
        ap (λ (b : Bool). ltb n (made + 1) && is_over (cond b (Some p) o)) same ∙ ap (λ (b : Bool). ltb n (made + 1) && b) new ∙ and-false (ltb n (made + 1))
        ∙ sym (ap (λ (b : Bool). cond b false (ltb n made && is_over o)) same)
    by false other =
        ap (λ (b : Bool). ltb n (made + 1) && is_over (cond b (Some p) o)) other ∙ ap (λ (b : Bool). b && is_over o) (given_alike made n other)
        ∙ sym (ap (λ (b : Bool). cond b false (ltb n made && is_over o)) other)

-- ---- a place that was found

-- the slot at the place that was found for a number
pub found_slot : (slots seen : List Slot) (at n : ℕ) (s : Slot) → seen ≡ slots → at < length seen → slice_get (kept_in seen) at ≡ kept_at (kept_in seen) n → s ≡ get_or slots at s
    → (slice_get slots at ≡ Some s) × (kept_at (kept_in slots) n ≡ Some (kept_of s))
found_slot slots seen at n s same within found is =
    let there : slice_get slots at ≡ Some s = slice_get_read slots (length seen) at s (ap (λ (ss : List Slot). length ss) same) within is in
    (there, sym (subst (λ (ss : List Slot). slice_get (kept_in ss) at ≡ kept_at (kept_in ss) n) same found) ∙ slice_get-map kept_of slots at ∙ ap (option_map kept_of) there)
