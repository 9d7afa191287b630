-- Plain elements in the order of their texts: a stable sort finds this order, and it keeps what holds of each.
use Rattle.std.proofs.Common.{◌≡◌, ℕ, zero, suc, ◌+◌, Bool, true, false, not, ◌&&◌, cond, if◌then◌else◌, List, [], ◌∷◌, length, get_or, refl, sym, ◌∙◌, ap, subst, arith}
use Rattle.std.specs.List.{filter, AllByRecursion}
use Rattle.std.specs.List.Sorted.{IsStableBy, ties}
use Rattle.std.specs.Cmp.{IsStrictWeakOrder}
use Rattle.std.specs.Cmp.Lexicographic.{nat_list_cmp_total}
use Rattle.std.specs.Ordering.{is_lt}
use Rattle.std.proofs.lemmas.List.Sorted.{sorted_far}
use Rattle.std.proofs.lemmas.List.MinMax.{ranks_by}
use Rattle.std.proofs.lemmas.List.Elements.{recursion_from_All}
use Rattle.iris_tree.specs.declared.plain.Plain.{Plain}
use Rattle.iris_tree.specs.PlainOrder.{plain_text, text_cmp, AreInTextOrder, insert_plain, in_text_order}

-- the test that a sort of plain siblings goes by
abbrev pub is_before : Plain → Plain → Bool
is_before p q = is_lt (text_cmp (plain_text p) (plain_text q))

-- it is one
pub before_weak : IsStrictWeakOrder is_before
before_weak = ranks_by nat_list_cmp_total plain_text

abbrev tied : Plain → Plain → Bool
tied = ties is_before

not_itself : (p : Plain) → is_before p p ≡ false
not_itself p = by (is_before p p) refl
  where
    by : (b : Bool) → is_before p p ≡ b → is_before p p ≡ false
    by false h = h
    by true h = before_weak.one_way p p h

both_false : (a b : Bool) → not a && not b ≡ true → (a ≡ false) × (b ≡ false)
both_false false false h = (refl, refl)
both_false false true h = absurd (cc)
both_false true b h = absurd (cc)

tied_itself : (p : Plain) → tied p p ≡ true
tied_itself p = rw (not_itself p) refl

-- ---- rising texts, by recursion

abbrev Rise : List Plain → Type 0
Rise [] = Unit {0}
Rise (p ∷ ps) = AllByRecursion (λ q. is_before q p ≡ false) ps × Rise ps

next_but_one : (p : Plain) (ps : List Plain) (k : ℕ) (d : Plain) → get_or (p ∷ ps) (suc k + 1) d ≡ get_or ps (k + 1) d
next_but_one p ps k d = let same : suc k + 1 ≡ suc (k + 1) = omega arith in ap (λ (n : ℕ). get_or (p ∷ ps) n d) same

tail_in_order : (p : Plain) (ps : List Plain) → AreInTextOrder (p ∷ ps) → AreInTextOrder ps
tail_in_order p ps rise k d low within =
    subst (λ (q : Plain). is_before q (get_or ps k d) ≡ false) (next_but_one p ps k d) (rise (suc k) d (omega arith) (omega arith))

rise_from : (ps : List Plain) → AreInTextOrder ps → Rise ps
rise_from [] rise = tt
rise_from (p ∷ ps) rise =
    (recursion_from_All (λ q. is_before q p ≡ false) ps (λ k d within. sorted_far is_before before_weak (p ∷ ps) rise 0 (suc k) d (omega arith) (omega arith)), rise_from ps (tail_in_order p ps rise))

in_order_from : (ps : List Plain) → Rise ps → AreInTextOrder ps
in_order_from [] rise k d low within = absurd (omega arith)
in_order_from (p ∷ []) rise k d low within = absurd (omega arith)
in_order_from (p ∷ q ∷ ps) rise zero d low within = rise.0.0
in_order_from (p ∷ q ∷ ps) rise (suc k) d low within =
    subst (λ (r : Plain). is_before r (get_or (q ∷ ps) k d) ≡ false) (sym (next_but_one p (q ∷ ps) k d)) (in_order_from (q ∷ ps) rise.1 k d (omega arith) (omega arith))

-- ---- what holds of each element

all_inserted : (P : Plain → Type 0) (p : Plain) (qs : List Plain) → P p → AllByRecursion P qs → AllByRecursion P (insert_plain p qs)
all_inserted P p [] here each = (here, tt)
all_inserted P p (q ∷ qs) here each = by (is_before q p) (all_inserted P p qs here each.1)
  where
    by : (b : Bool) → AllByRecursion P (insert_plain p qs) → AllByRecursion P (if b then q ∷ insert_plain p qs else p ∷ q ∷ qs)
    by false rest = (here, each)
    by true rest = (each.0, rest)

-- what holds of each element holds of each in their order
pub all_ordered : (P : Plain → Type 0) (ps : List Plain) → AllByRecursion P ps → AllByRecursion P (in_text_order ps)
all_ordered P [] each = tt
all_ordered P (p ∷ ps) each = all_inserted P p (in_text_order ps) each.0 (all_ordered P ps each.1)

-- ---- the order rises

later : (p q : Plain) (qs : List Plain) → is_before q p ≡ false → AllByRecursion (λ r. is_before r q ≡ false) qs → AllByRecursion (λ r. is_before r p ≡ false) qs
later p q [] h each = tt
later p q (r ∷ qs) h each = (before_weak.chain r q p each.0 h, later p q qs h each.1)

rise_inserted : (p : Plain) (qs : List Plain) → Rise qs → Rise (insert_plain p qs)
rise_inserted p [] rise = (tt, tt)
rise_inserted p (q ∷ qs) rise = by (is_before q p) refl (rise_inserted p qs rise.1)
  where
    by : (b : Bool) → is_before q p ≡ b → Rise (insert_plain p qs) → Rise (if b then q ∷ insert_plain p qs else p ∷ q ∷ qs)
    by false h rest = ((h, later p q qs h rise.0), rise)
    by true h rest = (all_inserted (λ r. is_before r q ≡ false) p qs (before_weak.one_way q p h) rise.0, rest)

rise_ordered : (ps : List Plain) → Rise (in_text_order ps)
rise_ordered [] = tt
rise_ordered (p ∷ ps) = rise_inserted p (in_text_order ps) (rise_ordered ps)

-- elements put into the order of their texts are in it
pub ordered_rises : (ps : List Plain) → AreInTextOrder (in_text_order ps)
ordered_rises ps = in_order_from (in_text_order ps) (rise_ordered ps)

-- ---- and is stable

exchanged : (p q : Plain) (rest : List Plain) (a b : Bool) → (a ≡ true → b ≡ true → ⊥)
    → cond b (q ∷ cond a (p ∷ rest) rest) (cond a (p ∷ rest) rest) ≡ cond a (p ∷ cond b (q ∷ rest) rest) (cond b (q ∷ rest) rest)
exchanged p q rest false false apart = refl
exchanged p q rest false true apart = refl
exchanged p q rest true false apart = refl
exchanged p q rest true true apart = absurd (apart refl refl)

apart_from : (x p q : Plain) → is_before q p ≡ true → tied x p ≡ true → tied x q ≡ true → ⊥
apart_from x p q before one other =
    let over_p = both_false (is_before x p) (is_before p x) one in
    let over_q = both_false (is_before x q) (is_before q x) other in
    let never = before_weak.chain q x p over_q.1 over_p.0 in
    cc

stable_inserted : (x p : Plain) (qs : List Plain) → filter (tied x) (insert_plain p qs) ≡ filter (tied x) (p ∷ qs)
stable_inserted x p [] = refl
stable_inserted x p (q ∷ qs) = by (is_before q p) refl (stable_inserted x p qs)
  where
    by : (b : Bool) → is_before q p ≡ b → filter (tied x) (insert_plain p qs) ≡ filter (tied x) (p ∷ qs)
        → filter (tied x) (if b then q ∷ insert_plain p qs else p ∷ q ∷ qs) ≡ filter (tied x) (p ∷ q ∷ qs)
    by false h rest = refl
    by true h rest =
        ap (λ (rs : List Plain). cond (tied x q) (q ∷ rs) rs) rest ∙ exchanged p q (filter (tied x) qs) (tied x p) (tied x q) (apart_from x p q h)

stable_ordered : (x : Plain) (ps : List Plain) → filter (tied x) (in_text_order ps) ≡ filter (tied x) ps
stable_ordered x [] = refl
stable_ordered x (p ∷ ps) = stable_inserted x p (in_text_order ps) ∙ ap (λ (rs : List Plain). cond (tied x p) (p ∷ rs) rs) (stable_ordered x ps)

-- ---- a stable order is the only one

none_tied : (x : Plain) (ys : List Plain) → AllByRecursion (λ r. is_before x r ≡ true) ys → filter (tied x) ys ≡ []
none_tied x [] each = refl
none_tied x (y ∷ ys) each = rw each.0 (none_tied x ys each.1)

all_behind : (x y : Plain) (ys : List Plain) → is_before x y ≡ true → AllByRecursion (λ r. is_before r y ≡ false) ys → AllByRecursion (λ r. is_before x r ≡ true) ys
all_behind x y [] h each = tt
all_behind x y (r ∷ ys) h each = (by (is_before x r) refl, all_behind x y ys h each.1)
  where
    by : (b : Bool) → is_before x r ≡ b → is_before x r ≡ true
    by true less = less
    by false less = let never = before_weak.chain x r y less each.0 in absurd (cc)

-- an element before the first of these ties with none
no_tie : (x y : Plain) (ys : List Plain) → is_before x y ≡ true → Rise (y ∷ ys) → filter (tied x) (y ∷ ys) ≡ []
no_tie x y ys h rise = none_tied x (y ∷ ys) (h, all_behind x y ys h rise.0)

ties_with_itself : (x : Plain) (xs : List Plain) → filter (tied x) (x ∷ xs) ≡ x ∷ filter (tied x) xs
ties_with_itself x xs = rw (tied_itself x) refl

same_tail : (x : Plain) (b : Bool) (xs ys : List Plain) → cond b (x ∷ xs) xs ≡ cond b (x ∷ ys) ys → xs ≡ ys
same_tail x false xs ys h = h
same_tail x true xs ys h = cc

same_first : (x y : Plain) (xs ys : List Plain) → Rise (x ∷ xs) → Rise (y ∷ ys) → ((z : Plain) → filter (tied z) (x ∷ xs) ≡ filter (tied z) (y ∷ ys)) → x ≡ y
same_first x y xs ys rise_x rise_y same = by (is_before x y) (is_before y x) refl refl
  where
    by : (a b : Bool) → is_before x y ≡ a → is_before y x ≡ b → x ≡ y
    by true b h g = let never = sym (ties_with_itself x xs) ∙ same x ∙ no_tie x y ys h rise_y in absurd (cc)
    by false true h g = let never = sym (ties_with_itself y ys) ∙ sym (same y) ∙ no_tie y x xs g rise_x in absurd (cc)
    by false false h g =
        let both : tied x y ≡ true = rw (h, g) refl in
        let heads : x ∷ filter (tied x) xs ≡ y ∷ filter (tied x) ys = sym (ties_with_itself x xs) ∙ same x ∙ rw both refl in
        cc

same_order : (xs ys : List Plain) → Rise xs → Rise ys → ((z : Plain) → filter (tied z) xs ≡ filter (tied z) ys) → xs ≡ ys
same_order [] [] rise_x rise_y same = refl
same_order [] (y ∷ ys) rise_x rise_y same = let never = same y ∙ ties_with_itself y ys in absurd (cc)
same_order (x ∷ xs) [] rise_x rise_y same = let never = sym (same x) ∙ ties_with_itself x xs in absurd (cc)
same_order (x ∷ xs) (y ∷ ys) rise_x rise_y same =
    let first = same_first x y xs ys rise_x rise_y same in
    let rest = same_order xs ys rise_x.1 rise_y.1
    (λ z. same_tail x (tied z x) (filter (tied z) xs) (filter (tied z) ys) (same z ∙ ap (λ (w : Plain). filter (tied z) (w ∷ ys)) (sym first))) in
    λ i. first i ∷ rest i

-- a stable sort gives the elements in the order of their texts
pub sort_is : (given sorted : List Plain) → AreInTextOrder sorted → IsStableBy is_before given sorted → sorted ≡ in_text_order given
sort_is given sorted rise stable =
    same_order sorted (in_text_order given) (rise_from sorted rise) (rise_ordered given) (λ z. stable z ∙ sym (stable_ordered z given))

-- elements that are in the order of their texts stay as they are
pub already_ordered : (ps : List Plain) → AreInTextOrder ps → in_text_order ps ≡ ps
already_ordered ps rise = sym (sort_is ps ps rise (λ x. refl))

length-inserted : (p : Plain) (qs : List Plain) → length (insert_plain p qs) ≡ suc (length qs)
length-inserted p [] = refl
length-inserted p (q ∷ qs) = by (is_before q p) (length-inserted p qs)
  where
    by : (b : Bool) → length (insert_plain p qs) ≡ suc (length qs) → length (if b then q ∷ insert_plain p qs else p ∷ q ∷ qs) ≡ suc (length (q ∷ qs))
    by false rest = refl
    by true rest = ap suc rest

-- they are as many as before
pub length-in_text_order : (ps : List Plain) → length (in_text_order ps) ≡ length ps
length-in_text_order [] = refl
length-in_text_order (p ∷ ps) = length-inserted p (in_text_order ps) ∙ ap suc (length-in_text_order ps)
