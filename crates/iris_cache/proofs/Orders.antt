-- Lists of names without repetition.
use Rattle.std.proofs.Common.{◌≡◌, ℕ, zero, suc, ◌-◌, Bool, true, false, cond, not, ◌&&◌, ◌||◌, List, [], ◌∷◌, length, take, filter, Option, Some, None, refl, sym, ap, subst, ◌∙◌, arith}
use Rattle.std.specs.Prelude.{slice_get}
use Rattle.std.specs.List.{IsDistinct, AllByRecursion}
use Rattle.std.specs.Cmp.Lexicographic.{pointwise}
use Rattle.std.proofs.lemmas.Map.Keys.{IsDistinct-tail, IsDistinct-head, IsDistinct-cons}
use Rattle.std.proofs.lemmas.Map.Views.{any-filter_same}
use Rattle.iris_base.specs.declared.name.Label.{Label}
use Rattle.iris_base.specs.NameOrder.{label_eq, names_equiv}
use Rattle.iris_fragment.proofs.Names.{alike_self, alike_exact}
use Rattle.iris_cache.specs.Order.{Order, lists, without, without_any, in_front, last_of}

-- whether two names are alike
abbrev pub alike : List Label → List Label → Bool
alike = pointwise label_eq

-- ---- tests

pub or_false : (a b : Bool) → (a || b) ≡ false → (a ≡ false) × (b ≡ false)
or_false true b h = absurd (cc)
or_false false b h = (refl, h)

-- what is apart from each name is not listed
pub absent_if_apart : (order : Order) (name : List Label) → AllByRecursion (λ y. alike name y ≡ false) order → lists order name ≡ false
absent_if_apart [] name far = refl
absent_if_apart (x ∷ xs) name far = rw far.0 (absent_if_apart xs name far.1)

-- ---- a name left out

-- a name that is not there
pub without_absent : (order : Order) (name : List Label) → lists order name ≡ false → without order name ≡ order
without_absent [] name h = refl
without_absent (x ∷ xs) name h =
    let both = or_false (alike name x) (lists xs name) h in
    rw both.0 (ap (λ (l : Order). x ∷ l) (without_absent xs name both.1))

-- what is listed without a name
pub lists_without : (order : Order) (name other : List Label) → lists (without order name) other ≡ (not (alike name other) && lists order other)
lists_without order name other =
    any-filter_same (alike other) (λ o. not (alike name o)) (not (alike name other)) (λ k h. ap (λ (n : List Label). not (alike name n)) (sym (alike_exact other k h))) order

swapped : (a b : Bool) (x : List Label) (xs ys : Order) (m n : List Label) → alike m x ≡ a → alike n x ≡ b → filter (λ o. not (alike n o)) xs ≡ filter (λ o. not (alike m o)) ys
    → filter (λ o. not (alike n o)) (cond (not a) (x ∷ xs) xs) ≡ filter (λ o. not (alike m o)) (cond (not b) (x ∷ ys) ys)
swapped true true x xs ys m n here there h = h
swapped true false x xs ys m n here there h = rw here h
swapped false true x xs ys m n here there h = rw there h
swapped false false x xs ys m n here there h = rw (here, there) (ap (λ (l : Order). x ∷ l) h)

-- two names are left out in any order
pub without_swapped : (order : Order) (m n : List Label) → without (without order m) n ≡ without (without order n) m
without_swapped [] m n = refl
without_swapped (x ∷ xs) m n = swapped (alike m x) (alike n x) x (without xs m) (without xs n) m n refl refl (without_swapped xs m n)

not_here : (b l : Bool) → b ≡ true → (not b && l) ≡ false
not_here b l h = rw h refl

-- a name is not listed once it was left out
pub absent_without : (order : Order) (name : List Label) → lists (without order name) name ≡ false
absent_without order name = lists_without order name name ∙ not_here _ _ (alike_self name)

-- a name is left out once
pub without_twice : (order : Order) (name : List Label) → without (without order name) name ≡ without order name
without_twice order name = without_absent (without order name) name (absent_without order name)

far_without : (P : List Label → Type 0) (order : Order) (name : List Label) → AllByRecursion P order → AllByRecursion P (without order name)
far_without P [] name far = far
far_without P (x ∷ xs) name far = by (alike name x) (far_without P xs name far.1)
  where
    by : (b : Bool) → AllByRecursion P (without xs name) → AllByRecursion P (cond (not b) (x ∷ without xs name) (without xs name))
    by true rest = rest
    by false rest = (far.0, rest)

-- each name is still there once
pub distinct_without : (order : Order) (name : List Label) → IsDistinct alike order → IsDistinct alike (without order name)
distinct_without [] name once = once
distinct_without (x ∷ xs) name once = by (alike name x) (distinct_without xs name (IsDistinct-tail alike x xs once))
  where
    by : (b : Bool) → IsDistinct alike (without xs name) → IsDistinct alike (cond (not b) (x ∷ without xs name) (without xs name))
    by true rest = rest
    by false rest = IsDistinct-cons alike x (without xs name) (far_without _ xs name (IsDistinct-head alike x xs once)) rest

-- the head of an order is not in its tail
pub absent_head : (x : List Label) (xs : Order) → IsDistinct alike (x ∷ xs) → lists xs x ≡ false
absent_head x xs once = absent_if_apart xs x (IsDistinct-head alike x xs once)

one_less : (b : Bool) (x : List Label) (xs : Order) (name : List Label) → alike name x ≡ b → lists xs x ≡ false → (lists xs name ≡ true → length xs ≡ suc (length (without xs name))) → (b || lists xs name) ≡ true
    → suc (length xs) ≡ suc (length (cond (not b) (x ∷ without xs name) (without xs name)))
one_less true x xs name here far more h = ap (λ (l : Order). suc (length l)) (sym (without_absent xs name (subst (λ (n : List Label). lists xs n ≡ false) (sym (alike_exact name x here)) far)))
one_less false x xs name here far more h = ap suc (more h)

-- the length without a name that is there
pub length_without : (order : Order) (name : List Label) → IsDistinct alike order → lists order name ≡ true → length order ≡ suc (length (without order name))
length_without [] name once h = absurd (cc)
length_without (x ∷ xs) name once h = one_less (alike name x) x xs name refl (absent_head x xs once) (length_without xs name (IsDistinct-tail alike x xs once)) h

-- ---- a name put in front

either_way : (b l : Bool) → (b || (not b && l)) ≡ (b || l)
either_way true l = refl
either_way false l = refl

-- what is listed with a name in front
pub lists_in_front : (order : Order) (name other : List Label) → lists (in_front order name) other ≡ (alike name other || lists order other)
lists_in_front order name other =
    ap (λ (b : Bool). b || lists (without order name) other) (names_equiv.symm other name) ∙ ap (λ (l : Bool). alike name other || l) (lists_without order name other)
    ∙ either_way (alike name other) (lists order other)

apart_from_rest : (xs : Order) (name : List Label) → AllByRecursion (λ y. alike name y ≡ false) (without xs name)
apart_from_rest [] name = tt
apart_from_rest (x ∷ xs) name = by (alike name x) refl (apart_from_rest xs name)
  where
    by : (b : Bool) → alike name x ≡ b → AllByRecursion (λ y. alike name y ≡ false) (without xs name) → AllByRecursion (λ y. alike name y ≡ false) (cond (not b) (x ∷ without xs name) (without xs name))
    by true at rest = rest
    by false at rest = (at, rest)

-- each name is still there once
pub distinct_in_front : (order : Order) (name : List Label) → IsDistinct alike order → IsDistinct alike (in_front order name)
distinct_in_front order name once = IsDistinct-cons alike name (without order name) (apart_from_rest order name) (distinct_without order name once)

-- a name that is not there is put in front of all
pub in_front_absent : (order : Order) (name : List Label) → lists order name ≡ false → in_front order name ≡ name ∷ order
in_front_absent order name h = ap (λ (l : Order). name ∷ l) (without_absent order name h)

-- ---- the last name

listed_at : (xs : Order) (n : ℕ) (x : List Label) → slice_get xs n ≡ Some x → lists xs x ≡ true
listed_at [] n x h = absurd (cc)
listed_at (y ∷ ys) zero x h =
    let is : y ≡ x = cc in
    subst (λ (z : List Label). (alike x z || lists ys x) ≡ true) (sym is) (rw (alike_self x) refl)
listed_at (y ∷ ys) (suc n) x h = or_right (alike x y) (lists ys x) (listed_at ys n x h)
  where
    or_right : (a b : Bool) → b ≡ true → (a || b) ≡ true
    or_right true b h = refl
    or_right false b h = h

-- the last name is listed
pub listed_last : (order : Order) (name : List Label) → last_of order ≡ Some name → lists order name ≡ true
listed_last order name h = listed_at order (length order - 1) name h

apart_from_listed : (x : List Label) (xs : Order) (other : List Label) → lists xs x ≡ false → lists xs other ≡ true → alike other x ≡ false
apart_from_listed x xs other far there = by (alike other x) refl
  where
    by : (b : Bool) → alike other x ≡ b → b ≡ false
    by false at = refl
    by true at =
        let bad : false ≡ true = sym far ∙ subst (λ (n : List Label). lists xs n ≡ true) (alike_exact other x at) there in
        absurd (cc)

-- the names before the last one
front_at : (n : ℕ) (xs : Order) → length xs ≡ suc n → IsDistinct alike xs → take n xs ≡ without_any xs (slice_get xs n)
front_at n [] h once = absurd (omega arith)
front_at zero (x ∷ []) h once = rw (alike_self x) refl
front_at zero (x ∷ y ∷ ys) h once = absurd (omega arith)
front_at (suc n) (x ∷ xs) h once = by (slice_get xs n) refl (front_at n xs (omega arith) (IsDistinct-tail alike x xs once))
  where
    by : (o : Option (List Label)) → slice_get xs n ≡ o → take n xs ≡ without_any xs o → x ∷ take n xs ≡ without_any (x ∷ xs) o
    by None at is = ap (λ (l : Order). x ∷ l) is
    by (Some y) at is = rw (apart_from_listed x xs y (absent_head x xs once) (listed_at xs n y at)) (ap (λ (l : Order). x ∷ l) is)

-- all names but the last
pub front_is_without_last : (order : Order) → IsDistinct alike order → take (length order - 1) order ≡ without_any order (last_of order)
front_is_without_last [] once = refl
front_is_without_last (x ∷ xs) once =
    let most : length (x ∷ xs) - 1 ≡ length xs = omega arith in
    rw most (front_at (length xs) (x ∷ xs) refl once)
