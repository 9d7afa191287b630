-- Lists in the order of keys, and how a search by halves compares them.
use Rattle.std.proofs.Common.{◌≡◌, ℕ, zero, suc, ◌<◌, ◌≤◌, List, [], ◌∷◌, length, map, get_or, ◌⊎◌, inl, inr, refl, sym, ◌∙◌, ap, arith}
use Rattle.std.specs.declared.cmp.Ordering.{Ordering}
use Rattle.std.specs.declared.cmp.Ordering.TheVariants.{Less, Equal, Greater}
use Rattle.std.specs.Ordering.{ordering_index, ordering_reverse}
use Rattle.std.specs.Cmp.{IsTotalOrder}
use Rattle.std.specs.List.{AllByRecursion}
use Rattle.std.specs.List.Sorted.{IsStrictlySortedBy, IsNonDecreasingBy}
use Rattle.std.proofs.lemmas.Bool.{cases_lt}

-- a key that is less than all is less than that of each element
pub later_key : {K X : Type 0} (cmp : K → K → Ordering) (key : X → K) (k : K) (xs : List X) (i : ℕ) (d : X)
    → AllByRecursion (λ l. cmp k l ≡ Less) (map key xs) → i < length xs → cmp k (key (get_or xs i d)) ≡ Less
later_key cmp key k [] i d h within = absurd (omega arith)
later_key cmp key k (x ∷ xs) zero d h within = h.0
later_key cmp key k (x ∷ xs) (suc i) d h within = later_key cmp key k xs i d h.1 (omega arith)

-- of two elements the earlier has the lesser key
pub key_rises : {K X : Type 0} (cmp : K → K → Ordering) (key : X → K) (xs : List X) (i j : ℕ) (d : X)
    → IsStrictlySortedBy cmp (map key xs) → i < j → j < length xs → cmp (key (get_or xs i d)) (key (get_or xs j d)) ≡ Less
unfolding IsStrictlySortedBy
key_rises cmp key [] i j d sorted lt within = absurd (omega arith)
key_rises cmp key (x ∷ xs) i zero d sorted lt within = absurd (omega arith)
key_rises cmp key (x ∷ xs) zero (suc j) d sorted lt within = later_key cmp key (key x) xs j d sorted.0 (omega arith)
key_rises cmp key (x ∷ xs) (suc i) (suc j) d sorted lt within = key_rises cmp key xs i j d sorted.1 (omega arith) (omega arith)

-- the other way round
pub turned_less : {K : Type 0} {cmp : K → K → Ordering} → IsTotalOrder cmp → (a b : K) → cmp a b ≡ Less → cmp b a ≡ Greater
turned_less total a b less = total.antisymm b a ∙ ap ordering_reverse less

pub turned_greater : {K : Type 0} {cmp : K → K → Ordering} → IsTotalOrder cmp → (a b : K) → cmp a b ≡ Greater → cmp b a ≡ Less
turned_greater total a b greater = total.antisymm b a ∙ ap ordering_reverse greater

pub turned_equal : {K : Type 0} {cmp : K → K → Ordering} → IsTotalOrder cmp → (a b : K) → cmp a b ≡ Equal → cmp b a ≡ Equal
turned_equal total a b same = total.antisymm b a ∙ ap ordering_reverse same

at_least_one : (o : Ordering) → o ≡ Greater → 1 ≤ ordering_index o
at_least_one o h = rw h (omega arith)

two : (o : Ordering) → o ≡ Greater → ordering_index o ≡ 2
two o h = rw h refl

-- a greater key compares no less with a third
rises_from : {K : Type 0} {cmp : K → K → Ordering} → IsTotalOrder cmp → (a b x : K) (o : Ordering) → cmp a x ≡ o → cmp a b ≡ Less → ordering_index o ≤ ordering_index (cmp b x)
rises_from total a b x Less same below = omega arith
rises_from {cmp = cmp} total a b x Equal same below =
    let before : cmp x b ≡ Less = sym (total.congr a x b same) ∙ below in
    at_least_one _ (turned_less total x b before)
rises_from {cmp = cmp} total a b x Greater same below =
    let before : cmp x b ≡ Less = total.trans x a b (turned_greater total a x same) below in
    let top = two _ (turned_less total x b before) in
    omega (arith, top)

-- where keys rise, their comparisons with one key do not fall
pub comparisons_rise : {K X : Type 0} {cmp : K → K → Ordering} → IsTotalOrder cmp → (key : X → K) (xs : List X) (x : K)
    → IsStrictlySortedBy cmp (map key xs) → IsNonDecreasingBy (λ n. ordering_index (cmp (key n) x)) xs
comparisons_rise {cmp = cmp} total key xs x sorted i j d le within = at (cases_lt i j)
  where
    at : (i < j) ⊎ (j ≤ i) → ordering_index (cmp (key (get_or xs i d)) x) ≤ ordering_index (cmp (key (get_or xs j d)) x)
    at (inl lt) = rises_from total (key (get_or xs i d)) (key (get_or xs j d)) x _ refl (key_rises cmp key xs i j d sorted lt within)
    at (inr ge) = let same : i ≡ j = omega arith in omega (arith, ap (λ k. ordering_index (cmp (key (get_or xs k d)) x)) same)
