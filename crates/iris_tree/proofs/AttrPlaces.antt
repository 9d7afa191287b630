-- Where an attribute stands among others, and what changes there do.
use Rattle.std.proofs.Common.{◌≡◌, ℕ, zero, suc, ◌<◌, ◌≤◌, List, [], ◌∷◌, length, map, get_or, Some, None, Result, Ok, Err, IfOk, IfErr, refl, ap, subst, ◌∙◌, arith}
use Rattle.std.specs.Prelude.{insert, remove, slice_set}
use Rattle.std.specs.declared.cmp.Ordering.TheVariants.{Less}
use Rattle.std.specs.Ordering.{ordering_reverse}
use Rattle.std.specs.Cmp.Lexicographic.{nat_list_cmp_total}
use Rattle.std.specs.List.{AllByRecursion}
use Rattle.std.specs.List.Sorted.{IsStrictlySortedBy, IsSearchInRange, IsBinarySearchResult}
use Rattle.iris_tree.proofs.Rising.{key_rises, turned_less, turned_greater, turned_equal, comparisons_rise}
use Rattle.iris_tree.specs.Attrs.{Pairs, value_of, with_attr, without_attr, name_cmp, AreInNameOrder, AreLessUpTo, StandsAt, WouldStandAt}

-- all these names are greater
abbrev pub AreGreater : List ℕ → Pairs → Type 0
AreGreater name pairs = AllByRecursion (λ other. name_cmp name other ≡ Less) (map (λ pair. pair.0) pairs)

-- ---- the rest of a list

stands_below : (p : List ℕ × List ℕ) (ps : Pairs) (name : List ℕ) (at : ℕ) → StandsAt (p ∷ ps) name (suc at) → StandsAt ps name at
stands_below p ps name at h = (omega (arith, h.0), (λ i d lt. h.1 (suc i) d (omega arith)), h.2)

would_stand_below : (p : List ℕ × List ℕ) (ps : Pairs) (name : List ℕ) (at : ℕ) → WouldStandAt (p ∷ ps) name (suc at) → WouldStandAt ps name at
would_stand_below p ps name at h = (omega (arith, h.0), (λ i d lt. h.1 (suc i) d (omega arith)), (λ d lt. h.2 d (omega arith)))

-- what a search by halves for a name says
pub name_searched : (ps : Pairs) (name : List ℕ) (r : Result ℕ ℕ) → AreInNameOrder ps → IsSearchInRange r (length ps) → IsBinarySearchResult (λ p. name_cmp p.0 name) ps r
    → IfOk r (StandsAt ps name) × IfErr r (WouldStandAt ps name)
name_searched ps name (Ok at) sorted within same =
    let before : AreLessUpTo at ps name = λ i d lt.
    let less : name_cmp (get_or ps i d).0 (get_or ps at d).0 ≡ Less = key_rises name_cmp (λ p. p.0) ps i at d sorted lt within in
    nat_list_cmp_total.congr name (get_or ps at d).0 (get_or ps i d).0 (turned_equal nat_list_cmp_total (get_or ps at d).0 name (same d))
    ∙ turned_less nat_list_cmp_total (get_or ps i d).0 (get_or ps at d).0 less in
    ((within, before, (λ d. turned_equal nat_list_cmp_total (get_or ps at d).0 name (same d))), tt)
name_searched ps name (Err at) sorted within parted =
    let parts = parted (comparisons_rise nat_list_cmp_total (λ p. p.0) ps name sorted) in (
      tt,
      (
        within,
        (λ i d lt. turned_less nat_list_cmp_total (get_or ps i d).0 name (parts.0 i d (omega arith) lt)),
        (λ d lt. turned_greater nat_list_cmp_total (get_or ps at d).0 name (parts.1 at d (omega arith) lt)),
      ),
    )

-- ---- equal lists and names

pub stands_at_same : (xs ps : Pairs) (m name : List ℕ) (at : ℕ) → xs ≡ ps → m ≡ name → StandsAt xs m at → StandsAt ps name at
stands_at_same xs ps m name at same named h = subst (λ (n : List ℕ). StandsAt ps n at) named (subst (λ (qs : Pairs). StandsAt qs m at) same h)

pub would_stand_at_same : (xs ps : Pairs) (m name : List ℕ) (at : ℕ) → xs ≡ ps → m ≡ name → WouldStandAt xs m at → WouldStandAt ps name at
would_stand_at_same xs ps m name at same named h = subst (λ (n : List ℕ). WouldStandAt ps n at) named (subst (λ (qs : Pairs). WouldStandAt qs m at) same h)

-- ---- an attribute that is there

-- its value
pub value_of-there : (ps : Pairs) (name : List ℕ) (at : ℕ) (d : List ℕ × List ℕ) → StandsAt ps name at → value_of ps name ≡ Some (get_or ps at d).1
value_of-there [] name at d h = absurd (omega (arith, h.0))
value_of-there (p ∷ ps) name zero d h = rw (h.2 p) refl
value_of-there (p ∷ ps) name (suc at) d h = rw (h.1 0 p (omega arith)) (value_of-there ps name at d (stands_below p ps name at h))

-- with another value
pub with_attr-there : (ps : Pairs) (name value : List ℕ) (at : ℕ) (d : List ℕ × List ℕ) → StandsAt ps name at → with_attr ps name value ≡ slice_set ps at ((get_or ps at d).0, value)
with_attr-there [] name value at d h = absurd (omega (arith, h.0))
with_attr-there (p ∷ ps) name value zero d h = rw (h.2 p) refl
with_attr-there (p ∷ ps) name value (suc at) d h = rw (h.1 0 p (omega arith)) (ap (λ (qs : Pairs). p ∷ qs) (with_attr-there ps name value at d (stands_below p ps name at h)))

-- without it
pub without_attr-there : (ps : Pairs) (name : List ℕ) (at : ℕ) → StandsAt ps name at → without_attr ps name ≡ remove ps at
without_attr-there [] name at h = absurd (omega (arith, h.0))
without_attr-there (p ∷ ps) name zero h = rw (h.2 p) refl
without_attr-there (p ∷ ps) name (suc at) h = rw (h.1 0 p (omega arith)) (ap (λ (qs : Pairs). p ∷ qs) (without_attr-there ps name at (stands_below p ps name at h)))

-- ---- an attribute that is absent

greater_too : (name other : List ℕ) (ps : Pairs) → name_cmp name other ≡ Less → AreGreater other ps → AreGreater name ps
greater_too name other [] less h = tt
greater_too name other (p ∷ ps) less h = (nat_list_cmp_total.trans name other p.0 less h.0, greater_too name other ps less h.1)

none_greater : (name : List ℕ) (ps : Pairs) → AreGreater name ps → value_of ps name ≡ None
none_greater name [] h = refl
none_greater name (p ∷ ps) h = rw h.0 (none_greater name ps h.1)

stays_greater : (name : List ℕ) (ps : Pairs) → AreGreater name ps → without_attr ps name ≡ ps
stays_greater name [] h = refl
stays_greater name (p ∷ ps) h = rw h.0 (ap (λ (qs : Pairs). p ∷ qs) (stays_greater name ps h.1))

-- all from its place on are greater
greater_from : (p : List ℕ × List ℕ) (ps : Pairs) (name : List ℕ) → AreInNameOrder (p ∷ ps) → WouldStandAt (p ∷ ps) name 0 → AreGreater name (p ∷ ps)
unfolding IsStrictlySortedBy
greater_from p ps name sorted h = let less = h.2 p (omega arith) in (less, greater_too name p.0 ps less sorted.0)

-- it has no value
pub value_of-absent : (ps : Pairs) (name : List ℕ) (at : ℕ) → AreInNameOrder ps → WouldStandAt ps name at → value_of ps name ≡ None
unfolding IsStrictlySortedBy
value_of-absent [] name at sorted h = refl
value_of-absent (p ∷ ps) name zero sorted h = none_greater name (p ∷ ps) (greater_from p ps name sorted h)
value_of-absent (p ∷ ps) name (suc at) sorted h = rw (h.1 0 p (omega arith)) (value_of-absent ps name at sorted.1 (would_stand_below p ps name at h))

-- taking it away leaves all as it was
pub without_attr-absent : (ps : Pairs) (name : List ℕ) (at : ℕ) → AreInNameOrder ps → WouldStandAt ps name at → without_attr ps name ≡ ps
unfolding IsStrictlySortedBy
without_attr-absent [] name at sorted h = refl
without_attr-absent (p ∷ ps) name zero sorted h = stays_greater name (p ∷ ps) (greater_from p ps name sorted h)
without_attr-absent (p ∷ ps) name (suc at) sorted h = rw (h.1 0 p (omega arith)) (ap (λ (qs : Pairs). p ∷ qs) (without_attr-absent ps name at sorted.1 (would_stand_below p ps name at h)))

-- a new one is put at its place
pub with_attr-absent : (ps : Pairs) (name value : List ℕ) (at : ℕ) → WouldStandAt ps name at → with_attr ps name value ≡ insert ps at (name, value)
with_attr-absent [] name value zero h = refl
with_attr-absent [] name value (suc at) h = absurd (omega (arith, h.0))
with_attr-absent (p ∷ ps) name value zero h = rw (h.2 p (omega arith)) refl
with_attr-absent (p ∷ ps) name value (suc at) h = rw (h.1 0 p (omega arith)) (ap (λ (qs : Pairs). p ∷ qs) (with_attr-absent ps name value at (would_stand_below p ps name at h)))

-- ---- the order is kept

less_than_new : (other name value : List ℕ) (ps : Pairs) (at : ℕ) → name_cmp other name ≡ Less → at ≤ length ps → AreGreater other ps → AreGreater other (insert ps at (name, value))
less_than_new other name value [] zero less within h = (less, tt)
less_than_new other name value [] (suc at) less within h = absurd (omega arith)
less_than_new other name value (p ∷ ps) zero less within h = (less, h)
less_than_new other name value (p ∷ ps) (suc at) less within h = (h.0, less_than_new other name value ps at less (omega arith) h.1)

-- with none
pub none_ordered : AreInNameOrder []
unfolding IsStrictlySortedBy
none_ordered = tt

-- with a new one at its place
pub ordered_with_new : (ps : Pairs) (name value : List ℕ) (at : ℕ) → AreInNameOrder ps → WouldStandAt ps name at → AreInNameOrder (insert ps at (name, value))
unfolding IsStrictlySortedBy
ordered_with_new [] name value zero sorted h = (tt, tt)
ordered_with_new [] name value (suc at) sorted h = absurd (omega (arith, h.0))
ordered_with_new (p ∷ ps) name value zero sorted h = (greater_from p ps name sorted h, sorted)
ordered_with_new (p ∷ ps) name value (suc at) sorted h =
    let less : name_cmp p.0 name ≡ Less = nat_list_cmp_total.antisymm p.0 name ∙ ap ordering_reverse (h.1 0 p (omega arith)) in
    (less_than_new p.0 name value ps at less (omega (arith, h.0)) sorted.0, ordered_with_new ps name value at sorted.1 (would_stand_below p ps name at h))

greater_without : (other : List ℕ) (ps : Pairs) (at : ℕ) → at < length ps → AreGreater other ps → AreGreater other (remove ps at)
greater_without other [] at within h = absurd (omega arith)
greater_without other (p ∷ ps) zero within h = h.1
greater_without other (p ∷ ps) (suc at) within h = (h.0, greater_without other ps at (omega arith) h.1)

-- without one of them
pub ordered_without : (ps : Pairs) (at : ℕ) → at < length ps → AreInNameOrder ps → AreInNameOrder (remove ps at)
unfolding IsStrictlySortedBy
ordered_without [] at within sorted = absurd (omega arith)
ordered_without (p ∷ ps) zero within sorted = sorted.1
ordered_without (p ∷ ps) (suc at) within sorted = (greater_without p.0 ps at (omega arith) sorted.0, ordered_without ps at (omega arith) sorted.1)

greater_with_value : (other : List ℕ) (ps : Pairs) (at : ℕ) (value : List ℕ) (d : List ℕ × List ℕ) → AreGreater other ps → AreGreater other (slice_set ps at ((get_or ps at d).0, value))
greater_with_value other [] at value d h = tt
greater_with_value other (p ∷ ps) zero value d h = (h.0, h.1)
greater_with_value other (p ∷ ps) (suc at) value d h = (h.0, greater_with_value other ps at value d h.1)

-- with another value of one of them
pub ordered_with_value : (ps : Pairs) (at : ℕ) (value : List ℕ) (d : List ℕ × List ℕ) → AreInNameOrder ps → AreInNameOrder (slice_set ps at ((get_or ps at d).0, value))
unfolding IsStrictlySortedBy
ordered_with_value [] at value d sorted = tt
ordered_with_value (p ∷ ps) zero value d sorted = sorted
ordered_with_value (p ∷ ps) (suc at) value d sorted = (greater_with_value p.0 ps at value d sorted.0, ordered_with_value ps at value d sorted.1)
