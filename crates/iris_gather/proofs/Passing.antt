-- Going over the numbers of gathers that are ready, in their order.
use Rattle.std.proofs.Common.{◌≡◌, ℕ, ◌<◌, Bool, true, false, not, ◌&&◌, List, [], ◌∷◌, Some, refl, arith}
use Rattle.std.specs.Ordering.{nat_cmp}
use Rattle.std.specs.declared.cmp.Ordering.TheVariants.{Less}
use Rattle.std.specs.BTreeMap.{is_at}
use Rattle.std.specs.List.{AllByRecursion, list_any}
use Rattle.std.specs.List.Sorted.{IsStrictlySortedBy}
use Rattle.std.proofs.lemmas.Bool.{or_from, or_right}
use Rattle.std.proofs.lemmas.Bool.Decides.{nat_tests}
use Rattle.std.proofs.lemmas.Map.Keys.{sorted_head, sorted_tail}
use Rattle.iris_gather.specs.OpenGathers.{OpenGathers, gather_at, is_ready, is_lent, is_due, IsLowestDue}

-- The numbers that are left rise and are of gathers that are ready; each other one that is ready is lent.
pub record IsPassing (gathers : OpenGathers) (left : List ℕ) : Type 0 where
  pub rising : IsStrictlySortedBy nat_cmp left
  pub ready : (n : ℕ) → list_any (is_at (nat_cmp n)) left ≡ true → is_ready (gather_at gathers n) ≡ true
  pub lent : (n : ℕ) → is_ready (gather_at gathers n) ≡ true → list_any (is_at (nat_cmp n)) left ≡ false → is_lent (gather_at gathers n) ≡ true

at_itself : (n : ℕ) → is_at (nat_cmp n) n ≡ true
at_itself n = grind (arith, nat_tests)

apart_below : (m n : ℕ) → m < n → is_at (nat_cmp m) n ≡ false
apart_below m n lt = grind (arith, nat_tests)

below_next : (m n k : ℕ) → m < n → nat_cmp n k ≡ Less → m < k
below_next m n k lt less = grind (arith, nat_tests)

same_at : (m n : ℕ) → is_at (nat_cmp m) n ≡ true → m ≡ n
same_at m n t = grind (arith, nat_tests)

-- a number below the first is not among numbers that rise
none_below : (m n : ℕ) (ks : List ℕ) → m < n → AllByRecursion (λ k. nat_cmp n k ≡ Less) ks → list_any (is_at (nat_cmp m)) ks ≡ false
none_below m n [] lt all = refl
none_below m n (k ∷ ks) lt all = or_from (is_at (nat_cmp m) k) (list_any (is_at (nat_cmp m)) ks) (apart_below m k (below_next m n k lt all.0)) (none_below m n ks lt all.1)

pub lowest-next : (gathers : OpenGathers) (n : ℕ) (left : List ℕ) → IsPassing gathers (n ∷ left) → is_lent (gather_at gathers n) ≡ false → IsLowestDue gathers (Some n)
lowest-next gathers n left passing unlent = (due (is_ready (gather_at gathers n)) (is_lent (gather_at gathers n)) (passing.ready n (grind (arith, at_itself n))) unlent, below)
  where
    due : (r l : Bool) → r ≡ true → l ≡ false → (r && not l) ≡ true
    due r l r-is l-is = rw (r-is, l-is) refl

    not_due : (r l : Bool) → (r ≡ true → l ≡ true) → (r && not l) ≡ false
    not_due true l h = rw (h refl) refl
    not_due false l h = refl

    below : (m : ℕ) → m < n → is_due (gather_at gathers m) ≡ false
    below m lt = not_due (is_ready (gather_at gathers m)) (is_lent (gather_at gathers m))
        (λ r. passing.lent m r (or_from (is_at (nat_cmp m) n) (list_any (is_at (nat_cmp m)) left) (apart_below m n lt) (none_below m n left lt (sorted_head nat_cmp n left passing.rising))))

pub passing-next : (gathers : OpenGathers) (n : ℕ) (left : List ℕ) → IsPassing gathers (n ∷ left) → is_lent (gather_at gathers n) ≡ true → IsPassing gathers left
passing-next gathers n left passing lent =
    record {
      rising = sorted_tail nat_cmp n left passing.rising;
      ready = λ m t. passing.ready m (or_right (is_at (nat_cmp m) n) (list_any (is_at (nat_cmp m)) left) t);
      lent = λ m r none. go m r none (is_at (nat_cmp m) n) refl;
    }
  where
    go : (m : ℕ) → is_ready (gather_at gathers m) ≡ true → list_any (is_at (nat_cmp m)) left ≡ false → (b : Bool) → is_at (nat_cmp m) n ≡ b → is_lent (gather_at gathers m) ≡ true
    go m r none true e = rw (same_at m n e) lent
    go m r none false e = passing.lent m r (or_from (is_at (nat_cmp m) n) (list_any (is_at (nat_cmp m)) left) e none)
