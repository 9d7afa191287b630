-- Counts of minutes: those that pass a test on one day are an interval.
use Rattle.std.proofs.Common.{◌≡◌, ℕ, zero, suc, ◌+◌, ◌-◌, ◌*◌, ◌/◌, ◌%◌, ◌<◌, ◌≤◌, Bool, true, false, ◌&&◌, cond, List, [], ◌∷◌, ◌++◌, refl, sym, ap, ◌∙◌, arith}
use Rattle.std.specs.Prelude.{nat_le, nat_lt, min, max, count_by}
use Rattle.std.specs.List.{range_with_len}
use Rattle.std.proofs.lemmas.Bool.{leb-true, ltb-true, leb-false, ltb-false}
use Rattle.std.proofs.lemmas.List.Sums.{sum_by_push, count_by-le-length}
use Rattle.std.proofs.lemmas.List.FromFn.{length-range_with_len}

-- how many of the first n numbers pass
abbrev pub count_below : (ℕ → Bool) → ℕ → ℕ
count_below p n = count_by p (range_with_len 0 n)

range_more : (a n : ℕ) → range_with_len a (suc n) ≡ range_with_len a n ++ (a + n) ∷ []
range_more a zero = let e : a ≡ a + 0 = omega arith in ap (λ (k : ℕ). k ∷ []) e
range_more a (suc n) =
    let e : (a + 1) + n ≡ a + suc n = omega arith in
    let rest = range_more (a + 1) n in
    ap (λ (ks : List ℕ). a ∷ ks) (rest ∙ ap (λ (k : ℕ). range_with_len (a + 1) n ++ k ∷ []) e)

count_more : (p : ℕ → Bool) (n : ℕ) → count_below p (suc n) ≡ count_below p n + cond (p n) 1 0
count_more p n =
    let e : 0 + n ≡ n = omega arith in
    ap (count_by p) (range_more 0 n ∙ ap (λ (k : ℕ). range_with_len 0 n ++ k ∷ []) e) ∙ sum_by_push (λ k. cond (p k) 1 0) (range_with_len 0 n) n

-- they are at most n
pub count_fits : (p : ℕ → Bool) (n : ℕ) → count_below p n ≤ n
count_fits p n = let few = count_by-le-length p (range_with_len 0 n) in let len = length-range_with_len 0 n in omega (arith, few, len)

-- ---- an interval

step_in : (lo hi at base : ℕ) (x y : Bool) → nat_le lo at ≡ x → nat_lt at hi ≡ y → base ≤ at → (min hi at - max lo base) + cond (x && y) 1 0 ≡ min hi (suc at) - max lo base
step_in lo hi at base true true p q h = let l = leb-true lo at p in let r = ltb-true at hi q in omega arith
step_in lo hi at base true false p q h = let r = ltb-false at hi q in omega arith
step_in lo hi at base false y p q h = let l = leb-false lo at p in omega arith

step_on : (d : Bool) (lo hi at base : ℕ) → base ≤ at → cond d (min hi at - max lo base) 0 + cond (d && (nat_le lo at && nat_lt at hi)) 1 0 ≡ cond d (min hi (suc at) - max lo base) 0
step_on true lo hi at base h = step_in lo hi at base (nat_le lo at) (nat_lt at hi) refl refl h
step_on false lo hi at base h = refl

joined : (c0 c1 m1 d e m2 m3 : ℕ) → c1 ≡ c0 + m1 → d ≡ e → m1 + e ≡ m2 → m3 ≡ m2 → c1 + d ≡ c0 + m3
joined c0 c1 m1 d e m2 m3 p q r s = omega arith

nothing : (d : Bool) (m : ℕ) → m ≡ 0 → cond d m 0 ≡ 0
nothing true m h = h
nothing false m h = refl

-- where the test of each number from base on is that of an interval, or fails, they are as many as the interval has there
pub count_between : (p : ℕ → Bool) (d : Bool) (lo hi base n : ℕ) → ((k : ℕ) → base ≤ k → k < base + n → p k ≡ (d && (nat_le lo k && nat_lt k hi)))
    → count_below p (base + n) ≡ count_below p base + cond d (min hi (base + n) - max lo base) 0
count_between p d lo hi base zero h =
    let e : base + 0 ≡ base = omega arith in
    let none : min hi (base + 0) - max lo base ≡ 0 = omega arith in
    let same = ap (count_below p) e in
    let more = nothing d (min hi (base + 0) - max lo base) none in
    omega (arith, same, more)
count_between p d lo hi base (suc n) h =
    let e : base + suc n ≡ suc (base + n) = omega arith in
    let rest = count_between p d lo hi base n (λ k low high. h k low (omega arith)) in
    let here : p (base + n) ≡ (d && (nat_le lo (base + n) && nat_lt (base + n) hi)) = h (base + n) (omega arith) (omega arith) in
    ap (count_below p) e ∙ count_more p (base + n) ∙ joined (count_below p base) _ _ _ _ _ _ rest (ap (λ (b : Bool). cond b 1 0) here) (step_on d lo hi (base + n) base (omega arith)) (ap (λ (k : ℕ). cond d (min hi k - max lo base) 0) e)

-- ---- days

-- which day a minute is of, counted from the midnight before the first day
pub of_day : (x day : ℕ) → 1440 * day ≤ x → x < 1440 * day + 1440 → x / 1440 ≡ day
of_day x day low high = omega arith

-- which minute of that day it is
pub in_day : (x day : ℕ) → 1440 * day ≤ x → x < 1440 * day + 1440 → x % 1440 ≡ x - 1440 * day
in_day x day low high = omega arith

le_alike : (a b c d : ℕ) → (a ≤ b → c ≤ d) → (c ≤ d → a ≤ b) → nat_le a b ≡ nat_le c d
le_alike a b c d to from = by (nat_le a b) (nat_le c d) refl refl
  where
    by : (x y : Bool) → nat_le a b ≡ x → nat_le c d ≡ y → x ≡ y
    by true true p q = refl
    by false false p q = refl
    by true false p q = let l = leb-false c d q in let r = to (leb-true a b p) in absurd (omega arith)
    by false true p q = let l = leb-false a b p in let r = from (leb-true c d q) in absurd (omega arith)

lt_alike : (a b c d : ℕ) → (a < b → c < d) → (c < d → a < b) → nat_lt a b ≡ nat_lt c d
lt_alike a b c d to from = by (nat_lt a b) (nat_lt c d) refl refl
  where
    by : (x y : Bool) → nat_lt a b ≡ x → nat_lt c d ≡ y → x ≡ y
    by true true p q = refl
    by false false p q = refl
    by true false p q = let l = ltb-false c d q in let r = to (ltb-true a b p) in absurd (omega arith)
    by false true p q = let l = ltb-false a b p in let r = from (ltb-true c d q) in absurd (omega arith)

max_alike : (a b k : ℕ) → nat_le (max a b) k ≡ (nat_le b k && nat_le a k)
max_alike a b k = by (nat_le b k) (nat_le a k) (nat_le (max a b) k) refl refl refl
  where
    by : (x y z : Bool) → nat_le b k ≡ x → nat_le a k ≡ y → nat_le (max a b) k ≡ z → z ≡ (x && y)
    by true true true p q r = refl
    by true true false p q r = let l = leb-false (max a b) k r in let m = leb-true b k p in let n = leb-true a k q in absurd (omega arith)
    by true false true p q r = let l = leb-true (max a b) k r in let n = leb-false a k q in absurd (omega arith)
    by true false false p q r = refl
    by false y true p q r = let l = leb-true (max a b) k r in let n = leb-false b k p in absurd (omega arith)
    by false y false p q r = refl

regroup : (a d b c : Bool) → (((a && d) && b) && c) ≡ (d && ((a && b) && c))
regroup true true b c = refl
regroup true false b c = refl
regroup false true b c = refl
regroup false false b c = refl

-- a minute of the stay passes where it lies between two moments
passes : (free from to m k midnight : ℕ) (d : Bool) → midnight ≤ m + k
    → (((nat_le free k && d) && nat_le from ((m + k) - midnight)) && nat_lt ((m + k) - midnight) to) ≡ (d && (nat_le (max ((midnight + from) - m) free) k && nat_lt k ((midnight + to) - m)))
passes free from to m k midnight d after =
    let opens : nat_le from ((m + k) - midnight) ≡ nat_le ((midnight + from) - m) k = le_alike from ((m + k) - midnight) ((midnight + from) - m) k (λ h. omega arith) (λ h. omega arith) in
    let closes : nat_lt ((m + k) - midnight) to ≡ nat_lt k ((midnight + to) - m) = lt_alike ((m + k) - midnight) to k ((midnight + to) - m) (λ h. omega arith) (λ h. omega arith) in
    ap (λ (b : Bool). ((nat_le free k && d) && b) && nat_lt ((m + k) - midnight) to) opens
    ∙ ap (λ (b : Bool). ((nat_le free k && d) && nat_le ((midnight + from) - m) k) && b) closes
    ∙ regroup (nat_le free k) d (nat_le ((midnight + from) - m) k) (nat_lt k ((midnight + to) - m))
    ∙ ap (λ (b : Bool). d && (b && nat_lt k ((midnight + to) - m))) (sym (max_alike ((midnight + from) - m) free k))

-- the charged minutes before the end of a day are those before its beginning and those of the day
pub one_day_more : (p : ℕ → Bool) (d : Bool) (free from to m stay day : ℕ) → to ≤ 1440
    → ((k : ℕ) → (m + k) / 1440 ≡ day → p k ≡ (((nat_le free k && d) && nat_le from ((m + k) % 1440)) && nat_lt ((m + k) % 1440) to))
    → count_below p (min stay (1440 * day - m)) + cond d (min ((1440 * day + to) - m) stay - max ((1440 * day + from) - m) free) 0 ≡ count_below p (min stay (1440 * (day + 1) - m))
one_day_more p d free from to m stay day fits test =
    let base : ℕ = min stay (1440 * day - m) in
    let top : ℕ = min stay (1440 * (day + 1) - m) in
    let whole : base + (top - base) ≡ top = omega arith in
    let lo : ℕ = max ((1440 * day + from) - m) free in
    let hi : ℕ = (1440 * day + to) - m in
    let between = count_between p d lo hi base (top - base) (λ k low high.
    let after : 1440 * day ≤ m + k = omega arith in
    let before : m + k < 1440 * day + 1440 = omega arith in
    let inside = in_day (m + k) day after before in
    test k (of_day (m + k) day after before)
    ∙ ap (λ (x : ℕ). ((nat_le free k && d) && nat_le from x) && nat_lt x to) inside
    ∙ passes free from to m k (1440 * day) d after) in
    let length : min hi (base + (top - base)) - max lo base ≡ min hi stay - lo = omega arith in
    sym (ap (count_below p) (sym whole) ∙ between ∙ ap (λ (x : ℕ). count_below p base + cond d x 0) length)
