-- Numbers from their digits.
use Rattle.std.proofs.Common.{◌≡◌, ℕ, ◌+◌, ◌*◌, ◌^◌, ◌<◌, ◌≤◌, suc, List, [], ◌∷◌, ◌++◌, refl, ap, sym, ◌∙◌, arith, subst, take, get_or, length, Fits, w64}
use Rattle.std.proofs.lemmas.List.{take_more}
use Rattle.std.proofs.Math.Nat.{pow-succ', pow-le-pow_right}
use Rattle.iris_xpath.specs.Trees.{digit_of, value_after, value_of}
use Rattle.iris_base.specs.declared.limits.TheConstants.{MAX_DIGITS}

-- one digit more
pub value_end : (v : ℕ) (ds : List ℕ) (d : ℕ) → value_after v (ds ++ d ∷ []) ≡ value_after v ds * 10 + digit_of d
value_end v [] d = refl
value_end v (b ∷ ds) d = value_end (v * 10 + digit_of b) ds d

-- the value of one digit more
pub value_more : (ds : List ℕ) (i b d v r : ℕ) → i < length ds → b ≡ get_or ds i d → v ≡ value_of (take i ds) → r ≡ digit_of b → v * 10 + r ≡ value_of (take (i + 1) ds)
value_more ds i b d v r l e h k = rw (take_more ds i d l, ← e) (rw (h, k) (sym (value_end 0 (take i ds) b)))

-- its bound
pub small_more : (v r i : ℕ) → v < 10 ^ i → r ≤ 9 → v * 10 + r < 10 ^ (i + 1)
small_more v r i h k = let s : i + 1 ≡ suc i = omega arith in let p : 10 ^ (i + 1) ≡ 10 * 10 ^ i = ap (λ k. 10 ^ k) s ∙ pow-succ' 10 i in omega (arith, p, h, k)

-- it fits 64 bits
pub fits_more : (v r i : ℕ) → v < 10 ^ i → r ≤ 9 → i < MAX_DIGITS → Fits w64 (v * 10 + r)
fits_more v r i h k l =
    let p : v * 10 + r < 10 ^ (i + 1) = small_more v r i h k in
    let z : 0 < 10 = omega arith in
    let y : i + 1 ≤ MAX_DIGITS = omega arith in
    let q : 10 ^ (i + 1) ≤ 10 ^ MAX_DIGITS = pow-le-pow_right z y in
    omega (arith, p, q)

-- the bound of at most `MAX_DIGITS` digits
pub small_all : (v i : ℕ) → v < 10 ^ i → i ≤ MAX_DIGITS → v < 10 ^ MAX_DIGITS
small_all v i h l = let z : 0 < 10 = omega arith in let q : 10 ^ i ≤ 10 ^ MAX_DIGITS = pow-le-pow_right z l in omega (arith, h, q)

-- ten times the value fits 64 bits
pub fits_times : (v i : ℕ) → v < 10 ^ i → i < MAX_DIGITS → Fits w64 (v * 10)
fits_times v i h l = let e : v * 10 + 0 ≡ v * 10 = omega arith in subst (Fits w64) e (fits_more v 0 i h (omega arith) l)
