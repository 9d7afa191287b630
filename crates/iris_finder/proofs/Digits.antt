-- Numbers of a few digits, as their digits write them.
use Rattle.std.proofs.Common.{◌≡◌, ℕ, suc, ◌+◌, ◌-◌, ◌*◌, ◌^◌, ◌<◌, ◌≤◌, arith, List, [], ◌∷◌, ◌++◌, take, get_or, length, true, false, Bool, ◌&&◌, nat_le, ap, sym, ◌∙◌, refl}
use Rattle.std.specs.Str.Parse.{digits_value}
use Rattle.std.specs.Char.{digit_value}
use Rattle.std.specs.Int.{IsInRange}
use Rattle.std.proofs.lemmas.Str.{digit_value_digit}
use Rattle.std.proofs.lemmas.Int.Digits.{digits_value_push}
use Rattle.std.proofs.lemmas.List.{take_more}
use Rattle.std.proofs.lemmas.Bool.{leb-true}
use Rattle.std.proofs.Math.Nat.{pow-le-pow_right, pow-suc}
use Rattle.iris_finder.specs.Tariff.{is_digit}

-- a number of up to 7 digits has room for one more
pub below_limit : (n i : ℕ) → i ≤ 7 → n < 10 ^ i → n < 10000000
below_limit n i few small = let most : 10 ^ i ≤ 10 ^ 7 = pow-le-pow_right (omega arith) few in omega (arith, most)

both : (a b : Bool) → (a && b) ≡ true → (a ≡ true) × (b ≡ true)
both true b h = (refl, h)
both false b h = absurd (cc)

digit_range : (b : ℕ) → is_digit b ≡ true → IsInRange 48 57 b
digit_range b h = let two = both (nat_le 48 b) (nat_le b 57) h in (leb-true 48 b two.0, leb-true b 57 two.1)

-- no digit is above 9
pub digit_bound : (b : ℕ) → is_digit b ≡ true → b ≤ 57
digit_bound b h = (digit_range b h).1

-- one digit more
pub one_digit : (ds : List ℕ) (i n d : ℕ) → i < length ds → is_digit (get_or ds i 0) ≡ true → d ≡ get_or ds i 0 - 48 → n ≡ digits_value 10 (take i ds) → n * 10 + d ≡ digits_value 10 (take (i + 1) ds)
one_digit ds i n d within is value h =
    let range : IsInRange 48 57 (get_or ds i 0) = digit_range (get_or ds i 0) is in
    let digit : digit_value (get_or ds i 0) + 48 ≡ get_or ds i 0 = digit_value_digit (get_or ds i 0) range in
    let push : digits_value 10 (take i ds ++ (get_or ds i 0 ∷ [])) ≡ digits_value 10 (take i ds) * 10 + digit_value (get_or ds i 0) = digits_value_push 10 (take i ds) (get_or ds i 0) in
    let more : take (i + 1) ds ≡ take i ds ++ (get_or ds i 0 ∷ []) = take_more ds i 0 within in
    let whole : digits_value 10 (take (i + 1) ds) ≡ digits_value 10 (take i ds) * 10 + digit_value (get_or ds i 0) = ap (digits_value 10) more ∙ push in
    omega (arith, whole, digit, h, value)

-- and it has one place more
pub one_place : (n d i b : ℕ) → n < 10 ^ i → b ≤ 57 → d ≡ b - 48 → n * 10 + d < 10 ^ (i + 1)
one_place n d i b small upto value =
    let next : suc i ≡ i + 1 = omega arith in
    let e : 10 ^ (i + 1) ≡ 10 ^ i * 10 = ap (λ m. 10 ^ m) (sym next) ∙ pow-suc 10 i in
    omega (arith, e)

-- the greatest that 8 digits write
pub most_digits : (n i : ℕ) → i ≤ 8 → n < 10 ^ i → n < 100000000
most_digits n i few small = let most : 10 ^ i ≤ 10 ^ 8 = pow-le-pow_right (omega arith) few in omega (arith, most)
