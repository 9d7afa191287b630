-- Literals and numbers as they print are read again.
use Rattle.std.proofs.Common.{◌≡◌, ℕ, suc, zero, ℤ, pos, negsuc, neg_ℤ, ◌+◌, ◌*◌, ◌/◌, ◌%◌, ◌^◌, ◌<◌, ◌≤◌, Bool, true, false, ◌||◌, ◌==◌, nat_le, List, [], ◌∷◌, ◌++◌, refl, ap, sym, ◌∙◌, arith, subst, length}
use Rattle.std.proofs.lemmas.Fmt.{decimal_by_steps, length-decimal-le}
use Rattle.std.specs.Fmt.{decimal}
use Rattle.std.specs.List.{list_any}
use Rattle.std.proofs.lemmas.List.Folds.{list_any-append}
use Rattle.iris_xpath.specs.declared.expression.Operand.{Operand}
use Rattle.iris_xpath.specs.declared.expression.Operand.TheVariants as operands
use Rattle.iris_xpath.specs.declared.expression.Expression.{Expression}
use Rattle.iris_xpath.specs.Bytes.{is_digit, is_quote}
use Rattle.iris_xpath.specs.Trees.{number_of, signed, digit_of, value_of, value_after}
use Rattle.iris_xpath.specs.Grammar.{Row, none, more, row, Const, literal, number, negative, const_blank, const_text}
use Rattle.iris_xpath.specs.Spells.{const_tree, Each, HasNo, GoodConst}
use Rattle.iris_xpath.specs.Printed.{operand_text, predicates_text}
use Rattle.iris_xpath.proofs.Digits.{value_end, small_more}
use Rattle.iris_xpath.proofs.Leads.{on_test, is_byte}
use Rattle.std.proofs.Math.Nat.{pow-le-pow_right}
use Rattle.std.proofs.lemmas.Bool.Decides.{nat_tests}
use Rattle.iris_base.specs.declared.limits.TheConstants.{MAX_DIGITS}

-- a constant that is written as the operand prints
pub record ConstOf (e : Operand Expression) : Type 0 where
  pub const : Const
  pub good : GoodConst const
  pub tree : const_tree const ≡ e
  pub text : const_text const ≡ operand_text predicates_text e

-- ---- literals

or_left : (x y : Bool) → (x || y) ≡ false → x ≡ false
or_left true y h = absurd (cc)
or_left false y h = refl

or_right : (x y : Bool) → (x || y) ≡ false → y ≡ false
or_right true y h = absurd (cc)
or_right false y h = h

none_seen : (q : ℕ) (v : Row) → list_any (λ b. b == q) (row v) ≡ false → HasNo q v
none_seen q none h = tt
none_seen q (more v b) h =
    let e : (list_any (λ b. b == q) (row v) || ((b == q) || false)) ≡ false = sym (list_any-append (λ b. b == q) (row v) (b ∷ [])) ∙ h in
    (none_seen q v (or_left _ _ e), or_left _ _ (or_right _ _ e))

has_none : (q : ℕ) (v : Row) → HasNo q v → list_any (λ b. b == q) (row v) ≡ false
has_none q none h = refl
has_none q (more v b) h = list_any-append (λ b. b == q) (row v) (b ∷ []) ∙ rw (has_none q v h.0, h.1) refl

on_bool : (P : Bool → Type 0) → P true → P false → (x : Bool) → P x
on_bool P a b true = a
on_bool P a b false = b

-- the other quote
other_quote : (q : ℕ) → is_quote q ≡ true → (q == 39) ≡ false → q ≡ 34
other_quote q g h = grind (arith, nat_tests)

quote_again : (q : ℕ) (v : Row) → is_quote q ≡ true → HasNo q v → (seen : Bool) → list_any (λ b. b == 39) (row v) ≡ seen → ConstOf (operands.Literal (row v))
quote_again q v g h false e = record { const = literal 39 v; good = (refl, none_seen 39 v e); tree = refl; text = rw e refl }
quote_again q v g h true e =
    let a : (q == 39) ≡ false = on_bool (λ (x : Bool). (q == 39) ≡ x → (q == 39) ≡ false) (λ i. absurd (let f : list_any (λ b. b == 39) (row v) ≡ false = has_none 39 v (subst (λ (x : ℕ). HasNo x v) (is_byte q 39 i) h) in cc)) (λ i. i) (q == 39) refl in
    let b : HasNo 34 v = subst (λ (x : ℕ). HasNo x v) (other_quote q g a) h in
    record { const = literal 34 v; good = (refl, b); tree = refl; text = rw e refl }

literal_again : (q : ℕ) (v : Row) → is_quote q ≡ true → HasNo q v → ConstOf (operands.Literal (row v))
literal_again q v g h = quote_again q v g h (list_any (λ b. b == 39) (row v)) refl

-- ---- numbers

-- digits of a number
record Digits (v : ℕ) (ds : List ℕ) : Type 0 where
  first : ℕ
  others : Row
  is : ds ≡ first ∷ row others
  digit : is_digit first ≡ true
  digits : Each is_digit others
  value : value_of (first ∷ row others) ≡ v

is_digit_at : (d : ℕ) → d < 10 → is_digit (48 + d) ≡ true
is_digit_at d h = grind (arith, nat_tests)

digit_value : (d : ℕ) → d < 10 → digit_of (48 + d) ≡ d
digit_value d h = rw (is_digit_at d h) (omega arith)

digit_small : (b : ℕ) → digit_of b ≤ 9
digit_small b = on_test (λ (x : ℕ). x ≤ 9) (is_digit b) _ _ (λ h. grind (arith, nat_tests)) (λ h. omega arith)

zero_plus : (x : ℕ) → 0 + x ≡ x
zero_plus x = omega arith

digits_one : (n : ℕ) → n < 10 → Digits n ((48 + n) ∷ [])
digits_one n h = record { first = 48 + n; others = none; is = refl; digit = is_digit_at n h; digits = tt; value = zero_plus (digit_of (48 + n)) ∙ digit_value n h }

digits_more : (n : ℕ) (ds : List ℕ) → 10 ≤ n → Digits (n / 10) ds → Digits n (ds ++ ((48 + n % 10) ∷ []))
digits_more n ds h d =
    let s : n % 10 < 10 = omega arith in
    record {
      first = d.first;
      others = more d.others (48 + n % 10);
      is = ap (λ (x : List ℕ). x ++ ((48 + n % 10) ∷ [])) d.is;
      digit = d.digit;
      digits = (d.digits, is_digit_at (n % 10) s);
      value = value_end 0 (d.first ∷ row d.others) (48 + n % 10) ∙ rw (d.value, digit_value (n % 10) s) (omega arith);
    }

decimal_digits : (n : ℕ) → n < 2 ^ 64 → Digits n (decimal n)
decimal_digits n h = decimal_by_steps Digits digits_one digits_more n h

value_small : (v i : ℕ) → v < 10 ^ i → (ds : List ℕ) → value_after v ds < 10 ^ (i + length ds)
value_small v i h [] = subst (λ (k : ℕ). v < 10 ^ k) (omega arith) h
value_small v i h (b ∷ ds) = subst (λ (k : ℕ). value_after (v * 10 + digit_of b) ds < 10 ^ k) (omega arith) (value_small (v * 10 + digit_of b) (i + 1) (small_more v (digit_of b) i h (digit_small b)) ds)

short : (m : ℕ) → m < 10 ^ MAX_DIGITS → (ds : List ℕ) → decimal m ≡ ds → nat_le (length ds) MAX_DIGITS ≡ false → ⊥
short m h ds e l =
    let a : length (decimal m) ≤ MAX_DIGITS = length-decimal-le MAX_DIGITS m (omega arith) h (omega (arith, h)) in
    let b : length ds ≤ MAX_DIGITS = subst (λ (x : List ℕ). length x ≤ MAX_DIGITS) e a in
    grind (arith, nat_tests)

longest_of : (m : ℕ) → m ≤ 10 ^ MAX_DIGITS → (m < 10 ^ MAX_DIGITS → ⊥) → 1000000000000000000 ≡ m
longest_of m h k = grind arith

longest : (m : ℕ) → m ≤ 10 ^ MAX_DIGITS → (ds : List ℕ) → decimal m ≡ ds → nat_le (length ds) MAX_DIGITS ≡ false → 1000000000000000000 ≡ m
longest m h ds e l = longest_of m h (λ k. short m k ds e l)

few_digits : (ds : List ℕ) → nat_le (length ds) MAX_DIGITS ≡ true → value_of ds < 10 ^ MAX_DIGITS
few_digits ds h =
    let l : length ds ≤ MAX_DIGITS = grind (arith, nat_tests) in
    let a : value_of ds < 10 ^ (0 + length ds) = value_small 0 0 (omega arith) ds in
    let z : 0 < 10 = omega arith in
    let y : 0 + length ds ≤ MAX_DIGITS = omega (arith, l) in
    let q : 10 ^ (0 + length ds) ≤ 10 ^ MAX_DIGITS = pow-le-pow_right z y in
    omega (arith, a, q)

natural_is : (m : ℕ) → m ≤ 10 ^ MAX_DIGITS → (d : Digits m (decimal m)) → number_of false (d.first ∷ row d.others) ≡ pos m
natural_is m h d = on_test (λ (z : ℤ). z ≡ pos m) (nat_le (length (d.first ∷ row d.others)) MAX_DIGITS) _ _ (λ _. ap pos d.value) (λ l. ap pos (longest m h (d.first ∷ row d.others) d.is l))

negative_is : (m : ℕ) → suc m < 10 ^ MAX_DIGITS → (d : Digits (suc m) (decimal (suc m))) → number_of true (d.first ∷ row d.others) ≡ negsuc m
negative_is m h d = on_test (λ (z : ℤ). z ≡ negsuc m) (nat_le (length (d.first ∷ row d.others)) MAX_DIGITS) _ _ (λ _. ap (λ (k : ℕ). neg_ℤ (pos k)) d.value) (λ l. absurd (short (suc m) h (d.first ∷ row d.others) d.is l))

natural_again : (m : ℕ) → m ≤ 10 ^ MAX_DIGITS → ConstOf (operands.Number (pos m))
natural_again m h =
    let d : Digits m (decimal m) = decimal_digits m (omega (arith, h)) in
    record {
      const = number d.first d.others;
      good = (d.digit, d.digits);
      tree = ap (λ (z : ℤ). operands.Number z) (natural_is m h d);
      text = sym d.is;
    }

negative_again : (m : ℕ) → suc m < 10 ^ MAX_DIGITS → ConstOf (operands.Number (negsuc m))
negative_again m h =
    let d : Digits (suc m) (decimal (suc m)) = decimal_digits (suc m) (omega (arith, h)) in
    record {
      const = negative none d.first d.others;
      good = (tt, d.digit, d.digits);
      tree = ap (λ (z : ℤ). operands.Number z) (negative_is m h d);
      text = ap (λ (x : List ℕ). 45 ∷ x) (sym d.is);
    }

signed_again : (neg : Bool) (m : ℕ) → m < 10 ^ MAX_DIGITS → ConstOf (operands.Number (signed neg m))
signed_again false m h = natural_again m (omega (arith, h))
signed_again true zero h = natural_again 0 (omega arith)
signed_again true (suc m) h = negative_again m h

number_again : (neg : Bool) (ds : List ℕ) → ConstOf (operands.Number (number_of neg ds))
number_again neg ds =
    on_test (λ (z : ℤ). ConstOf (operands.Number z)) (nat_le (length ds) MAX_DIGITS) _ _ (λ h. signed_again neg (value_of ds) (few_digits ds h)) (λ h. natural_again (10 ^ MAX_DIGITS) (omega arith))

-- a literal or a number is written again as it prints
pub const_again : (c : Const) → GoodConst c → ConstOf (const_tree c)
const_again (literal q v) g = literal_again q v g.0 g.1
const_again (number a w) g = number_again false (a ∷ row w)
const_again (negative r a w) g = number_again true (a ∷ row w)
const_again (const_blank c b) g = const_again c g.0
