-- Where a word goes off its form.
use Rattle.std.proofs.Common.{◌≡◌, ℕ, ◌+◌, ◌<◌, ◌≤◌, true, false, if◌then◌else◌, ◌==◌, ◌⊎◌, inl, inr, List, [], ◌∷◌, ◌++◌, length, get_or, take, refl, sym, ◌∙◌, subst, arith, zero, suc, length-append}
use Rattle.std.proofs.lemmas.List.{length-take, length-take-le, get_or-take}
use Rattle.std.proofs.Math.ListN.{get_or-append}
use Rattle.std.proofs.lemmas.Bool.Decides.{nat_tests}
use Rattle.std.proofs.lemmas.Bool.{cases_lt}
use Rattle.std.proofs.lemmas.List.{get_or_past}
use Rattle.std.specs.Str.{IsAscii}
use Rattle.iris_base.specs.declared.letters.Letters.{Letters}
use Rattle.iris_base.specs.declared.letters.Letters.TheVariants.{Lower, LowerOrDigit, Word, Letter, WordOrDash}
use Rattle.iris_base.specs.Letters.{has, allows}
use Rattle.iris_base.specs.Forms.{AllowsBelow, IsWord}
use Rattle.iris_base.specs.Stops.{Begins, StopsAt}

-- each set has the letter a
has_a : (l : Letters) → has l 97 ≡ true
has_a Lower = refl
has_a LowerOrDigit = refl
has_a Word = refl
has_a Letter = refl
has_a WordOrDash = refl

-- a byte at an index below the cut
front_at : (bytes rest : List ℕ) (n k : ℕ) → n ≤ length bytes → k < n → get_or (take n bytes ++ rest) k 0 ≡ get_or bytes k 0
front_at bytes rest n k fits below =
    let len : length (take n bytes) ≡ n = length-take-le n bytes fits in
    let short : k < length (take n bytes) = omega arith in
    get_or-append (take n bytes) rest 0 k short ∙ get_or-take n bytes k 0 below

-- the first bytes begin a word
begins : (first later : Letters) (most at : ℕ) (bytes : List ℕ) → 0 < most → at ≤ most → at ≤ length bytes
    → AllowsBelow first later bytes at → Begins (IsWord first later most) (take at bytes)
unfolding allows
begins first later most zero bytes some fits within below =
    (97 ∷ [], record { some = omega arith; fits = omega arith; each = λ k h. let z : k ≡ 0 = omega arith in subst (λ (i : ℕ). allows first later i (get_or (97 ∷ []) i 0) ≡ true) (sym z) (has_a first) })
begins first later most (suc at) bytes some fits within below =
    let len : length (take (suc at) bytes ++ []) ≡ suc at = simp (length-append, length-take) (omega arith) in (
      [],
      record {
        some = omega arith;
        fits = omega arith;
        each = λ k h.
            let less : k < suc at = omega arith in
            subst (λ (c : ℕ). allows first later k c ≡ true) (sym (front_at bytes [] (suc at) k within less)) (below k less);
      },
    )

-- a loop stops here: the word is full, or the byte may not stand here
pub stops : (first later : Letters) (most at : ℕ) (bytes : List ℕ) → 0 < most → at ≤ most → at < length bytes
    → AllowsBelow first later bytes at → (at ≡ most) ⊎ (allows first later at (get_or bytes at 0) ≡ false)
    → StopsAt (IsWord first later most) bytes at
stops first later most at bytes some fits within below why =
    record {
      refused = λ w. elim why [ inl full ↦ omega (arith, w.fits) | inr bad ↦ (let good = w.each at within in cc) ];
      within = omega arith;
      before = begins first later most at bytes some fits (omega arith) below;
      after = λ _ b.
          let len : at + 1 ≤ length (take (at + 1) bytes ++ b.0) = simp (length-append, length-take) (omega arith) in
          elim why [
            | inl full ↦ omega (arith, b.1.fits)
            | inr bad ↦ (let good = b.1.each at (omega arith) in let same = front_at bytes b.0 (at + 1) at (omega arith) (omega arith) in cc)
          ];
    }

-- no byte at all
pub stops_empty : (first later : Letters) (most : ℕ) (bytes : List ℕ) → 0 < most → length bytes ≡ 0 → StopsAt (IsWord first later most) bytes 0
stops_empty first later most bytes some empty =
    record {
      refused = λ w. omega (arith, w.some);
      within = omega arith;
      before = begins first later most 0 bytes some (omega arith) (omega arith) (λ k h. absurd (omega arith));
      after = λ h. absurd (omega arith);
    }

-- the letters are ASCII
has_ascii : (set : Letters) (c : ℕ) → has set c ≡ true → c < 128
has_ascii Lower c h = grind (arith, nat_tests)
has_ascii LowerOrDigit c h = grind (arith, nat_tests)
has_ascii Word c h = grind (arith, nat_tests)
has_ascii Letter c h = grind (arith, nat_tests)
has_ascii WordOrDash c h = grind (arith, nat_tests)

-- words are ASCII
pub word_ascii : (first later : Letters) (most : ℕ) (bytes : List ℕ) → IsWord first later most bytes → IsAscii bytes
unfolding allows
word_ascii first later most bytes w i = at (cases_lt i (length bytes))
  where
    at : (i < length bytes) ⊎ (length bytes ≤ i) → get_or bytes i 0 < 128
    at (inl less) = has_ascii (if i == 0 then first else later) (get_or bytes i 0) (w.each i less)
    at (inr past) = rw (get_or_past bytes i 0 past) (omega arith)
