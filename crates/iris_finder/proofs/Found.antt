-- The first element that passes a test.
use Rattle.std.proofs.Common.{◌≡◌, ℕ, zero, suc, ◌+◌, ◌<◌, Bool, true, false, if◌then◌else◌, List, [], ◌∷◌, Some, None, length, get_or, take, refl, ap, ◌∙◌, arith}
use Rattle.std.specs.Prelude.{find}

module _ {X : Type 0} (p : X → Bool) where
  next_take : (x : X) (xs : List X) (i : ℕ) → take (suc i + 1) (x ∷ xs) ≡ x ∷ take (i + 1) xs
  next_take x xs i = let e : suc i + 1 ≡ suc (i + 1) = omega arith in ap (λ (n : ℕ). take n (x ∷ xs)) e

  -- where none before passes and the next does, it is found
  pub find_here : (xs : List X) (i : ℕ) (d : X) → i < length xs → find p (take i xs) ≡ None → p (get_or xs i d) ≡ true → find p xs ≡ Some (get_or xs i d)
  find_here [] i d within none here = absurd (omega arith)
  find_here (x ∷ xs) zero d within none here = rw here refl
  find_here (x ∷ xs) (suc i) d within none here = by (p x) none (find_here xs i d (omega arith))
    where
      by : (b : Bool) → (if b then Some x else find p (take i xs)) ≡ None → (find p (take i xs) ≡ None → p (get_or xs i d) ≡ true → find p xs ≡ Some (get_or xs i d)) → (if b then Some x else find p xs) ≡ Some (get_or xs i d)
      by true h rest = absurd (cc)
      by false h rest = rest h here

  -- where none before passes nor the next, none up to it does
  pub find_none_more : (xs : List X) (i : ℕ) (d : X) → i < length xs → find p (take i xs) ≡ None → p (get_or xs i d) ≡ false → find p (take (i + 1) xs) ≡ None
  find_none_more [] i d within none here = absurd (omega arith)
  find_none_more (x ∷ xs) zero d within none here = let e : zero + 1 ≡ suc zero = omega arith in ap (λ (n : ℕ). find p (take n (x ∷ xs))) e ∙ rw here refl
  find_none_more (x ∷ xs) (suc i) d within none here = ap (find p) (next_take x xs i) ∙ by (p x) none (find_none_more xs i d (omega arith))
    where
      by : (b : Bool) → (if b then Some x else find p (take i xs)) ≡ None → (find p (take i xs) ≡ None → p (get_or xs i d) ≡ false → find p (take (i + 1) xs) ≡ None) → (if b then Some x else find p (take (i + 1) xs)) ≡ None
      by true h rest = absurd (cc)
      by false h rest = rest h here
