-- How large the parts of a query are.
use Rattle.std.proofs.Common.{◌≡◌, ℕ, zero, suc, ◌+◌, ◌<◌, List, [], ◌∷◌, map, length, ap, get_or, arith}
use Rattle.iris_xpath.specs.Syntax.{Condition, any_of, all_of, not_so, selects, compares, Conditions, no_conditions, conditions, conditions_of, Side, values_of, literal, number, Steps, here, attribute, itself, parent, step}

abbrev mutual
  -- how large a condition is
  pub weight : Condition → ℕ
  weight (any_of cs) = suc (weights cs)
  weight (all_of cs) = suc (weights cs)
  weight (not_so c) = suc (weight c)
  weight (selects steps) = suc (suc (steps_weight steps))
  weight (compares left comparison right) = suc (side_weight left + side_weight right)

  pub weights : Conditions → ℕ
  weights no_conditions = 0
  weights (conditions c cs) = suc (weight c + weights cs)

  pub side_weight : Side → ℕ
  side_weight (values_of steps) = suc (suc (steps_weight steps))
  side_weight (literal text) = 0
  side_weight (number n) = 0

  pub steps_weight : Steps → ℕ
  steps_weight here = 0
  steps_weight (attribute s name) = 0
  steps_weight (itself steps) = suc (steps_weight steps)
  steps_weight (parent steps) = suc (steps_weight steps)
  steps_weight (step s test cs steps) = suc (weights cs + steps_weight steps)

-- one of some conditions is smaller than all of them
pub one_weight : {A : Type 0} (f : A → Condition) (xs : List A) (i : ℕ) (x : A) → i < length xs → x ≡ get_or xs i x → weight (f x) < weights (conditions_of (map f xs))
one_weight f [] i x within is = absurd (omega arith)
one_weight f (y ∷ ys) zero x within is = let same : weight (f x) ≡ weight (f y) = ap (λ z. weight (f z)) is in omega (arith, same)
one_weight f (y ∷ ys) (suc i) x within is = let later : weight (f x) < weights (conditions_of (map f ys)) = one_weight f ys i x (omega arith) is in omega (arith, later)
