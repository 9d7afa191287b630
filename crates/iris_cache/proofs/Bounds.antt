-- How many copies there are.
use Rattle.std.proofs.Common.{◌≡◌, ℕ, zero, suc, ◌-◌, ◌+◌, ◌≤◌, ◌<◌, Bool, true, false, cond, not, if◌then◌else◌, List, [], ◌∷◌, length, Some, refl, sym, ap, ◌∙◌, arith}
use Rattle.std.specs.Prelude.{slice_get}
use Rattle.std.specs.List.{IsDistinct}
use Rattle.iris_base.specs.declared.name.Label.{Label}
use Rattle.iris_cache.specs.Order.{Order, lists, without, without_any, in_front, last_of}
use Rattle.iris_cache.proofs.Orders.{alike, length_without, listed_last}

-- there are no more names without one of them
pub fewer : (order : Order) (name : List Label) → length (without order name) ≤ length order
fewer [] name = omega arith
fewer (x ∷ xs) name = by (alike name x) (fewer xs name)
  where
    by : (b : Bool) → length (without xs name) ≤ length xs → length (cond (not b) (x ∷ without xs name) (without xs name)) ≤ suc (length xs)
    by true h = omega arith
    by false h = omega arith

-- the same of an order that is such
pub fewer_left : (order left : Order) (name : List Label) → left ≡ without order name → length left ≤ length order
fewer_left order left name is = rw is (fewer order name)

-- and at most one more with a name in front
pub one_longer : (order : Order) (name : List Label) → length (in_front order name) ≤ length order + 1
one_longer order name = omega (arith, fewer order name)

-- the same of an order that is such
pub longer_moved : (order moved : Order) (name : List Label) → moved ≡ in_front order name → length moved ≤ length order + 1
longer_moved order moved name is = rw is (one_longer order name)

-- as many names are there once one of them was used
pub length_used : (order used : Order) (name : List Label) → IsDistinct alike order → used ≡ (if lists order name then in_front order name else order) → length used ≡ length order
length_used order used name once is = ap (λ (o : Order). length o) is ∙ by (lists order name) refl
  where
    by : (b : Bool) → lists order name ≡ b → length (if b then in_front order name else order) ≡ length order
    by true there = sym (length_without order name once there)
    by false there = refl

some_last : (order : Order) → 0 < length order → (n : List Label) × (last_of order ≡ Some n)
some_last [] h = absurd (omega arith)
some_last (x ∷ xs) h = found (length (x ∷ xs) - 1) (x ∷ xs) (omega arith)
  where
    found : (k : ℕ) (ys : Order) → k < length ys → (n : List Label) × (slice_get ys k ≡ Some n)
    found k [] h = absurd (omega arith)
    found zero (y ∷ ys) h = (y, refl)
    found (suc k) (y ∷ ys) h = found k ys (omega arith)

-- one name less without the last
pub last_out : (order : Order) → IsDistinct alike order → 0 < length order → suc (length (without_any order (last_of order))) ≡ length order
last_out order once some =
    let last = some_last order some in
    rw last.1 (sym (length_without order last.0 once (listed_last order last.0 last.1)))
