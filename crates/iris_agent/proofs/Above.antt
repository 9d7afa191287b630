-- The pieces of the nodes above a node, one after another.
use Rattle.std.proofs.Common.{◌≡◌, ℕ, ◌+◌, ◌-◌, ◌≤◌, List, [], ◌∷◌, ◌++◌, map, refl, ap, sym, ◌∙◌, Option, Some, None, arith}
use Rattle.std.specs.Prelude.{option_to_list}
use Rattle.std.specs.List.{filter_map, range_with_len, cons_option}
use Rattle.std.proofs.lemmas.List.Elements.{filter_map-append}
use Rattle.std.proofs.lemmas.List.FromFn.{map-range_with_len_more}

only : {Y : Type 0} (o : Option Y) → cons_option o [] ≡ option_to_list o
only None = refl
only (Some y) = refl

-- of the numbers from 1 up to one more, where a number may give something
pub given_more : {X Y : Type 0} (f : X → Option Y) (g : ℕ → X) (count : ℕ) → 1 ≤ count
    → filter_map f (map g (range_with_len 1 (count - 1))) ++ option_to_list (f (g count)) ≡ filter_map f (map g (range_with_len 1 (count + 1 - 1)))
given_more {X} {Y} f g count least =
    let len : count + 1 - 1 ≡ count - 1 + 1 = omega arith in
    let done : List X = map g (range_with_len 1 (count - 1)) in
    sym (
    ap (λ (n : ℕ). filter_map f (map g (range_with_len 1 n))) len
    ∙ ap (filter_map f) (map-range_with_len_more g 1 (count - 1) count (omega arith))
    ∙ filter_map-append f done (g count ∷ [])
    ∙ ap (λ (ys : List Y). filter_map f done ++ ys) (only (f (g count)))
    )
