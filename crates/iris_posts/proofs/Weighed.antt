-- What kept posts weigh together.
use Rattle.std.proofs.Common.{◌≡◌, ℕ, ◌+◌, List, [], ◌∷◌, ◌++◌, refl, arith}
use Rattle.std.specs.List.{All, sum_by}
use Rattle.std.proofs.lemmas.List.Sums.{sum_by-cons, sum_by-append}
use Rattle.std.proofs.lemmas.List.Elements.{All-tail}
use Rattle.iris_tree.specs.TextLen.{saturated}
use Rattle.iris_posts.specs.declared.slot.Slot.{Slot}
use Rattle.iris_posts.specs.Weights.{weight_of}
use Rattle.iris_posts.specs.Posts.{KeptPost}
use Rattle.iris_posts.specs.Slots.{kept_of, kept_in}

-- the weight in the slot is that of its message
abbrev pub IsWeighed : Slot → Type 0
IsWeighed s = s.weight ≡ saturated (weight_of s.post.message)

-- the weights in the slots make what the posts weigh
pub weighed_posts : (slots : List Slot) → All IsWeighed slots → saturated (sum_by (λ (s : Slot). s.weight) slots) ≡ saturated (sum_by (λ (p : KeptPost). weight_of p.post.message) (kept_in slots))
weighed_posts [] all = refl
weighed_posts (s ∷ slots) all =
    let one : s.weight ≡ saturated (weight_of s.post.message) = all 0 s (omega arith) in
    let rest = weighed_posts slots (All-tail IsWeighed s slots all) in
    let sum = sum_by-cons (λ (r : Slot). r.weight) s slots in
    let posts = sum_by-cons (λ (p : KeptPost). weight_of p.post.message) (kept_of s) (kept_in slots) in
    omega (arith, sum, posts, one, rest)

-- a new post adds its weight
pub weight_more : (slots : List Slot) (s : Slot) (bytes : ℕ) → bytes ≡ saturated (sum_by (λ (r : Slot). r.weight) slots) → saturated (bytes + s.weight) ≡ saturated (sum_by (λ (r : Slot). r.weight) (slots ++ s ∷ []))
weight_more slots s bytes is =
    let sum = sum_by-append (λ (r : Slot). r.weight) slots (s ∷ []) in omega (arith, sum, is)
