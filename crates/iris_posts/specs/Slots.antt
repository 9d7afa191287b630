-- How posts lie: in one list, in the order of their numbers.
use Rattle.std.specs.Prelude.{◌≡◌, ℕ, ◌+◌, ◌<◌, ◌≤◌, true, false, List, [], ◌∷◌, map, length, slice_get, All, sum_by, IfSome}
use Rattle.std.specs.List.{AllWithin}
use Rattle.iris_tree.specs.TextLen.{saturated}
use Rattle.iris_posts.specs.declared.slot.Slot.{Slot}
use Rattle.iris_posts.specs.Weights.{weight_of}
use Rattle.iris_posts.specs.Posts.{KeptPost}

-- the post in a slot
abbrev pub kept_of : Slot → KeptPost
kept_of s = record { number = s.number; post = s.post; delivered = s.delivered }

-- the posts in these slots
abbrev pub kept_in : List Slot → List KeptPost
kept_in slots = map kept_of slots

-- numbers rise, from the least on, and all are below the number of posts that were made
abbrev pub AreNumbered : ℕ → ℕ → List Slot → Type 0
AreNumbered least made [] = Unit {0}
AreNumbered least made (s ∷ slots) = (least ≤ s.number) × (s.number < made) × AreNumbered (s.number + 1) made slots

-- the posts before that place were delivered, and that at it was not, if there is one
pub record IsFirstWaiting (slots : List Slot) (first : ℕ) : Type 0 where
  pub within : first ≤ length slots
  pub before : AllWithin (λ s. s.delivered ≡ true) slots 0 first
  pub waits : IfSome (slice_get slots first) (λ s. s.delivered ≡ false)

-- the slots are in order, the first post that waits is known, and so are the weights
pub record AreKept (slots : List Slot) (first made bytes : ℕ) : Type 0 where
  pub numbered : AreNumbered 0 made slots
  pub first_waiting : IsFirstWaiting slots first
  pub weighed : All (λ s. s.weight ≡ saturated (weight_of s.post.message)) slots
  pub bytes_is : bytes ≡ saturated (sum_by (λ s. s.weight) slots)
