-- The posts of a city: which are kept, and which were delivered.
use Rattle.std.specs.Prelude.{◌≡◌, ℕ, ◌+◌, ◌<◌, ◌≤◌, nat_lt, nat_eq, Bool, true, false, ◌&&◌, ◌||◌, if◌then◌else◌, List, [], ◌∷◌, map, length, sum_by, Option, Some, None, IsSome, option_map, refl}
use Rattle.std.specs.Coded.{Coded, code_by, coded×, coded_ℕ, coded_bool, coded_list}
use Rattle.iris_tree.specs.TextLen.{saturated}
use Rattle.iris_posts.specs.declared.post.Post.{Post}
use Rattle.iris_posts.specs.Weights.{weight_of}

-- a post that is kept: its number, and whether it was delivered
pub record KeptPost : Type 0 where
  pub number : ℕ
  pub post : Post
  pub delivered : Bool

-- the posts that are kept, in the order of their numbers; how many were made; and how many more take no memory
pub record Queue : Type 0 where
  pub kept : List KeptPost
  pub made : ℕ
  pub spare : ℕ

-- how proofs store them
abbrev pub kept_post_code : Coded Post → Coded KeptPost
kept_post_code post =
    code_by (ℕ × (Post × Bool)) (coded× coded_ℕ (coded× post coded_bool)) (λ p. (p.number, (p.post, p.delivered))) (λ p. record { number = p.0; post = p.1.0; delivered = p.1.1 }) (λ _. refl)

abbrev pub queue_code : Coded Post → Coded Queue
queue_code post =
    code_by (List KeptPost × (ℕ × ℕ)) (coded× (coded_list (kept_post_code post)) (coded× coded_ℕ coded_ℕ)) (λ q. (q.kept, (q.made, q.spare))) (λ p. record { kept = p.0; made = p.1.0; spare = p.1.1 }) (λ _. refl)

-- so many more posts have room once there is room for as many as that growth is for, and for no fewer than before
abbrev pub MakesRoom : ℕ → Queue → ℕ → Type 0
MakesRoom growth q n = (capacity : ℕ) → length q.kept + q.spare ≤ capacity → growth ≤ capacity → length q.kept + n ≤ capacity

-- ---- one number

-- the kept post of that number, if there is one
abbrev pub kept_at : List KeptPost → ℕ → Option KeptPost
kept_at [] number = None
kept_at (p ∷ ps) number = if nat_eq number p.number then Some p else kept_at ps number

-- the same without what is known of its delivery
abbrev pub post_at : Queue → ℕ → Option Post
post_at q number = option_map (λ p. p.post) (kept_at q.kept number)

-- no post is left to deliver: none is kept, or it was delivered
abbrev pub is_over : Option KeptPost → Bool
is_over None = true
is_over (Some p) = p.delivered

-- whether a post of that number was made, and no kept post has it that was not delivered
abbrev pub is_seen : Queue → ℕ → Bool
is_seen q number = nat_lt number q.made && is_over (kept_at q.kept number)

-- ---- all numbers

-- the lowest number of a kept post that was not delivered
pub record IsNext (q : Queue) (number : ℕ) : Type 0 where
  pub kept : IsSome (post_at q number)
  pub waits : is_seen q number ≡ false
  pub lowest : (other : ℕ) → other < number → is_seen q other ≡ true

-- no kept post waits for its delivery
abbrev pub AllSeen : Queue → Type 0
AllSeen q = (number : ℕ) → number < q.made → is_seen q number ≡ true

-- a post with a mark, if it is that of the number
abbrev pub mark : ℕ → KeptPost → KeptPost
mark number p = record p { delivered = nat_eq number p.number || p.delivered }

-- the posts once that of the number was delivered
abbrev pub marked : List KeptPost → ℕ → List KeptPost
marked ps number = map (mark number) ps

-- what the kept posts weigh together, or `u64::MAX` where it is more
abbrev pub bytes_of : Queue → ℕ
bytes_of q = saturated (sum_by (λ p. weight_of p.post.message) q.kept)
