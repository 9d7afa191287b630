-- A delivery with the decisions that follow, and a settle.
use Rattle.std.specs.Prelude.{◌≡◌, ℕ, zero, suc, ◌<◌, Bool, false, not, if◌then◌else◌, List, [], Option, Some, None}
use Rattle.iris_protocol.specs.Table.{Name, AgentId, OfSome, Among}
use Rattle.iris_protocol.specs.World.{Post, Gather, is_due, Need, idle, opened, World, seat_at, arrives, decides}
use Rattle.iris_protocol.specs.Good.{IsHeld, Fits}

-- what is free: what an evaluation would miss, for each gather in each world, and whether an update that is served there is kept
pub record Choices : Type 0 where
  pub misses : World → AgentId → ℕ → List Need
  pub keeps : World → Bool

abbrev pub FitsAll : Choices → Type 0
FitsAll choices = (w : World) (a : AgentId) (g : ℕ) → OfSome (λ (x : Gather). Fits x.rank (choices.misses w a g)) (w.gather a g)

-- each gather from g on decides where it is due, by number, at the agent that is told
abbrev pub decides_each : Choices → (ℕ → AgentId) → ℕ → ℕ → World → World
decides_each choices agent zero g w = w
decides_each choices agent (suc n) g w = decides_each choices agent n (suc g) (decides w (agent g) g (w.gather (agent g) g) (choices.misses w (agent g) g))

abbrev pub delivers_by : Choices → World → ℕ → Option Post → World
delivers_by choices w k None = w
delivers_by choices w k (Some p) = decides_each choices (λ g. p.to) (arrives w (choices.keeps w) k (Some p)).gathers 0 (arrives w (choices.keeps w) k (Some p))

-- an arrival, and then a decision of each due gather of that agent
abbrev pub delivers : Choices → World → ℕ → World
delivers choices w k = delivers_by choices w k (w.posted.post k)

abbrev pub is_fresh : Option Post → Bool → Bool
is_fresh None seen = false
is_fresh (Some p) seen = not seen

-- the first of `count` posts from k on that was never delivered
abbrev pub first_from : World → ℕ → ℕ → Option ℕ
first_from w zero k = None
first_from w (suc count) k = if is_fresh (w.posted.post k) (w.posted.seen k) then Some k else first_from w count (suc k)

abbrev pub lowest : World → Option ℕ
lowest w = first_from w w.posted.posts 0

-- at most so many deliveries
abbrev pub deliveries : Choices → ℕ → World → World
deliveries choices zero w = w
deliveries choices (suc most) w = elim (lowest w) [ None ↦ w | Some k ↦ deliveries choices most (delivers choices w k) ]

abbrev pub settles : Choices → ℕ → World → World
settles choices most w = deliveries choices most (decides_each choices w.place w.gathers 0 w)

abbrev pub due_at : Option Gather → Bool
due_at None = false
due_at (Some x) = is_due x

abbrev pub lent_at : Option Gather → Bool
lent_at None = false
lent_at (Some x) = x.lent

abbrev pub NoneDue : World → Type 0
NoneDue w = (a : AgentId) (g : ℕ) → due_at (w.gather a g) ≡ false

abbrev pub NoneLent : World → Type 0
NoneLent w = (a : AgentId) (g : ℕ) → lent_at (w.gather a g) ≡ false

-- each open gather that is not lent waits for an ask to which no reply was delivered
abbrev pub AllWait : World → Type 0
AllWait w = (a : AgentId) (g : ℕ) → OfSome (λ (x : Gather). x.lent ≡ false → (i : ℕ) × Among (λ (j : ℕ). j ≡ i) x.pending × (w.returned i ≡ false)) (w.gather a g)

-- no post is undelivered
abbrev pub Still : World → Type 0
Still w = (k : ℕ) (p : Post) → w.posted.post k ≡ Some p → w.posted.seen k ≡ false → ⊥

-- every node is held by its owner, nothing is parked, no gather is open, and each request has its outcome
pub record Quiet (w : World) : Type 0 where
  pub held : (n : Name) → IsHeld (w.node n)
  pub parked : (n : Name) (a : AgentId) → (seat_at w n a).parked ≡ []
  pub closed : (a : AgentId) (g : ℕ) → w.gather a g ≡ None
  pub answered : (r : ℕ) → r < w.requested.count → (w.status r ≡ idle → ⊥) × ((a : AgentId) (g : ℕ) → w.status r ≡ opened a g → ⊥)
