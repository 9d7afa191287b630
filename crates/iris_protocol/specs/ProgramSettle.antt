-- The program's deliveries and settles, and what they leave.
use Rattle.std.specs.Prelude.{◌≡◌, ℕ, zero, suc, ◌<◌, Bool, true, false, if◌then◌else◌, List, [], Option, Some, None}
use Rattle.iris_protocol.specs.Table.{Name, AgentId, OfSome}
use Rattle.iris_protocol.specs.World.{Post, Gather, Need}
use Rattle.iris_protocol.specs.Good.{Fits}
use Rattle.iris_protocol.specs.Settle.{is_fresh, due_at, lent_at}
use Rattle.iris_protocol.specs.Program.{Program, program_decides, program_arrives, Tells, Known}

-- what is free: what an evaluation misses, whether an update that is served is kept, and the test before an arrival
pub record Outside : Type 0 where
  pub misses : Program → AgentId → ℕ → List Need
  pub keeps : Program → Bool
  pub serving : Program → ℕ → Bool

pub record Fair (outside : Outside) : Type 0 where
  pub fits : (t : Program) (a : AgentId) (g : ℕ) → OfSome (λ (x : Gather). Fits x.rank (outside.misses t a g)) ((t.agent a).gather g)
  pub tells : (t : Program) (k : ℕ) → Known t → OfSome (λ (p : Post). Tells t.agent (outside.serving t k) p.letter) (t.posted.post k)

abbrev pub program_decides_each : Outside → (ℕ → AgentId) → ℕ → ℕ → Program → Program
program_decides_each outside agent zero g t = t
program_decides_each outside agent (suc n) g t = program_decides_each outside agent n (suc g) (program_decides t (agent g) g (outside.misses t (agent g) g))

abbrev pub program_delivers_by : Outside → Program → ℕ → Option Post → Program
program_delivers_by outside t k None = t
program_delivers_by outside t k (Some p) = program_decides_each outside (λ g. p.to) (program_arrives t (outside.serving t k) (outside.keeps t) k (Some p)).next_gather 0 (program_arrives t (outside.serving t k) (outside.keeps t) k (Some p))

abbrev pub program_delivers : Outside → Program → ℕ → Program
program_delivers outside t k = program_delivers_by outside t k (t.posted.post k)

-- the first of `count` posts from k on that was never delivered
abbrev pub program_first : Program → ℕ → ℕ → Option ℕ
program_first t zero k = None
program_first t (suc count) k = if is_fresh (t.posted.post k) (t.posted.seen k) then Some k else program_first t count (suc k)

abbrev pub program_lowest : Program → Option ℕ
program_lowest t = program_first t t.posted.posts 0

abbrev pub program_deliveries : Outside → ℕ → Program → Program
program_deliveries outside zero t = t
program_deliveries outside (suc most) t = elim (program_lowest t) [ None ↦ t | Some k ↦ program_deliveries outside most (program_delivers outside t k) ]

-- `place` tells which agent has the gather of a number
abbrev pub Places : Program → (ℕ → AgentId) → Type 0
Places t place = (a : AgentId) (g : ℕ) → ((t.agent a).gather g ≡ None → ⊥) → place g ≡ a

abbrev pub program_settles : Outside → (ℕ → AgentId) → ℕ → Program → Program
program_settles outside place most t = program_deliveries outside most (program_decides_each outside place t.next_gather 0 t)

abbrev pub ProgramNoneDue : Program → Type 0
ProgramNoneDue t = (a : AgentId) (g : ℕ) → due_at ((t.agent a).gather g) ≡ false

abbrev pub ProgramNoneLent : Program → Type 0
ProgramNoneLent t = (a : AgentId) (g : ℕ) → lent_at ((t.agent a).gather g) ≡ false

-- the registry's owner owns each node, nothing is parked, no gather is open, and each request has its outcome
pub record ProgramQuiet (t : Program) : Type 0 where
  pub owned : (n : Name) → ((t.agent (t.owner n)).seat n).last ≡ None → ⊥
  pub parked : (a : AgentId) (n : Name) → ((t.agent a).seat n).parked ≡ []
  pub closed : (a : AgentId) (g : ℕ) → (t.agent a).gather g ≡ None
  pub answered : (r : ℕ) → r < t.requests → t.closed r ≡ true
