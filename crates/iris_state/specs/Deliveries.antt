-- What a delivery is: an arrival, and then the decisions of the gathers that are due.
use Rattle.std.specs.Prelude.{◌≡◌, ◌⊎◌, ℕ, ◌<◌, Bool, true, false, List, [], ◌∷◌, ◌++◌, Option, Some, None, IfSome}
use Rattle.iris_json.specs.declared.out.Out.{Out}
use Rattle.iris_gather.specs.OpenGathers.{gather_at, is_due}
use Rattle.iris_agent.specs.Outside.{Seen, KeptNothing}
use Rattle.iris_agent.specs.Tables.{Holdings}
use Rattle.iris_protocol.specs.Table.{AgentId}
use Rattle.iris_runs.specs.Worlds.{World}
use Rattle.iris_state.specs.Events.{HasArrivedAt, HasDecidedAt, IsInterrupted}

-- whether the gather of that number at an agent is due
abbrev pub is_due_at : World → AgentId → ℕ → Bool
is_due_at w id number = is_due ((w.agent id).gather number)

-- That is the lowest number of a gather of that agent that is due.
pub record IsLowestDue (w : World) (id : AgentId) (number : ℕ) : Type 0 where
  pub due : is_due_at w id number ≡ true
  pub lowest : (lower : ℕ) → lower < number → is_due_at w id lower ≡ false

-- no gather of that agent is due
abbrev pub NoneDue : World → AgentId → Type 0
NoneDue w id = (number : ℕ) → is_due_at w id number ≡ false

-- That is the lowest number of a gather that is due at any agent, and the gather is that agent's.
pub record IsNextDue (w : World) (id : AgentId) (number : ℕ) : Type 0 where
  pub due : is_due_at w id number ≡ true
  pub lowest : (other : AgentId) (lower : ℕ) → lower < number → is_due_at w other lower ≡ false

-- whether a number is below that of a gather, if there is one; each is where there is none
abbrev pub IsBelow : Option (AgentId × ℕ) → ℕ → Type 0
IsBelow None number = Unit {0}
IsBelow (Some next) number = number < next.1

-- Of a gather, if there is one, and those that are due at an agent that is the one of the lowest number.
pub record IsLower (next : Option (AgentId × ℕ)) (h : Holdings) (result : Option (AgentId × ℕ)) : Type 0 where
  pub one : IfSome result (λ r. (next ≡ Some r) ⊎ ((h.id ≡ r.0) × (is_due (gather_at h.gathers r.1) ≡ true)))
  pub lowest : (number : ℕ) → IsBelow result number → IsBelow next number × (is_due (gather_at h.gathers number) ≡ false)

-- The gather of that number, the lowest that is due at an agent, decided first, and then others did.
pub record DecidesFirst (w : World) (id : AgentId) (number : ℕ) (lines : List Out) (others : World → List Out → Type 0) : Type 0 where
  pub mid : World
  pub first : List Out
  pub rest : List Out
  pub lowest : IsLowestDue w id number
  pub decided : HasDecidedAt w id number mid first
  pub follow : others mid rest
  pub lines_are : lines ≡ first ++ rest

-- the gathers of these numbers decided at an agent, one after the other, each the lowest that was due then
abbrev pub HaveDecided : World → AgentId → List ℕ → World → List Out → Type 0
HaveDecided w id [] new lines = (new ≡ w) × (lines ≡ [])
HaveDecided w id (number ∷ numbers) new lines = DecidesFirst w id number lines (λ mid rest. HaveDecided mid id numbers new rest)

-- A kept post arrived, and then the gathers of its addressee decided that were due.
pub record HasDelivered (w : World) (k : ℕ) (new : World) (lines : List Out) (before told : Seen) : Type 0 where
  pub mid : World
  pub first : List Out
  pub rest : List Out
  pub arrived : HasArrivedAt w k mid first before told
  pub numbers : List ℕ
  pub decided : HaveDecided mid arrived.sent.to numbers new rest
  pub lines_are : lines ≡ first ++ rest

-- A delivery ended for want of memory: the arrival did, or the post arrived and some first gathers decided.
abbrev pub IsCutOff : World → ℕ → World → Seen → Seen → Type 0
IsCutOff w k new before told = (IsInterrupted w k new × KeptNothing before told) ⊎ ((lines : List Out) × HasDelivered w k new lines before told)
