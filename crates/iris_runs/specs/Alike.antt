-- When an agent's event is the same event of the protocol.
use Rattle.std.specs.Prelude.{◌≡◌, ◌≢◌, ℕ, Bool, true, false, is_some, [], map, All, Option, Some, None, IfSome}
use Rattle.std.specs.Option.{option_map_or}
use Rattle.iris_migrate.specs.declared.message.Message.{Message}
use Rattle.iris_migrate.specs.declared.message.Message.TheVariants.{Query, Ask, Reply, Update, Handover}
use Rattle.iris_migrate.specs.Messages.{node_of}
use Rattle.iris_gather.specs.declared.entries.OpenGather.{OpenGather}
use Rattle.iris_gather.specs.declared.verdict.Verdict.{Verdict}
use Rattle.iris_gather.specs.declared.verdict.Verdict.TheVariants.{Done, Asks}
use Rattle.iris_gather.specs.OpenGathers.{awaits}
use Rattle.iris_agent.specs.Tables.{Tables}
use Rattle.iris_agent.specs.Updates.{value_owned}
use Rattle.iris_protocol.specs.Table.{AgentId, Distinct}
use Rattle.iris_protocol.specs.World.{Event, Arrive}
use Rattle.iris_runs.specs.Letters.{is_kept}
use Rattle.iris_runs.specs.Worlds.{World}

-- the pending asks of a gather have different numbers, and a lent one has none
pub record WaitsOnce (one : OpenGather) : Type 0 where
  pub once : Distinct (map (λ entry. entry.0) one.gather.pending)
  pub lent : one.lent ≡ true → one.gather.pending ≡ []

-- that is the only gather at which the ask is pending, or there is none
abbrev pub IsWaitedFor : (ℕ → Option OpenGather) → ℕ → Option ℕ → Type 0
IsWaitedFor gather ask None = (number : ℕ) → awaits ask (gather number) ≡ false
IsWaitedFor gather ask (Some number) = (awaits ask (gather number) ≡ true) × ((other : ℕ) → other ≢ number → awaits ask (gather other) ≡ false)

-- What an arrival of a message takes for granted: the agent has the value of the node of an update where it owns the node; `waiting` is the gather that waits for a reply, which waits for each of its asks once; and what is parked for the node of a handover is for that node.
abbrev pub MayBeHandled : Tables → Option ℕ → Message → Type 0
MayBeHandled t waiting (Query request asked name epoch floor) = Unit {0}
MayBeHandled t waiting (Ask number from asked start epoch floor) = Unit {0}
MayBeHandled t waiting (Reply ask pieces) = IsWaitedFor t.gather ask waiting × ((number : ℕ) → IfSome (t.gather number) WaitsOnce)
MayBeHandled t waiting (Update request name epoch number changes) = is_some (value_owned t.cache.contents name) ≡ is_some (t.seat name).last
MayBeHandled t waiting (Handover handed) = All (λ message. node_of message ≡ Some handed.name) (t.seat handed.name).parked

-- a verdict that something is missing says what
abbrev pub AsksForSome : Verdict → Type 0
AsksForSome (Done support items) = Unit {0}
AsksForSome (Asks support missing) = missing ≢ []

-- each agent has its own id
abbrev pub HaveOwnIds : World → Type 0
HaveOwnIds w = (a : AgentId) → (w.agent a).id ≡ a

-- the arrival of a post, as the protocol has it: with whether an update that it brings can be made and is kept
abbrev pub arrival_at : World → Bool → ℕ → Event
arrival_at w kept k = Arrive k (option_map_or (λ sent. is_kept kept (w.agent sent.to) sent.message) (w.post k) false)
