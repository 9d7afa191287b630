-- What holds of a city in every run: it is one that the protocol knows, and what its agents hold, gather and send is right.
use Rattle.std.specs.Prelude.{◌≡◌, ℕ, nat_le, true, false, is_some, List, Some, IsSome, IfSome}
use Rattle.iris_base.specs.declared.name.Label.{Label}
use Rattle.iris_tree.specs.Universe.{node_at}
use Rattle.iris_route.specs.Titles.{title_at}
use Rattle.iris_migrate.specs.declared.key.Key.TheVariants as keys
use Rattle.iris_migrate.specs.declared.message.Message.{Message}
use Rattle.iris_migrate.specs.declared.message.Message.TheVariants.{Query, Ask, Reply, Update, Handover}
use Rattle.iris_migrate.specs.Messages.{node_of}
use Rattle.iris_migrate.specs.Titles.{is_parked}
use Rattle.iris_gather.specs.OpenGathers.{serves_ask}
use Rattle.iris_agent.specs.Tables.{Tables}
use Rattle.iris_copies.specs.Copies.{IsPresent}
use Rattle.iris_protocol.specs.Program.{Known}
use Rattle.iris_protocol.specs.World as model
use Rattle.iris_runs.specs.Alike.{HaveOwnIds}
use Rattle.iris_runs.specs.Depths.{AreWithinLabels}
use Rattle.iris_runs.specs.Entered.{updates_entered, updates_accepted}
use Rattle.iris_runs.specs.Moments.{Wanted, Moment, IsMessageAt, IsAgentAt, BringsNewest}
use Rattle.iris_runs.specs.Worlds.{Sent, World, program_of}

-- what only proofs read of how a city came about: the updates that were accepted, the newest first, and what each ask was made for
pub record Past : Type 0 where
  pub accepted : List model.Entry
  pub wanted : ℕ → Wanted

-- the city's present moment
abbrev pub moment_of : World → (ℕ → Wanted) → Moment
moment_of w wanted = record { history = w.history; now = w.turn.now; asks = w.turn.next_ask; wanted = wanted }

-- ---- the asks that an agent met

-- An agent met each ask for which it has a gather, and each that is parked there. While one is parked, no gather of the agent is for it.
pub record KnowsItsAsks (t : Tables) : Type 0 where
  pub opened : (number ask : ℕ) → serves_ask ask (t.gather number) ≡ true → t.asked ask ≡ true
  pub parked : (name : List Label) (ask : ℕ) → is_parked (t.seat name) (Some (keys.Ask ask)) ≡ true → t.asked ask ≡ true
  pub apart : (name : List Label) (ask number : ℕ) → is_parked (t.seat name) (Some (keys.Ask ask)) ≡ true → serves_ask ask (t.gather number) ≡ false

-- ---- posts

-- the node of a message is one of the city
abbrev pub IsForCity : World → Message → Type 0
IsForCity w message = IfSome (node_of message) (λ name. IsSome (node_at w.history.start name))

-- a handover that its addressee would take brings the newest value
abbrev pub IsNewestIfTaken : World → Sent → Message → Type 0
IsNewestIfTaken w sent (Query request asked name epoch floor) = Unit {0}
IsNewestIfTaken w sent (Ask ask from asked start epoch floor) = Unit {0}
IsNewestIfTaken w sent (Reply ask pieces) = Unit {0}
IsNewestIfTaken w sent (Update request name epoch number changes) = Unit {0}
IsNewestIfTaken w sent (Handover handed) = nat_le handed.epoch ((w.agent sent.to).seat handed.name).taken ≡ false → BringsNewest w.history handed

-- A kept post, delivered or not.
pub record IsPostAt (w : World) (wanted : ℕ → Wanted) (sent : Sent) : Type 0 where
  pub message : IsMessageAt (moment_of w wanted) sent.message
  pub place : IsForCity w sent.message
  pub newest : IsNewestIfTaken w sent sent.message

-- ---- all

-- A good city.
pub record IsGood (w : World) (past : Past) : Type 0 where
  -- it has a history by the protocol: each node has one title, what is parked waits, asks are carried, numbers are fresh
  pub known : Known (program_of w past.accepted)
  -- the updates in its book are those that the protocol accepted
  pub entered : updates_accepted past.accepted ≡ updates_entered w.history.entries
  pub present : IsPresent w.history w.turn.now
  pub labels : AreWithinLabels w.history.start
  -- each agent has its own id, and what it holds and gathers is right
  pub ids : HaveOwnIds w
  pub agents : (a : List ℕ) → IsAgentAt (moment_of w past.wanted) (w.agent a)
  pub asks : (a : List ℕ) → KnowsItsAsks (w.agent a)
  -- the registry has the nodes of the city
  pub registered : (name : List Label) → is_some (title_at w.registry name) ≡ is_some (node_at w.history.start name)
  pub posts : (k : ℕ) → IfSome (w.post k) (IsPostAt w past.wanted)
