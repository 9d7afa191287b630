-- A city that has these agents and no others: what is owned, sent and waited for in it names only these.
use Rattle.std.specs.Prelude.{◌≡◌, ℕ, Bool, true, List, All, IsSome, IfSome}
use Rattle.iris_base.specs.declared.name.Label.{Label}
use Rattle.iris_route.specs.Titles.{Titles, title_at}
use Rattle.iris_migrate.specs.declared.message.Message.{Message}
use Rattle.iris_migrate.specs.declared.message.Message.TheVariants.{Query, Ask, Reply, Update, Handover}
use Rattle.iris_migrate.specs.Titles.{Seat}
use Rattle.iris_gather.specs.declared.parent.Parent.{Parent}
use Rattle.iris_gather.specs.declared.parent.Parent.TheVariants as parents
use Rattle.iris_agent.specs.Tables.{Tables}
use Rattle.iris_protocol.specs.Table.{AgentId}
use Rattle.iris_runs.specs.Worlds.{Sent, World, owner_of}

-- ---- what names an agent

-- a message names only these: an ask names the agent that asks, and the others name none
abbrev pub NamesThese : (AgentId → Bool) → Message → Type 0
NamesThese here (Query request asked name epoch floor) = Unit {0}
NamesThese here (Ask ask from asked start epoch floor) = here from ≡ true
NamesThese here (Reply ask pieces) = Unit {0}
NamesThese here (Update request name epoch number changes) = Unit {0}
NamesThese here (Handover handed) = Unit {0}

-- a gather is made for one of these, or for a client
abbrev pub ServesThese : (AgentId → Bool) → Parent → Type 0
ServesThese here (parents.Client request) = Unit {0}
ServesThese here (parents.Ask ask from) = here from ≡ true

-- a post is for one of these, and names only these
pub record IsSentAmong (here : AgentId → Bool) (sent : Sent) : Type 0 where
  pub addressee : here sent.to ≡ true
  pub names : NamesThese here sent.message

-- what an agent knows of a node names only these: the one that it gave the node to, and those whose asks are parked for it
pub record IsSeatAmong (here : AgentId → Bool) (seat : Seat) : Type 0 where
  pub sends_on : IfSome seat.forward (λ move. here move.to ≡ true)
  pub parked : All (NamesThese here) seat.parked

-- what an agent knows of each node, and each of its open gathers, names only these
pub record IsAgentAmong (here : AgentId → Bool) (t : Tables) : Type 0 where
  pub seats : (name : List Label) → IsSeatAmong here (t.seat name)
  pub gathers : (number : ℕ) → IfSome (t.gather number) (λ one. ServesThese here one.gather.parent)

-- ---- the city

-- by the registry each node is owned by one of these
abbrev pub AreOwnedAmong : (AgentId → Bool) → Titles → Type 0
AreOwnedAmong here registry = (name : List Label) → IsSome (title_at registry name) → here (owner_of registry name) ≡ true

-- A city of these agents: they own its nodes, and what its agents know and its kept posts, delivered or not, name only these.
pub record AreAmong (here : AgentId → Bool) (w : World) : Type 0 where
  pub owners : AreOwnedAmong here w.registry
  pub agents : (a : AgentId) → IsAgentAmong here (w.agent a)
  pub posts : (k : ℕ) → IfSome (w.post k) (IsSentAmong here)
