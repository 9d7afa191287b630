-- A city as it starts, with rows that were kept before or without.
use Rattle.std.specs.Prelude.{◌≡◌, ℕ, true, false, is_some, if◌then◌else◌, List, All, None, IsSome}
use Rattle.iris_base.specs.declared.name.Label.{Label}
use Rattle.iris_tree.specs.Universe.{label_of, node_at}
use Rattle.iris_fragment.specs.Changes.{version_at}
use Rattle.iris_route.specs.Titles.{title_at}
use Rattle.iris_book.specs.Entering.{is_lasting}
use Rattle.iris_migrate.specs.Titles.{Seat, empty_seat, with_last}
use Rattle.iris_agent.specs.Tables.{Tables}
use Rattle.iris_copies.specs.Copies.{IsPresent, HoldsCopies}
use Rattle.iris_protocol.specs.Table.{AgentId, agents}
use Rattle.iris_protocol.specs.World.{entries, last_number}
use Rattle.iris_runs.specs.Depths.{AreWithinLabels}
use Rattle.iris_runs.specs.Entered.{KeptUpdates, updates_entered}
use Rattle.iris_runs.specs.Moments.{IsOrderly}
use Rattle.iris_runs.specs.Worlds.{World, owner_of}

-- what an agent knows of a node as the city starts: where it owns the node, the number of the last update that was kept, 0 where none was
abbrev pub seat_begun : KeptUpdates → World → AgentId → List Label → Seat
seat_begun rows w a name = if agents.same a (owner_of w.registry name) then with_last empty_seat (last_number name (entries rows)) else empty_seat

-- An agent as a city starts: it owns the nodes that the registry gives it, holds nothing but what is so, and has done nothing yet.
pub record IsAgentStart (rows : KeptUpdates) (w : World) (a : AgentId) (t : Tables) : Type 0 where
  pub id_is : t.id ≡ a
  pub top : t.top ≡ label_of w.history.start
  pub copies : HoldsCopies w.history w.turn.now t.cache.contents
  pub orderly : IsOrderly t.cache
  pub owns : (name : List Label) → IsSome (node_at w.history.start name) → is_some (version_at t.cache.contents name) ≡ is_some (t.seat name).last
  pub seats : (name : List Label) → t.seat name ≡ seat_begun rows w a name
  pub gathers : (number : ℕ) → t.gather number ≡ None
  pub asked : (ask : ℕ) → t.asked ask ≡ false

-- A city as it starts: a book without answers, whose updates are those rows, a registry of the city's nodes, and nothing that was posted or asked.
pub record IsStart (rows : KeptUpdates) (w : World) : Type 0 where
  pub present : IsPresent w.history w.turn.now
  pub labels : AreWithinLabels w.history.start
  pub lasting : All (λ entry. is_lasting entry ≡ true) w.history.entries
  pub entered : rows ≡ updates_entered w.history.entries
  pub registered : (name : List Label) → is_some (title_at w.registry name) ≡ is_some (node_at w.history.start name)
  pub agents_are : (a : AgentId) → IsAgentStart rows w a (w.agent a)
  pub post : (k : ℕ) → w.post k ≡ None
  pub seen : (k : ℕ) → w.seen k ≡ false
  pub posts : w.posts ≡ 0
  pub closed : (request : ℕ) → w.closed request ≡ false
  pub requests : w.requests ≡ 0
  pub next_ask : w.turn.next_ask ≡ 0
  pub next_gather : w.turn.next_gather ≡ 0
