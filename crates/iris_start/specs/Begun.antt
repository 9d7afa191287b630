-- What an agent is as its city starts.
use Rattle.std.specs.Prelude.{◌≡◌, List}
use Rattle.iris_base.specs.declared.name.Label.{Label}
use Rattle.iris_book.specs.Book.{History}
use Rattle.iris_keeper.specs.declared.kept.Kept.{Kept}
use Rattle.iris_route.specs.Titles.{Titles}
use Rattle.iris_agent.specs.Starts.{last_in}
use Rattle.iris_agent.specs.Tables.{Tables}
use Rattle.iris_protocol.specs.Table.{AgentId}
use Rattle.iris_protocol.specs.World.{entries, last_number}
use Rattle.iris_runs.specs.Entered.{KeptUpdates}
use Rattle.iris_runs.specs.Starts.{IsAgentStart}
use Rattle.iris_runs.specs.Worlds.{World}

-- the rows tell of each node the number of its last update
abbrev pub TellLast : List Kept → KeptUpdates → Type 0
TellLast kept updates = (name : List Label) → last_in kept name ≡ last_number name (entries updates)

-- in each city with that registry and that book, whose updates the rows tell, this is that agent as the city starts
abbrev pub IsBegun : Titles → History → List Kept → AgentId → Tables → Type 0
IsBegun registry h kept id t = (w : World) (updates : KeptUpdates) → w.registry ≡ registry → w.history ≡ h → TellLast kept updates → IsAgentStart updates w id t
