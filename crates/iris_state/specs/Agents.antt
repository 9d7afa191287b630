-- The agents of a city, by their ids.
use Rattle.std.specs.Prelude.{ℕ, suc, Bool, false, if◌then◌else◌, List, [], ◌∷◌, Option, Some, None, option_map, is_some}
use Rattle.std.specs.List.{list_any}
use Rattle.iris_tree.specs.Universe.{Node, label_of, node_at}
use Rattle.iris_migrate.specs.Titles.{Seat, empty_seat, with_last}
use Rattle.iris_agent.specs.Starts.{empty_cache}
use Rattle.iris_agent.specs.Tables.{Holdings, Tables, tables_of}
use Rattle.iris_protocol.specs.Table.{AgentId, agents}

-- whether that is the agent's id
abbrev pub has_id : AgentId → Holdings → Bool
has_id id h = agents.same id h.id

-- whether there is an agent of that id
abbrev pub is_here : List Holdings → AgentId → Bool
is_here hs id = list_any (has_id id) hs

-- What stands for an agent that a city has not: it holds nothing. That of the empty id has the names of no node.
abbrev pub seat_outside : AgentId → Bool → Seat
seat_outside id is_node = if is_node then empty_seat else if agents.same id [] then with_last empty_seat 0 else empty_seat

abbrev pub outside : Node → AgentId → Tables
outside document id = record {
  id = id;
  kinds = [];
  top = label_of document;
  cache = empty_cache 1 (label_of document);
  seat = λ name. seat_outside id (is_some (node_at document name));
  gather = λ number. None;
  asked = λ ask. false;
}

-- the agent of that id
abbrev pub agent_by : Node → List Holdings → AgentId → Tables
agent_by document [] id = outside document id
agent_by document (h ∷ hs) id = if has_id id h then tables_of h else agent_by document hs id

-- the place of the agent of that id among these, if there is one: the first that has it
abbrev pub place_in : AgentId → List Holdings → Option ℕ
place_in id [] = None
place_in id (h ∷ hs) = if has_id id h then Some 0 else option_map suc (place_in id hs)

-- what the agent of that id among these holds, if there is one
abbrev pub held_by : AgentId → List Holdings → Option Holdings
held_by id [] = None
held_by id (h ∷ hs) = if has_id id h then Some h else held_by id hs
