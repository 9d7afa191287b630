-- What the arrival of a handover leaves.
use Rattle.std.specs.Prelude.{ℕ, suc, ◌-◌, nat_le, if◌then◌else◌, List, [], length, take, map, fold, slice_get, Option, Some, None}
use Rattle.std.specs.List.{filter_map}
use Rattle.iris_fragment.specs.declared.piece.Piece.{Piece}
use Rattle.iris_fragment.specs.Usable.{ids_piece}
use Rattle.iris_cache.specs.Recency.{Cache, taken_all, owned_in}
use Rattle.iris_migrate.specs.declared.message.Handover.{Handover as Handed}
use Rattle.iris_migrate.specs.declared.message.Message.{Message}
use Rattle.iris_migrate.specs.declared.message.Message.TheVariants.{Query, Ask, Reply, Update, Handover}
use Rattle.iris_migrate.specs.Titles.{took}
use Rattle.iris_gather.specs.declared.entries.OpenGather.{OpenGather}
use Rattle.iris_gather.specs.Gathers.{Gathering}
use Rattle.iris_gather.specs.OpenGathers.{unlent}
use Rattle.iris_agent.specs.declared.step.Step.{Step}
use Rattle.iris_agent.specs.declared.step.Step.TheVariants as steps
use Rattle.iris_agent.specs.declared.turn.Turn.{Turn}
use Rattle.iris_agent.specs.Tables.{Tables, at_number, with_cache, with_seat}
use Rattle.iris_agent.specs.Handled.{Handled, only_change}
use Rattle.iris_agent.specs.Opened.{client_gather, ask_gather}

-- ---- pieces

-- of the pieces of a handover the last is that of the node
abbrev pub own_in : List Piece → Option Piece
own_in pieces = slice_get pieces (length pieces - 1)

-- the others are those of the nodes above it
abbrev pub above_in : List Piece → List Piece
above_in pieces = take (length pieces - 1) pieces

-- a piece without its full part
abbrev pub ids_alone : Piece → Piece
ids_alone piece = ids_piece piece.name piece.ids

-- what is held once the ids of the nodes above were taken in
abbrev pub above_handed : Cache → List Piece → Cache
above_handed cache pieces = taken_all cache (map ids_alone (above_in pieces))

-- what is held once the node of a piece is owned, if there is one
abbrev pub own_handed : Cache → Option Piece → Cache
own_handed cache None = cache
own_handed cache (Some piece) = owned_in cache piece

-- what is held once a handover with these pieces was taken: the node is owned, and of the nodes above it the ids are held
abbrev pub handed_in : Cache → List Piece → Cache
handed_in cache pieces = own_handed (above_handed cache pieces) (own_in pieces)

-- ---- what was parked

-- open gathers by their numbers, and the number that is free for the next
pub record Opened : Type 0 where
  pub gathers : ℕ → Option OpenGather
  pub next : ℕ

-- one gather more is open, if there is one
abbrev pub with_opened : Opened → Option Gathering → Opened
with_opened o None = o
with_opened o (Some gather) = record { gathers = at_number o.gathers o.next (Some (unlent gather)); next = suc o.next }

-- the gather that a parked message opens when the node came, under that number, if it opens one
abbrev pub parked_gather : Tables → Turn → ℕ → Message → Option Gathering
parked_gather t turn free (Query request query name epoch floor) = Some (client_gather t (record turn { next_gather = free }) request query floor)
parked_gather t turn free (Ask ask from query start epoch floor) = Some (ask_gather t (record turn { next_gather = free }) ask from query start floor)
parked_gather t turn free (Reply ask pieces) = None
parked_gather t turn free (Update request name epoch number changes) = None
parked_gather t turn free (Handover handover) = None

-- parked queries and asks open their gathers, one after another
abbrev pub parked_opened : Tables → Turn → Opened → List Message → Opened
parked_opened t turn o parked = fold (λ before message. with_opened before (parked_gather t turn before.next message)) o parked

-- a parked update is posted again to this agent, with the epoch of the handover
abbrev pub posted_again : List ℕ → ℕ → Message → Option Step
posted_again id later (Query request query name epoch floor) = None
posted_again id later (Ask ask from query start epoch floor) = None
posted_again id later (Reply ask pieces) = None
posted_again id later (Update request name epoch number changes) = Some (steps.Post id (Update request name later number changes))
posted_again id later (Handover handover) = None

-- ---- a handover

-- what an agent has once it took the node of a handover, before what was parked for it goes on
abbrev pub node_taken : Tables → Handed → Tables
node_taken t h = with_seat (with_cache t (handed_in t.cache h.pieces)) h.name (took (t.seat h.name) h.epoch h.last)

-- the gathers that are open then
abbrev pub gathers_then : Tables → Turn → Handed → Opened
gathers_then t turn h = parked_opened (node_taken t h) turn (record { gathers = t.gather; next = turn.next_gather }) (t.seat h.name).parked

-- a handover that is taken
abbrev pub handover_taken : Tables → Turn → Handed → Handled
handover_taken t turn h = record {
  tables = record (node_taken t h) { gather = (gathers_then t turn h).gathers };
  turn = record turn { next_gather = (gathers_then t turn h).next };
  entries = [];
  steps = filter_map (posted_again t.id h.epoch) (t.seat h.name).parked;
}

-- a handover arrives; it is taken where its epoch is greater than that of the last one taken here
abbrev pub handover_arrives : Tables → Turn → Handed → Handled
handover_arrives t turn h = if nat_le h.epoch (t.seat h.name).taken then only_change t turn else handover_taken t turn h
