-- What happens in a city, and what each event leaves.
use Rattle.std.specs.Prelude.{ℕ, suc, Bool, true, false, if◌then◌else◌, List, Option, Some, None, option_map}
use Rattle.iris_base.specs.declared.name.Label.{Label}
use Rattle.iris_tree.specs.declared.change.Change.{Change}
use Rattle.iris_xpath.specs.Syntax.{Syntax}
use Rattle.iris_route.specs.Titles.{with_title}
use Rattle.iris_book.specs.Entering.{without_answers}
use Rattle.iris_cache.specs.Recency.{Cache, evicted_from}
use Rattle.iris_migrate.specs.declared.message.Message.{Message}
use Rattle.iris_migrate.specs.declared.message.Message.TheVariants.{Query, Ask, Reply, Update, Handover}
use Rattle.iris_gather.specs.declared.basis.Basis.{Basis}
use Rattle.iris_gather.specs.declared.entries.OpenGather.{OpenGather}
use Rattle.iris_gather.specs.Gathers.{Gathering, settled}
use Rattle.iris_gather.specs.OpenGathers.{with_lent}
use Rattle.iris_agent.specs.declared.give.Move.{Move}
use Rattle.iris_agent.specs.Arrivals as at_agent
use Rattle.iris_agent.specs.Decisions.{judged}
use Rattle.iris_agent.specs.Gives.{gives}
use Rattle.iris_agent.specs.Handled.{Handled}
use Rattle.iris_agent.specs.Tables.{with_cache, with_gather}
use Rattle.iris_protocol.specs.Table.{AgentId}
use Rattle.iris_runs.specs.Worlds.{Sent, World, owner_of, epoch_of, posting, marked, closes, with_agent, after}

-- ---- requests

-- a client's query is posted to the owner of its route, or its update to that of its node
abbrev pub query_posted : World → Syntax → List Label → ℕ → World
query_posted w asked name floor = record (posting w (owner_of w.registry name) (Query w.requests asked name (epoch_of w.registry name) floor)) { requests = suc w.requests }

abbrev pub update_posted : World → List Label → ℕ → List Change → World
update_posted w name number changes = record (posting w (owner_of w.registry name) (Update w.requests name (epoch_of w.registry name) number changes)) { requests = suc w.requests }

-- a request takes the next number, and has its outcome at once
abbrev pub counted : World → World
counted w = record (closes w w.requests) { requests = suc w.requests }

-- ---- arrivals

-- A query whose request has its outcome or an open gather, or an update whose request has its outcome, changes nothing. `serving` is whether some agent has an open gather for the request.
abbrev pub is_over : World → Bool → Message → Bool
is_over w serving (Query request asked name epoch floor) = if w.closed request then true else serving
is_over w serving (Ask number from asked start epoch floor) = false
is_over w serving (Reply number pieces) = false
is_over w serving (Update request name epoch number changes) = w.closed request
is_over w serving (Handover handed) = false

-- A message arrives. `kept` is whether the keeper keeps a row, where it is asked to; `waiting` is the gather that waits for a reply.
abbrev pub message_arrives : World → Bool → Bool → Option ℕ → Sent → World
message_arrives w serving kept waiting sent = if is_over w serving sent.message then w else after w sent.to (at_agent.arrives kept waiting (w.agent sent.to) w.turn sent.message)

-- a post is delivered, if it is kept
abbrev pub delivered : World → Bool → Bool → Option ℕ → ℕ → Option Sent → World
delivered w serving kept waiting k None = w
delivered w serving kept waiting k (Some sent) = message_arrives (marked w k) serving kept waiting sent

-- an arrival that ended for want of memory: that is the agent's cache then, which may have taken in some first pieces of the message
abbrev pub interrupted : World → AgentId → Cache → World
interrupted w a cache = with_agent w a (with_cache (w.agent a) cache)

-- ---- gathers

-- an open gather goes on by what was decided over its view
abbrev pub decision_at : World → AgentId → ℕ → Basis → Gathering → Handled
decision_at w a number basis g = judged w.registry (w.agent a) w.turn number (settled g basis.verdict basis.pieces w.turn.next_ask) basis.cites basis.verdict

abbrev pub decided : World → AgentId → ℕ → Basis → Option OpenGather → World
decided w a number basis None = w
decided w a number basis (Some one) = after w a (decision_at w a number basis one.gather)

-- its evaluation is made elsewhere, or is not
abbrev pub lent_there : World → AgentId → ℕ → Bool → World
lent_there w a number lent = with_agent w a (with_gather (w.agent a) number (option_map (with_lent lent) ((w.agent a).gather number)))

-- ---- moves, copies, time, what is forgotten

-- the owner of a node gives it away
abbrev pub move_of : World → List Label → AgentId → Move
move_of w name to = record { name = name; to = to; epoch = suc (epoch_of w.registry name) }

abbrev pub given : World → List Label → AgentId → World
given w name to = after (record w { registry = with_title w.registry name (to, suc (epoch_of w.registry name)) }) (owner_of w.registry name) (gives (w.agent (owner_of w.registry name)) w.turn (move_of w name to))

-- an agent evicts its copy of a node
abbrev pub evicted_at : World → AgentId → List Label → World
evicted_at w a name = with_agent w a (with_cache (w.agent a) (evicted_from (w.agent a).cache name))

abbrev pub advanced : World → ℕ → World
advanced w moment = record w { turn = record w.turn { now = moment } }

-- of the posts only those stay that were never delivered, of the asks that an agent met those that are to stay, and of the book all but answers
abbrev pub forgotten : World → (AgentId → ℕ → Bool) → World
forgotten w stays = record w {
  post = λ k. if w.seen k then None else w.post k;
  agent = λ a. record (w.agent a) { asked = λ number. if stays a number then (w.agent a).asked number else false };
  history = without_answers w.history;
}
