-- What an agent does as a message arrives is what the protocol says of its letter.
use Rattle.std.proofs.Common.{◌≡◌, ℕ, Bool, Option}
use Rattle.iris_migrate.specs.declared.message.Message.{Message}
use Rattle.iris_migrate.specs.declared.message.Message.TheVariants.{Query, Ask, Reply, Update, Handover}
use Rattle.iris_agent.specs.declared.turn.Turn.{Turn}
use Rattle.iris_agent.specs.Arrivals.{arrives}
use Rattle.iris_agent.specs.Tables.{Tables}
use Rattle.iris_protocol.specs.Agent.{agent_arrives}
use Rattle.iris_runs.specs.Alike.{MayBeHandled}
use Rattle.iris_runs.specs.Letters.{agent_of, arrival_of, is_kept, letter_of}
use Rattle.iris_runs.proofs.ArrivalTies.{query_arrives, ask_arrives, update_arrives}
use Rattle.iris_runs.proofs.HandoverTies.{handover_arrives}
use Rattle.iris_runs.proofs.ReplyTies.{reply_arrives}

pub message_handled : (kept : Bool) (waiting : Option ℕ) (t : Tables) (turn : Turn) (message : Message)
    → MayBeHandled t waiting message
    → arrival_of (arrives kept waiting t turn message) ≡ agent_arrives t.id (agent_of t) (is_kept kept t message) turn.next_gather (letter_of message)
message_handled kept waiting t turn (Query request asked name epoch floor) may = query_arrives kept waiting t turn request asked name epoch floor
message_handled kept waiting t turn (Ask ask from asked start epoch floor) may = ask_arrives kept waiting t turn ask from asked start epoch floor
message_handled kept waiting t turn (Reply ask pieces) may = reply_arrives kept waiting t turn ask pieces may
message_handled kept waiting t turn (Update request name epoch number changes) may = update_arrives kept waiting t turn request name epoch number changes may
message_handled kept waiting t turn (Handover handed) may = handover_arrives kept waiting t turn handed may
