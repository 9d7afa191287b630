-- What the arrival of a message leaves.
use Rattle.std.specs.Prelude.{ℕ, Bool, false, List, Option, Some, None, if◌then◌else◌}
use Rattle.iris_fragment.specs.declared.piece.Piece.{Piece}
use Rattle.iris_cache.specs.Recency.{taken_all}
use Rattle.iris_migrate.specs.declared.message.Message.{Message}
use Rattle.iris_migrate.specs.declared.message.Message.TheVariants.{Query, Ask, Reply, Update, Handover}
use Rattle.iris_migrate.specs.declared.direct.Direct.{Direct}
use Rattle.iris_migrate.specs.declared.direct.Direct.TheVariants as directed
use Rattle.iris_migrate.specs.Titles.{direct, parking, place_of}
use Rattle.iris_gather.specs.declared.entries.OpenGather.{OpenGather}
use Rattle.iris_gather.specs.Gathers.{replied}
use Rattle.iris_gather.specs.OpenGathers.{unlent}
use Rattle.iris_agent.specs.declared.step.Step.TheVariants as steps
use Rattle.iris_agent.specs.declared.turn.Turn.{Turn}
use Rattle.iris_agent.specs.Tables.{Tables, with_cache, with_seat, with_gather, with_asked}
use Rattle.iris_agent.specs.Handled.{Handled, only_step, only_change, opened_gather}
use Rattle.iris_agent.specs.Opened.{client_gather, ask_gather}
use Rattle.iris_agent.specs.Updates.{update_served}
use Rattle.iris_agent.specs.Handovers.{handover_arrives}

-- ---- what the holder of a node does

-- a message is served by the holder of its node; `kept` is whether the keeper keeps a row, where it is asked to
abbrev pub served : Bool → Tables → Turn → Message → Handled
served kept t turn (Query request query name epoch floor) = opened_gather t turn (client_gather t turn request query floor)
served kept t turn (Ask ask from query start epoch floor) = opened_gather (with_asked t ask) turn (ask_gather t turn ask from query start floor)
served kept t turn (Update request name epoch number changes) = update_served kept t turn request name number changes
served kept t turn (Reply ask pieces) = only_change t turn
served kept t turn (Handover handover) = only_change t turn

-- ---- what others do

-- the message with that epoch of its node; a reply and a handover stay
abbrev pub with_epoch : Message → ℕ → Message
with_epoch (Query request query name epoch floor) later = Query request query name later floor
with_epoch (Ask ask from query start epoch floor) later = Ask ask from query start later floor
with_epoch (Update request name epoch number changes) later = Update request name later number changes
with_epoch (Reply ask pieces) later = Reply ask pieces
with_epoch (Handover handover) later = Handover handover

-- whether a message is an ask that was opened or parked here
abbrev pub is_met : Tables → Message → Bool
is_met t (Query request query name epoch floor) = false
is_met t (Ask ask from query start epoch floor) = t.asked ask
is_met t (Update request name epoch number changes) = false
is_met t (Reply ask pieces) = false
is_met t (Handover handover) = false

-- an ask that is opened or parked is met
abbrev pub with_met : Tables → Message → Tables
with_met t (Query request query name epoch floor) = t
with_met t (Ask ask from query start epoch floor) = with_asked t ask
with_met t (Update request name epoch number changes) = t
with_met t (Reply ask pieces) = t
with_met t (Handover handover) = t

-- a message is parked for its node, unless its request or its ask is parked there
abbrev pub parked : Tables → Message → Tables
parked t message = with_seat (with_met t message) (place_of message) (parking (t.seat (place_of message)) message)

-- a message is served, sent on or parked
abbrev pub mail_directed : Bool → Tables → Turn → Message → Direct → Handled
mail_directed kept t turn message directed.Serve = served kept t turn message
mail_directed kept t turn message (directed.Forward to later) = only_step t turn (steps.Post to (with_epoch message later))
mail_directed kept t turn message directed.Park = only_change (parked t message) turn

-- ---- replies

-- the gather of a number takes a reply that it waited for, and so does what the agent holds
abbrev pub reply_taken : Tables → ℕ → ℕ → List Piece → Option OpenGather → Tables
reply_taken t number ask pieces None = t
reply_taken t number ask pieces (Some one) = with_cache (with_gather t number (Some (unlent (replied one.gather ask pieces)))) (taken_all t.cache pieces)

-- a reply arrives; `waiting` is the number of the gather that waits for it, if one does
abbrev pub reply_arrives : Tables → Turn → Option ℕ → ℕ → List Piece → Handled
reply_arrives t turn None ask pieces = only_change t turn
reply_arrives t turn (Some number) ask pieces = only_change (reply_taken t number ask pieces (t.gather number)) turn

-- ---- all messages

-- A message arrives. An ask that was opened or parked here before changes nothing.
abbrev pub arrives : Bool → Option ℕ → Tables → Turn → Message → Handled
arrives kept waiting t turn (Query request query name epoch floor) = mail_directed kept t turn (Query request query name epoch floor) (direct (t.seat name) epoch)
arrives kept waiting t turn (Ask ask from query start epoch floor) =
    if t.asked ask then only_change t turn else mail_directed kept t turn (Ask ask from query start epoch floor) (direct (t.seat start.name) epoch)
arrives kept waiting t turn (Update request name epoch number changes) = mail_directed kept t turn (Update request name epoch number changes) (direct (t.seat name) epoch)
arrives kept waiting t turn (Reply ask pieces) = reply_arrives t turn waiting ask pieces
arrives kept waiting t turn (Handover handover) = handover_arrives t turn handover
