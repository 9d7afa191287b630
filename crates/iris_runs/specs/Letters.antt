-- What the protocol sees of messages, of agents, and of what an event at an agent leaves.
use Rattle.std.specs.Prelude.{ℕ, ◌+◌, ◌-◌, ◌*◌, Bool, true, false, ◌&&◌, List, [], ◌∷◌, length, map, Option, Some, None, option_map, Result, Ok, Err}
use Rattle.std.specs.List.{filter_map}
use Rattle.iris_base.specs.declared.limits.TheConstants.{MAX_LABELS}
use Rattle.iris_base.specs.declared.name.Label.{Label}
use Rattle.iris_tree.specs.declared.change.Change.{Change}
use Rattle.iris_tree.specs.declared.local.Local.{Local}
use Rattle.iris_fragment.specs.declared.piece.Level.{Level}
use Rattle.iris_fragment.specs.declared.piece.Level.TheVariants.{Ids, Full}
use Rattle.iris_need.specs.declared.need.Need.{Need}
use Rattle.iris_need.specs.declared.need.Start.{Start}
use Rattle.iris_book.specs.declared.entry.Entry.{Entry}
use Rattle.iris_book.specs.declared.entry.Entry.TheVariants as entries
use Rattle.iris_migrate.specs.declared.direct.Forward.{Forward}
use Rattle.iris_migrate.specs.declared.message.Message.{Message}
use Rattle.iris_migrate.specs.declared.message.Message.TheVariants.{Query, Ask, Reply, Update, Handover}
use Rattle.iris_migrate.specs.Titles.{Seat}
use Rattle.iris_gather.specs.declared.entries.OpenGather.{OpenGather}
use Rattle.iris_gather.specs.declared.parent.Parent.{Parent}
use Rattle.iris_gather.specs.declared.parent.Parent.TheVariants as parents
use Rattle.iris_agent.specs.declared.step.Step.{Step}
use Rattle.iris_agent.specs.declared.step.Step.TheVariants as steps
use Rattle.iris_agent.specs.CityChanges.{changes_in_city}
use Rattle.iris_agent.specs.Handled.{Handled}
use Rattle.iris_agent.specs.Tables.{Tables}
use Rattle.iris_agent.specs.Updates.{value_owned}
use Rattle.iris_protocol.specs.Table.{AgentId}
use Rattle.iris_protocol.specs.Agent as protocol
use Rattle.iris_protocol.specs.World as model
use Rattle.iris_protocol.specs.World.{Mail, Letter, letter_to}

-- ---- how deep

-- How deep an evaluation starts: less for a name that is longer, and for the same name at level Full. Each ask of a gather has a lower rank than the gather.
abbrev pub rank_at : List Label → Level → ℕ
rank_at name Ids = 2 * (MAX_LABELS - length name) + 1
rank_at name Full = 2 * (MAX_LABELS - length name)

abbrev pub rank_of : Start → ℕ
rank_of start = rank_at start.name start.level

-- what is missing, as the protocol sees it
abbrev pub need_of : Need → model.Need
need_of need = record { node = need.name; rank = rank_at need.name need.level }

-- ---- messages

abbrev pub mail_with : ℕ → model.Demand → Mail
mail_with epoch demand = record { epoch = epoch; demand = demand }

-- what a message wants of the holder of its node; a reply and a handover want nothing
abbrev pub mail_of : Message → Option Mail
mail_of (Query request asked name epoch floor) = Some (mail_with epoch (model.query request))
mail_of (Ask number from asked start epoch floor) = Some (mail_with epoch (model.ask number from (rank_of start)))
mail_of (Reply number pieces) = None
mail_of (Update request name epoch number changes) = Some (mail_with epoch (model.update request number))
mail_of (Handover handed) = None

-- the letter that a message is
abbrev pub letter_of : Message → Letter
letter_of (Query request asked name epoch floor) = model.mail name (mail_with epoch (model.query request))
letter_of (Ask number from asked start epoch floor) = model.mail start.name (mail_with epoch (model.ask number from (rank_of start)))
letter_of (Reply number pieces) = model.reply number
letter_of (Update request name epoch number changes) = model.mail name (mail_with epoch (model.update request number))
letter_of (Handover handed) = model.handover handed.name handed.epoch handed.last

-- ---- agents

abbrev pub forward_of : Forward → AgentId × ℕ
forward_of forward = (forward.to, forward.epoch)

-- what an agent knows of a node
abbrev pub seat_of : Seat → model.Seat
seat_of seat = record { last = seat.last; forward = option_map forward_of seat.forward; taken = seat.taken; parked = filter_map mail_of seat.parked }

abbrev pub parent_of : Parent → model.Parent
parent_of (parents.Client request) = model.client request
parent_of (parents.Ask number from) = model.asker number from

-- an open gather
abbrev pub gather_of : OpenGather → model.Gather
gather_of one = record { rank = rank_of one.gather.start; pending = map (λ entry. entry.0) one.gather.pending; parent = parent_of one.gather.parent; lent = one.lent }

-- an agent
unfoldable pub agent_of : Tables → protocol.Agent
agent_of t = record { seat = λ name. seat_of (t.seat name); gather = λ number. option_map gather_of (t.gather number); knows = t.asked }

-- ---- what an event leaves

-- the request of an update that was accepted, with the node and the number that were entered
abbrev pub accepted_by : ℕ → List Entry → protocol.Step
accepted_by request [] = protocol.tell_refused request
accepted_by request (entries.Updated name number changes local at ∷ es) = protocol.tell_accepted request name number
accepted_by request (entries.Gave name to epoch ∷ es) = protocol.tell_refused request
accepted_by request (entries.Answered asked query floor cites ∷ es) = protocol.tell_refused request

-- a step of an event that entered these
abbrev pub step_of : List Entry → Step → protocol.Step
step_of es (steps.Post to message) = protocol.send (letter_to to (letter_of message))
step_of es (steps.Answered request query floor items cites) = protocol.tell_answered request
step_of es (steps.Accepted request version) = accepted_by request es
step_of es (steps.Refused request refusal) = protocol.tell_refused request

-- what an arrival leaves: it takes numbers of gathers
abbrev pub arrival_of : Handled → protocol.Handled
arrival_of h = record { agent = agent_of h.tables; next = h.turn.next_gather; steps = map (step_of h.entries) h.steps }

-- what a decision leaves: it takes numbers of asks
abbrev pub decision_of : Handled → protocol.Handled
decision_of h = record { agent = agent_of h.tables; next = h.turn.next_ask; steps = map (step_of h.entries) h.steps }

-- ---- updates

abbrev pub can_change : List (List ℕ) → List Change → Option Local → Bool
can_change kinds changes None = false
can_change kinds changes (Some local) = go (changes_in_city kinds local changes)
  where
    go : Result Local ℕ → Bool
    go (Ok after) = true
    go (Err at) = false

-- whether the changes of an update can be made and its row is kept
abbrev pub is_kept : Bool → Tables → Message → Bool
is_kept kept t (Query request asked name epoch floor) = kept
is_kept kept t (Ask number from asked start epoch floor) = kept
is_kept kept t (Reply number pieces) = kept
is_kept kept t (Update request name epoch number changes) = can_change t.kinds changes (value_owned t.cache.contents name) && kept
is_kept kept t (Handover handed) = kept
