-- What an event at an agent of the city leaves there and sends is among the agents of the city.
use Rattle.std.proofs.Common.{◌≡◌, ℕ, Bool, true, false, if◌then◌else◌, nat_le, nat_lt, List, [], ◌∷◌, All, Option, Some, None, IfSome, Result, Ok, Err}
use Rattle.std.specs.Cmp.Lexicographic.{pointwise}
use Rattle.std.proofs.lemmas.List.Elements.{All-nil, All-cons, All-head, All-tail, All-push, All-map, All-weaker}
use Rattle.iris_base.specs.declared.cite.Cite.{Cite}
use Rattle.iris_base.specs.declared.name.Label.{Label}
use Rattle.iris_base.specs.NameOrder.{label_eq}
use Rattle.iris_tree.specs.declared.change.Change.{Change}
use Rattle.iris_tree.specs.declared.item.Item.{Item}
use Rattle.iris_tree.specs.declared.local.Local.{Local}
use Rattle.iris_fragment.specs.declared.piece.Piece.{Piece}
use Rattle.iris_need.specs.declared.need.Need.{Need}
use Rattle.iris_route.specs.Titles.{Titles}
use Rattle.iris_cache.specs.Recency.{Cache, renewed_in, released_in, taken_all}
use Rattle.iris_copies.proofs.FragmentPieces.{each_of}
use Rattle.iris_migrate.specs.declared.direct.Direct.{Direct}
use Rattle.iris_migrate.specs.declared.direct.Direct.TheVariants as directed
use Rattle.iris_migrate.specs.declared.direct.Forward.{Forward}
use Rattle.iris_migrate.specs.declared.message.Handover.{Handover as Handed}
use Rattle.iris_migrate.specs.declared.message.Message.{Message}
use Rattle.iris_migrate.specs.declared.message.Message.TheVariants.{Query, Ask, Reply, Update, Handover}
use Rattle.iris_migrate.specs.Messages.{key_of}
use Rattle.iris_migrate.specs.Titles.{Seat, direct, direct_away, direct_by, given, is_parked, parking, place_of, took, with_last, with_parked}
use Rattle.iris_gather.specs.declared.entries.OpenGather.{OpenGather}
use Rattle.iris_gather.specs.declared.parent.Parent.{Parent}
use Rattle.iris_gather.specs.declared.parent.Parent.TheVariants as parents
use Rattle.iris_gather.specs.declared.verdict.Verdict.{Verdict}
use Rattle.iris_gather.specs.declared.verdict.Verdict.TheVariants.{Done, Asks}
use Rattle.iris_gather.specs.Gathers.{Gathering, replied}
use Rattle.iris_gather.specs.OpenGathers.{unlent}
use Rattle.iris_agent.specs.declared.give.Move.{Move}
use Rattle.iris_agent.specs.declared.step.Step.{Step}
use Rattle.iris_agent.specs.declared.step.Step.TheVariants as steps
use Rattle.iris_agent.specs.declared.step.Refusal.{Refusal}
use Rattle.iris_agent.specs.declared.turn.Turn.{Turn}
use Rattle.iris_agent.specs.Arrivals.{arrives, mail_directed, parked, reply_arrives, reply_taken, served, with_epoch, with_met}
use Rattle.iris_agent.specs.Decisions.{all_touched, ask_posted, ending, judged}
use Rattle.iris_agent.specs.Gives.{gives, handover_of}
use Rattle.iris_agent.specs.Handled.{Handled, only_change, only_step}
use Rattle.iris_agent.specs.Handovers.{Opened, gathers_then, handed_in, handover_arrives, handover_taken, node_taken, parked_gather, parked_opened, posted_again, with_opened}
use Rattle.iris_agent.specs.Opened.{client_gather, ask_gather}
use Rattle.iris_agent.specs.Tables.{Tables, at_name, with_asked, with_cache, with_gather, with_seat}
use Rattle.iris_agent.specs.Updates.{made_of, update_made, update_of, value_owned}
use Rattle.iris_protocol.specs.Table.{AgentId}
use Rattle.iris_runs.specs.Among.{NamesThese, ServesThese, IsSentAmong, IsSeatAmong, IsAgentAmong}
use Rattle.iris_runs.specs.Worlds.{owner_of}
use Rattle.iris_runs.proofs.StayGood.{each_number}

-- ---- an agent's tables

-- what holds of the new value and of each old one holds at each name
each_name : {A : Type 0} (P : A → Type 0) (table : List Label → A) (name : List Label) (value : A) → P value → ((n : List Label) → P (table n)) → (n : List Label) → P (at_name table name value n)
each_name {A} P table name value new old n = go (pointwise label_eq n name)
  where
    go : (b : Bool) → P (if b then value else table n)
    go true = new
    go false = old n

seat_among : (here : AgentId → Bool) (t : Tables) (name : List Label) (seat : Seat) → IsSeatAmong here seat → IsAgentAmong here t → IsAgentAmong here (with_seat t name seat)
seat_among here t name seat is among = record { seats = each_name (IsSeatAmong here) t.seat name seat is among.seats; gathers = among.gathers }

-- each of these open gathers is made for an agent of the city, or for a client
abbrev AreGathersAmong : (AgentId → Bool) → (ℕ → Option OpenGather) → Type 0
AreGathersAmong here gathers = (number : ℕ) → IfSome (gathers number) (λ one. ServesThese here one.gather.parent)

gathers_among : (here : AgentId → Bool) (t : Tables) (gathers : ℕ → Option OpenGather) → AreGathersAmong here gathers → IsAgentAmong here t → IsAgentAmong here (record t { gather = gathers })
gathers_among here t gathers are among = record { seats = among.seats; gathers = are }

pub gather_among : (here : AgentId → Bool) (t : Tables) (number : ℕ) (one : Option OpenGather) → IfSome one (λ g. ServesThese here g.gather.parent) → IsAgentAmong here t → IsAgentAmong here (with_gather t number one)
gather_among here t number one serves among =
    gathers_among here t (with_gather t number one).gather (each_number (λ (o : Option OpenGather). IfSome o (λ g. ServesThese here g.gather.parent)) t.gather number one serves among.gathers) among

-- of what an agent holds and of the asks that it met nothing is said
pub cache_among : (here : AgentId → Bool) (t : Tables) (cache : Cache) → IsAgentAmong here t → IsAgentAmong here (with_cache t cache)
cache_among here t cache among = record { seats = among.seats; gathers = among.gathers }

pub met_among : (here : AgentId → Bool) (t : Tables) (asked : ℕ → Bool) → IsAgentAmong here t → IsAgentAmong here (record t { asked = asked })
met_among here t asked among = record { seats = among.seats; gathers = among.gathers }

-- ---- what an event leaves

-- what is posted is among these
abbrev pub IsStepAmong : (AgentId → Bool) → Step → Type 0
IsStepAmong here (steps.Post to message) = IsSentAmong here (record { to = to; message = message })
IsStepAmong here (steps.Answered request asked floor items cites) = Unit {0}
IsStepAmong here (steps.Accepted request version) = Unit {0}
IsStepAmong here (steps.Refused request refusal) = Unit {0}

-- What an event leaves of the agent, and its steps.
pub record LeavesAmong (here : AgentId → Bool) (h : Handled) : Type 0 where
  pub agent : IsAgentAmong here h.tables
  pub sends : All (IsStepAmong here) h.steps

nothing_sent : (here : AgentId → Bool) (t : Tables) (turn : Turn) → IsAgentAmong here t → LeavesAmong here (only_change t turn)
nothing_sent here t turn among = record { agent = among; sends = All-nil (IsStepAmong here) }

one_sent : (here : AgentId → Bool) (t : Tables) (turn : Turn) (s : Step) → IsStepAmong here s → IsAgentAmong here t → LeavesAmong here (only_step t turn s)
one_sent here t turn s is among = record { agent = among; sends = All-cons (IsStepAmong here) s [] is (All-nil (IsStepAmong here)) }

-- ---- updates

made_among : (here : AgentId → Bool) (kept : Bool) (t : Tables) (turn : Turn) (request : ℕ) (name : List Label) (number : ℕ) (changes : List Change) (made : Result Local Refusal) → IsAgentAmong here t
    → LeavesAmong here (update_made kept t turn request name number changes made)
made_among here kept t turn request name number changes (Err refusal) among = one_sent here t turn (steps.Refused request refusal) tt among
made_among here false t turn request name number changes (Ok local) among = one_sent here t turn _ tt among
made_among here true t turn request name number changes (Ok local) among = record {
  agent = seat_among here (with_cache t (renewed_in t.cache name local)) name (with_last (t.seat name) number) (record { sends_on = (among.seats name).sends_on; parked = (among.seats name).parked })
      (cache_among here t (renewed_in t.cache name local) among);
  sends = All-cons (IsStepAmong here) _ [] tt (All-nil (IsStepAmong here));
}

update_among : (here : AgentId → Bool) (kept : Bool) (t : Tables) (turn : Turn) (request : ℕ) (name : List Label) (number : ℕ) (changes : List Change) (value : Option Local) (last : Option ℕ) → IsAgentAmong here t
    → LeavesAmong here (update_of kept t turn request name number changes value last)
update_among here kept t turn request name number changes (Some local) (Some last) among = made_among here kept t turn request name number changes (made_of t.kinds local last number changes) among
update_among here kept t turn request name number changes (Some local) None among = nothing_sent here t turn among
update_among here kept t turn request name number changes None last among = nothing_sent here t turn among

-- ---- messages for a node

served_among : (here : AgentId → Bool) (kept : Bool) (t : Tables) (turn : Turn) (message : Message) → NamesThese here message → IsAgentAmong here t → LeavesAmong here (served kept t turn message)
served_among here kept t turn (Query request asked name epoch floor) names among =
    nothing_sent here (with_gather t turn.next_gather (Some (unlent (client_gather t turn request asked floor)))) _ (gather_among here t turn.next_gather (Some (unlent (client_gather t turn request asked floor))) tt among)
served_among here kept t turn (Ask ask from asked start epoch floor) names among =
    let one = Some (unlent (ask_gather t turn ask from asked start floor)) in
    nothing_sent here (with_gather (with_asked t ask) turn.next_gather one) _ (gather_among here (with_asked t ask) turn.next_gather one names (met_among here t (with_asked t ask).asked among))
served_among here kept t turn (Update request name epoch number changes) names among = update_among here kept t turn request name number changes (value_owned t.cache.contents name) (t.seat name).last among
served_among here kept t turn (Reply ask pieces) names among = nothing_sent here t turn among
served_among here kept t turn (Handover handed) names among = nothing_sent here t turn among

-- a message names the same with another epoch
epoch_among : (here : AgentId → Bool) (message : Message) (later : ℕ) → NamesThese here message → NamesThese here (with_epoch message later)
epoch_among here (Query request asked name epoch floor) later names = tt
epoch_among here (Ask ask from asked start epoch floor) later names = names
epoch_among here (Update request name epoch number changes) later names = tt
epoch_among here (Reply ask pieces) later names = tt
epoch_among here (Handover handed) later names = tt

parking_among : (here : AgentId → Bool) (seat : Seat) (message : Message) → NamesThese here message → IsSeatAmong here seat → IsSeatAmong here (parking seat message)
parking_among here seat message names is = go (is_parked seat (key_of message))
  where
    go : (b : Bool) → IsSeatAmong here (if b then seat else with_parked seat message)
    go true = is
    go false = record { sends_on = is.sends_on; parked = All-push (NamesThese here) seat.parked message is.parked names }

parked_among : (here : AgentId → Bool) (t : Tables) (message : Message) → NamesThese here message → IsAgentAmong here t → IsAgentAmong here (parked t message)
parked_among here t message names among =
    seat_among here (with_met t message) (place_of message) (parking (t.seat (place_of message)) message) (parking_among here (t.seat (place_of message)) message names (among.seats (place_of message))) (met message)
  where
    met : (m : Message) → IsAgentAmong here (with_met t m)
    met (Query request asked name epoch floor) = among
    met (Ask ask from asked start epoch floor) = met_among here t (with_asked t ask).asked among
    met (Update request name epoch number changes) = among
    met (Reply ask pieces) = among
    met (Handover handed) = among

-- what is sent on goes to one of these
abbrev IsDirectAmong : (AgentId → Bool) → Direct → Type 0
IsDirectAmong here directed.Serve = Unit {0}
IsDirectAmong here (directed.Forward to later) = here to ≡ true
IsDirectAmong here directed.Park = Unit {0}

direct_among : (here : AgentId → Bool) (seat : Seat) (epoch : ℕ) → IsSeatAmong here seat → IsDirectAmong here (direct seat epoch)
direct_among here seat epoch is = by seat.last
  where
    away : (forward : Option Forward) → IfSome forward (λ move. here move.to ≡ true) → IsDirectAmong here (direct_away forward epoch)
    away None to = tt
    away (Some move) to = go (nat_lt epoch move.epoch)
      where
        go : (b : Bool) → IsDirectAmong here (if b then directed.Forward move.to move.epoch else directed.Park)
        go true = to
        go false = tt

    by : (last : Option ℕ) → IsDirectAmong here (direct_by last seat.forward epoch)
    by (Some last) = tt
    by None = away seat.forward is.sends_on

mail_among : (here : AgentId → Bool) (kept : Bool) (t : Tables) (turn : Turn) (message : Message) (to : Direct) → NamesThese here message → IsDirectAmong here to → IsAgentAmong here t → LeavesAmong here (mail_directed kept t turn message to)
mail_among here kept t turn message directed.Serve names is among = served_among here kept t turn message names among
mail_among here kept t turn message (directed.Forward to later) names is among = one_sent here t turn (steps.Post to (with_epoch message later)) (record { addressee = is; names = epoch_among here message later names }) among
mail_among here kept t turn message directed.Park names is among = nothing_sent here (parked t message) turn (parked_among here t message names among)

-- ---- replies

reply_among : (here : AgentId → Bool) (t : Tables) (turn : Turn) (waiting : Option ℕ) (ask : ℕ) (pieces : List Piece) → IsAgentAmong here t → LeavesAmong here (reply_arrives t turn waiting ask pieces)
reply_among here t turn None ask pieces among = nothing_sent here t turn among
reply_among here t turn (Some number) ask pieces among = nothing_sent here (reply_taken t number ask pieces (t.gather number)) turn (taken (t.gather number) (among.gathers number))
  where
    taken : (o : Option OpenGather) → IfSome o (λ one. ServesThese here one.gather.parent) → IsAgentAmong here (reply_taken t number ask pieces o)
    taken None serves = among
    taken (Some one) serves =
        let after = Some (unlent (replied one.gather ask pieces)) in
        cache_among here (with_gather t number after) (taken_all t.cache pieces) (gather_among here t number after serves among)

-- ---- handovers

opened_among : (here : AgentId → Bool) (t : Tables) (turn : Turn) (o : Opened) (message : Message) → NamesThese here message → AreGathersAmong here o.gathers → AreGathersAmong here (with_opened o (parked_gather t turn o.next message)).gathers
opened_among here t turn o message names are = more (parked_gather t turn o.next message) (serves message names)
  where
    serves : (m : Message) → NamesThese here m → IfSome (parked_gather t turn o.next m) (λ g. ServesThese here g.parent)
    serves (Query request asked name epoch floor) names = tt
    serves (Ask ask from asked start epoch floor) names = names
    serves (Reply ask pieces) names = tt
    serves (Update request name epoch number changes) names = tt
    serves (Handover handed) names = tt

    more : (gather : Option Gathering) → IfSome gather (λ g. ServesThese here g.parent) → AreGathersAmong here (with_opened o gather).gathers
    more None is = are
    more (Some gather) is = each_number (λ (g : Option OpenGather). IfSome g (λ one. ServesThese here one.gather.parent)) o.gathers o.next (Some (unlent gather)) is are

all_opened_among : (here : AgentId → Bool) (t : Tables) (turn : Turn) (o : Opened) (parked : List Message) → All (NamesThese here) parked → AreGathersAmong here o.gathers → AreGathersAmong here (parked_opened t turn o parked).gathers
all_opened_among here t turn o [] names are = are
all_opened_among here t turn o (message ∷ parked) names are =
    all_opened_among here t turn (with_opened o (parked_gather t turn o.next message)) parked (All-tail (NamesThese here) message parked names)
    (opened_among here t turn o message (All-head (NamesThese here) message parked names) are)

-- a parked update is posted again to the agent itself
again_among : (here : AgentId → Bool) (id : AgentId) (epoch : ℕ) (message : Message) → here id ≡ true → IfSome (posted_again id epoch message) (IsStepAmong here)
again_among here id epoch (Query request asked name earlier floor) own = tt
again_among here id epoch (Ask ask from asked start earlier floor) own = tt
again_among here id epoch (Reply ask pieces) own = tt
again_among here id epoch (Update request name earlier number changes) own = record { addressee = own; names = tt }
again_among here id epoch (Handover handed) own = tt

handover_among : (here : AgentId → Bool) (t : Tables) (turn : Turn) (handed : Handed) → here t.id ≡ true → IsAgentAmong here t → LeavesAmong here (handover_arrives t turn handed)
handover_among here t turn handed own among = go (nat_le handed.epoch (t.seat handed.name).taken)
  where
    node : IsAgentAmong here (node_taken t handed)
    node = seat_among here (with_cache t (handed_in t.cache handed.pieces)) handed.name (took (t.seat handed.name) handed.epoch handed.last) (record { sends_on = (among.seats handed.name).sends_on; parked = All-nil (NamesThese here) })
        (cache_among here t (handed_in t.cache handed.pieces) among)

    go : (b : Bool) → LeavesAmong here (if b then only_change t turn else handover_taken t turn handed)
    go true = nothing_sent here t turn among
    go false = record {
      agent = gathers_among here (node_taken t handed) (gathers_then t turn handed).gathers
          (all_opened_among here (node_taken t handed) turn (record { gathers = t.gather; next = turn.next_gather }) (t.seat handed.name).parked (among.seats handed.name).parked among.gathers) node;
      sends = each_of (IsStepAmong here) (posted_again t.id handed.epoch) (t.seat handed.name).parked (λ message there. again_among here t.id handed.epoch message own);
    }

-- ---- all messages

pub arrived_among : (here : AgentId → Bool) (kept : Bool) (waiting : Option ℕ) (t : Tables) (turn : Turn) (message : Message) → here t.id ≡ true → NamesThese here message → IsAgentAmong here t → LeavesAmong here (arrives kept waiting t turn message)
arrived_among here kept waiting t turn (Query request asked name epoch floor) own names among =
    mail_among here kept t turn (Query request asked name epoch floor) (direct (t.seat name) epoch) names (direct_among here (t.seat name) epoch (among.seats name)) among
arrived_among here kept waiting t turn (Ask ask from asked start epoch floor) own names among = go (t.asked ask)
  where
    go : (b : Bool) → LeavesAmong here (if b then only_change t turn else mail_directed kept t turn (Ask ask from asked start epoch floor) (direct (t.seat start.name) epoch))
    go true = nothing_sent here t turn among
    go false = mail_among here kept t turn (Ask ask from asked start epoch floor) (direct (t.seat start.name) epoch) names (direct_among here (t.seat start.name) epoch (among.seats start.name)) among
arrived_among here kept waiting t turn (Update request name epoch number changes) own names among =
    mail_among here kept t turn (Update request name epoch number changes) (direct (t.seat name) epoch) names (direct_among here (t.seat name) epoch (among.seats name)) among
arrived_among here kept waiting t turn (Reply ask pieces) own names among = reply_among here t turn waiting ask pieces among
arrived_among here kept waiting t turn (Handover handed) own names among = handover_among here t turn handed own among

-- ---- decisions

ending_among : (here : AgentId → Bool) (g : Gathering) (items : List Item) (cites : List Cite) (parent : Parent) → ServesThese here parent → IsStepAmong here (ending g items cites parent)
ending_among here g items cites (parents.Client request) serves = tt
ending_among here g items cites (parents.Ask ask from) serves = record { addressee = serves; names = tt }

-- a gather ends, or asks the owners of what is missing
pub judged_among : (here : AgentId → Bool) (registry : Titles) (t : Tables) (turn : Turn) (number : ℕ) (g : Gathering) (cites : List Cite) (verdict : Verdict)
    → here t.id ≡ true
    → All (λ ask. here (owner_of registry ask.1.name) ≡ true) g.pending
    → ServesThese here g.parent
    → IsAgentAmong here t
    → LeavesAmong here (judged registry t turn number g cites verdict)
judged_among here registry t turn number g cites (Done support items) own asked serves among = record {
  agent = gather_among here (with_cache t (all_touched t.cache support)) number None tt (cache_among here t (all_touched t.cache support) among);
  sends = All-cons (IsStepAmong here) (ending g items cites g.parent) [] (ending_among here g items cites g.parent serves) (All-nil (IsStepAmong here));
}
judged_among here registry t turn number g cites (Asks support missing) own asked serves among = record {
  agent = gather_among here (with_cache t (all_touched t.cache support)) number (Some (unlent g)) serves (cache_among here t (all_touched t.cache support) among);
  sends = All-map (IsStepAmong here) (ask_posted registry t.id g) g.pending
      (All-weaker (λ (ask : ℕ × Need). here (owner_of registry ask.1.name) ≡ true) (λ ask. IsStepAmong here (ask_posted registry t.id g ask)) (λ ask to. record { addressee = to; names = own }) g.pending asked);
}

-- ---- moves

pub gives_among : (here : AgentId → Bool) (t : Tables) (turn : Turn) (move : Move) → here move.to ≡ true → IsAgentAmong here t → LeavesAmong here (gives t turn move)
gives_among here t turn move to among = record {
  agent = seat_among here (with_cache t (released_in t.cache move.name turn.now)) move.name (given (t.seat move.name) move.to move.epoch) (record { sends_on = to; parked = (among.seats move.name).parked })
      (cache_among here t (released_in t.cache move.name turn.now) among);
  sends = All-cons (IsStepAmong here) (steps.Post move.to (Handover (handover_of t turn move))) [] (record { addressee = to; names = tt }) (All-nil (IsStepAmong here));
}
