-- What happens in a city is what the protocol says of it.
use Rattle.std.proofs.Common.{◌≡◌, ℕ, suc, ◌+◌, Bool, true, false, not, ◌&&◌, nat_le, if◌then◌else◌, List, [], ◌∷◌, map, Option, Some, None, IsSome, refl, sym, ap, ◌∙◌, arith}
use Rattle.std.specs.Prelude.{IfSome, option_map, unwrap_or, Result, Ok, Err}
use Rattle.std.specs.Option.{option_map_or}
use Rattle.iris_base.specs.declared.cite.Cite.{Cite}
use Rattle.iris_base.specs.declared.name.Label.{Label}
use Rattle.iris_tree.specs.declared.change.Change.{Change}
use Rattle.iris_tree.specs.declared.local.Local.{Local}
use Rattle.iris_xpath.specs.Syntax.{Syntax}
use Rattle.iris_route.specs.Titles.{Title, Titles, title_at, with_title}
use Rattle.iris_route.proofs.TitleMaps.{name_exact, set_here, set_elsewhere}
use Rattle.iris_migrate.specs.declared.direct.Direct.{Direct}
use Rattle.iris_migrate.specs.declared.direct.Direct.TheVariants as directed
use Rattle.iris_migrate.specs.declared.message.Message.{Message}
use Rattle.iris_migrate.specs.declared.message.Message.TheVariants.{Query, Ask, Reply, Update, Handover}
use Rattle.iris_migrate.specs.Titles.{direct}
use Rattle.iris_cache.specs.Recency.{Cache, evicted_from}
use Rattle.iris_need.specs.declared.need.Need.{Need}
use Rattle.iris_gather.specs.declared.basis.Basis.{Basis}
use Rattle.iris_gather.specs.declared.entries.OpenGather.{OpenGather}
use Rattle.iris_gather.specs.declared.verdict.Verdict.{Verdict}
use Rattle.iris_gather.specs.declared.verdict.Verdict.TheVariants.{Done, Asks}
use Rattle.iris_gather.specs.Gathers.{Gathering, settled}
use Rattle.iris_gather.specs.OpenGathers.{is_due, is_ready, is_none_left, with_lent}
use Rattle.iris_gather.specs.Verdicts.{asks_of}
use Rattle.iris_agent.specs.declared.step.Refusal.{Refusal}
use Rattle.iris_agent.specs.declared.turn.Turn.{Turn}
use Rattle.iris_agent.specs.Arrivals.{served, mail_directed, arrives}
use Rattle.iris_agent.specs.Decisions.{judged}
use Rattle.iris_agent.specs.Gives.{gives}
use Rattle.iris_agent.specs.Handled.{Handled, only_change}
use Rattle.iris_agent.specs.Handovers.{handover_taken}
use Rattle.iris_agent.specs.Tables.{Tables, with_cache, with_gather}
use Rattle.iris_agent.specs.Updates.{value_owned, made_of, update_kept, update_made, update_of}
use Rattle.iris_protocol.specs.Table.{AgentId, names, agents, set_at}
use Rattle.iris_protocol.specs.World as model
use Rattle.iris_protocol.specs.Agent as protocol
use Rattle.iris_protocol.specs.Program.{Program, is_over_letter, program_step, program_steps, after_arrival, after_decision, program_handles, program_arrives, program_gives_by, program_happens}
use Rattle.iris_protocol.proofs.Programs.{field_at, field_same}
use Rattle.iris_runs.specs.Alike.{AsksForSome, MayBeHandled, HaveOwnIds, arrival_at}
use Rattle.iris_runs.specs.Letters.{agent_of, need_of, gather_of, letter_of, is_kept, arrival_of, decision_of}
use Rattle.iris_runs.specs.Worlds.{Sent, World, title_of, owner_of, epoch_of, marked, with_agent, after, post_of, program_of}
use Rattle.iris_runs.specs.Happenings.{query_posted, update_posted, is_over, message_arrives, delivered, interrupted, decision_at, decided, lent_there, move_of, given, forgotten, evicted_at, advanced}
use Rattle.iris_runs.proofs.MessageTies.{message_handled}
use Rattle.iris_runs.proofs.DecisionTies.{decision_tie, give_tie}
use Rattle.iris_runs.proofs.SeatTies.{gather_tie}
use Rattle.iris_runs.proofs.Steps.{begun, posting_told, agent_told, after_told, arrival_told, decision_told}

-- ---- requests

pub query_is : (w : World) (accepted : List model.Entry) (asked : Syntax) (name : List Label) (floor : ℕ)
    → program_of (query_posted w asked name floor) accepted ≡ program_happens (program_of w accepted) false (model.Query name)
unfolding program_of
query_is w accepted asked name floor =
    ap (λ (t : Program). record t { requests = suc t.requests }) (posting_told w accepted (owner_of w.registry name) (Query w.requests asked name (epoch_of w.registry name) floor))

pub update_is : (w : World) (accepted : List model.Entry) (name : List Label) (number : ℕ) (changes : List Change)
    → program_of (update_posted w name number changes) accepted ≡ program_happens (program_of w accepted) false (model.Update name number)
unfolding program_of
update_is w accepted name number changes =
    ap (λ (t : Program). record t { requests = suc t.requests }) (posting_told w accepted (owner_of w.registry name) (Update w.requests name (epoch_of w.registry name) number changes))

-- ---- arrivals

-- an update takes no numbers
update_keeps_turn : (kept : Bool) (t : Tables) (turn : Turn) (request : ℕ) (name : List Label) (number : ℕ) (changes : List Change) (value : Option Local) (last : Option ℕ)
    → (update_of kept t turn request name number changes value last).turn ≡ turn
update_keeps_turn kept t turn request name number changes None last = refl
update_keeps_turn kept t turn request name number changes (Some local) None = refl
update_keeps_turn kept t turn request name number changes (Some local) (Some last) = made (made_of t.kinds local last number changes)
  where
    kept_row : (b : Bool) (after : Local) → (update_kept b t turn request name number changes after).turn ≡ turn
    kept_row true after = refl
    kept_row false after = refl

    made : (r : Result Local Refusal) → (update_made kept t turn request name number changes r).turn ≡ turn
    made (Err refusal) = refl
    made (Ok after) = kept_row kept after

-- the holder of a node takes no numbers of asks
served_keeps_asks : (kept : Bool) (t : Tables) (turn : Turn) (message : Message) → (served kept t turn message).turn.next_ask ≡ turn.next_ask
served_keeps_asks kept t turn (Query request asked name epoch floor) = refl
served_keeps_asks kept t turn (Ask number from asked start epoch floor) = refl
served_keeps_asks kept t turn (Update request name epoch number changes) = ap (λ (u : Turn). u.next_ask) (update_keeps_turn kept t turn request name number changes (value_owned t.cache.contents name) (t.seat name).last)
served_keeps_asks kept t turn (Reply ask pieces) = refl
served_keeps_asks kept t turn (Handover handed) = refl

directed_keeps_asks : (kept : Bool) (t : Tables) (turn : Turn) (message : Message) (d : Direct) → (mail_directed kept t turn message d).turn.next_ask ≡ turn.next_ask
directed_keeps_asks kept t turn message directed.Serve = served_keeps_asks kept t turn message
directed_keeps_asks kept t turn message (directed.Forward to later) = refl
directed_keeps_asks kept t turn message directed.Park = refl

-- no arrival takes numbers of asks
arrives_keeps_asks : (kept : Bool) (waiting : Option ℕ) (t : Tables) (turn : Turn) (message : Message) → (arrives kept waiting t turn message).turn.next_ask ≡ turn.next_ask
arrives_keeps_asks kept waiting t turn (Query request asked name epoch floor) = directed_keeps_asks kept t turn (Query request asked name epoch floor) (direct (t.seat name) epoch)
arrives_keeps_asks kept waiting t turn (Ask number from asked start epoch floor) = by (t.asked number)
  where
    message : Message
    message = Ask number from asked start epoch floor

    by : (b : Bool) → (if b then only_change t turn else mail_directed kept t turn message (direct (t.seat start.name) epoch)).turn.next_ask ≡ turn.next_ask
    by true = refl
    by false = directed_keeps_asks kept t turn message (direct (t.seat start.name) epoch)
arrives_keeps_asks kept waiting t turn (Update request name epoch number changes) = directed_keeps_asks kept t turn (Update request name epoch number changes) (direct (t.seat name) epoch)
arrives_keeps_asks kept None t turn (Reply ask pieces) = refl
arrives_keeps_asks kept (Some number) t turn (Reply ask pieces) = refl
arrives_keeps_asks kept waiting t turn (Handover handed) = by (nat_le handed.epoch (t.seat handed.name).taken)
  where
    by : (b : Bool) → (if b then only_change t turn else handover_taken t turn handed).turn.next_ask ≡ turn.next_ask
    by true = refl
    by false = refl

-- the city and the protocol drop the same messages
pub over_alike : (w : World) (accepted : List model.Entry) (serving : Bool) (message : Message) → is_over_letter (program_of w accepted) serving (letter_of message) ≡ is_over w serving message
unfolding program_of
over_alike w accepted serving (Query request asked name epoch floor) = refl
over_alike w accepted serving (Ask number from asked start epoch floor) = refl
over_alike w accepted serving (Reply number pieces) = refl
over_alike w accepted serving (Update request name epoch number changes) = refl
over_alike w accepted serving (Handover handed) = refl

-- what an agent does as a message arrives is what the protocol says of it
pub message_alike : (w : World) (kept : Bool) (waiting : Option ℕ) (sent : Sent)
    → HaveOwnIds w
    → MayBeHandled (w.agent sent.to) waiting sent.message
    → arrival_of (arrives kept waiting (w.agent sent.to) w.turn sent.message) ≡ protocol.agent_arrives sent.to (agent_of (w.agent sent.to)) (is_kept kept (w.agent sent.to) sent.message) w.turn.next_gather (letter_of sent.message)
message_alike w kept waiting sent own may =
    message_handled kept waiting (w.agent sent.to) w.turn sent.message may
    ∙ ap (λ (id : AgentId). protocol.agent_arrives id (agent_of (w.agent sent.to)) (is_kept kept (w.agent sent.to) sent.message) w.turn.next_gather (letter_of sent.message)) (own sent.to)

-- a message arrives
message_told : (w : World) (accepted : List model.Entry) (serving kept : Bool) (waiting : Option ℕ) (sent : Sent)
    → HaveOwnIds w
    → MayBeHandled (w.agent sent.to) waiting sent.message
    → program_of (message_arrives w serving kept waiting sent) (program_handles (program_of w accepted) serving (is_kept kept (w.agent sent.to) sent.message) sent.to (letter_of sent.message)).book
    ≡ program_handles (program_of w accepted) serving (is_kept kept (w.agent sent.to) sent.message) sent.to (letter_of sent.message)
unfolding program_of
message_told w accepted serving kept waiting sent own may =
    by (is_over_letter (program_of w accepted) serving (letter_of sent.message)) (is_over w serving sent.message) (over_alike w accepted serving sent.message)
  where
    t : Tables
    t = w.agent sent.to

    left : Handled
    left = arrives kept waiting t w.turn sent.message

    told : protocol.Handled
    told = protocol.agent_arrives sent.to (agent_of t) (is_kept kept t sent.message) w.turn.next_gather (letter_of sent.message)

    by : (b over : Bool) → b ≡ over → program_of (if over then w else after w sent.to left) (if b then program_of w accepted else after_arrival (program_of w accepted) sent.to told).book
        ≡ (if b then program_of w accepted else after_arrival (program_of w accepted) sent.to told)
    by true true same = refl
    by true false same = absurd (cc)
    by false true same = absurd (cc)
    by false false same = arrival_told w accepted sent.to left told (arrives_keeps_asks kept waiting t w.turn sent.message) (message_alike w kept waiting sent own may)

-- a post is delivered, if it is kept
delivery_told : (w : World) (accepted : List model.Entry) (serving kept : Bool) (waiting : Option ℕ) (k : ℕ) (o : Option Sent)
    → HaveOwnIds w
    → IfSome o (λ sent. MayBeHandled (w.agent sent.to) waiting sent.message)
    → program_of (delivered w serving kept waiting k o) (program_arrives (program_of w accepted) serving (option_map_or (λ sent. is_kept kept (w.agent sent.to) sent.message) o false) k (option_map post_of o)).book
    ≡ program_arrives (program_of w accepted) serving (option_map_or (λ sent. is_kept kept (w.agent sent.to) sent.message) o false) k (option_map post_of o)
unfolding program_of
delivery_told w accepted serving kept waiting k None own may = refl
delivery_told w accepted serving kept waiting k (Some sent) own may = message_told (marked w k) accepted serving kept waiting sent own may

pub arrival_is : (w : World) (accepted : List model.Entry) (serving kept : Bool) (waiting : Option ℕ) (k : ℕ)
    → HaveOwnIds w
    → IfSome (w.post k) (λ sent. MayBeHandled (w.agent sent.to) waiting sent.message)
    → program_of (delivered w serving kept waiting k (w.post k)) (program_happens (program_of w accepted) serving (arrival_at w kept k)).book ≡ program_happens (program_of w accepted) serving (arrival_at w kept k)
unfolding program_of
arrival_is w accepted serving kept waiting k own may = delivery_told w accepted serving kept waiting k (w.post k) own may

-- ---- gathers

-- no decision takes numbers of gathers
judged_keeps_gathers : (registry : Titles) (t : Tables) (turn : Turn) (number : ℕ) (g : Gathering) (cites : List Cite) (verdict : Verdict) → (judged registry t turn number g cites verdict).turn.next_gather ≡ turn.next_gather
judged_keeps_gathers registry t turn number g cites (Done support items) = refl
judged_keeps_gathers registry t turn number g cites (Asks support missing) = refl

-- a gather is due, or ready, where the protocol has it so
due_alike : (one : OpenGather) → is_due (Some one) ≡ true → model.is_due (gather_of one) ≡ true
due_alike one due = by one.gather.pending one.lent due
  where
    by : (pending : List (ℕ × Need)) (lent : Bool) → is_none_left pending && not lent ≡ true → (if lent then false else model.is_empty (map (λ entry. entry.0) pending)) ≡ true
    by [] true h = absurd (cc)
    by [] false h = refl
    by (p ∷ ps) lent h = absurd (cc)

none_of_ready : (one : OpenGather) → is_ready (Some one) ≡ true → one.gather.pending ≡ []
none_of_ready one ready = by one.gather.pending ready
  where
    by : (pending : List (ℕ × Need)) → is_none_left pending ≡ true → pending ≡ []
    by [] h = refl
    by (p ∷ ps) h = absurd (cc)

ready_of_due : (one : OpenGather) → is_due (Some one) ≡ true → is_ready (Some one) ≡ true
ready_of_due one due = by (is_ready (Some one)) due
  where
    by : (b : Bool) → b && not one.lent ≡ true → b ≡ true
    by true h = refl
    by false h = absurd (cc)

-- the asks of a gather enter nothing into the protocol's book
asks_enter_nothing : (t : Program) (owner : List Label → AgentId) (epoch : List Label → ℕ) (a : AgentId) (next : ℕ) (needs : List model.Need) → (program_steps t (protocol.ask_steps owner epoch a next needs)).book ≡ t.book
asks_enter_nothing t owner epoch a next [] = refl
asks_enter_nothing t owner epoch a next (need ∷ needs) = asks_enter_nothing (program_step t (protocol.send (model.mail_to (owner need.node) need.node (epoch need.node) (model.ask next a need.rank)))) owner epoch a (suc next) needs

-- nor does its end
decisions_enter_nothing : (t : Program) (a : AgentId) (number : ℕ) (y : model.Gather) (needs : List model.Need)
    → (after_decision t a (protocol.agent_judged t.owner t.epoch a (t.agent a) t.next_ask number y needs)).book ≡ t.book
decisions_enter_nothing t a number y [] = by y.parent
  where
    by : (parent : model.Parent) → (after_decision t a (protocol.agent_ends (t.agent a) t.next_ask number parent)).book ≡ t.book
    by (model.client request) = refl
    by (model.asker ask from) = refl
decisions_enter_nothing t a number y (need ∷ needs) =
    let x : protocol.Handled = protocol.agent_judged t.owner t.epoch a (t.agent a) t.next_ask number y (need ∷ needs) in
    asks_enter_nothing (record t { agent = set_at agents t.agent a x.agent; next_ask = x.next }) t.owner t.epoch a t.next_ask (need ∷ needs)

-- a gather that waits for nothing takes the verdict of its evaluation
judged_told : (w : World) (accepted : List model.Entry) (a : AgentId) (number : ℕ) (one : OpenGather) (basis : Basis)
    → HaveOwnIds w
    → AsksForSome basis.verdict
    → one.gather.pending ≡ []
    → program_of (decided w a number basis (Some one)) accepted
    ≡ after_decision (program_of w accepted) a (protocol.agent_judged (owner_of w.registry) (epoch_of w.registry) a (agent_of (w.agent a)) w.turn.next_ask number (gather_of one) (map need_of (asks_of basis.verdict)))
unfolding program_of
judged_told w accepted a number one basis own asks none =
    ap (λ (book : List model.Entry). program_of (decided w a number basis (Some one)) book) (sym (decisions_enter_nothing (program_of w accepted) a number (gather_of one) (map need_of (asks_of basis.verdict))))
    ∙ decision_told w accepted a left told (judged_keeps_gathers w.registry (w.agent a) w.turn number (settled one.gather basis.verdict basis.pieces w.turn.next_ask) basis.cites basis.verdict) alike
  where
    left : Handled
    left = decision_at w a number basis one.gather

    told : protocol.Handled
    told = protocol.agent_judged (owner_of w.registry) (epoch_of w.registry) a (agent_of (w.agent a)) w.turn.next_ask number (gather_of one) (map need_of (asks_of basis.verdict))

    alike : decision_of left ≡ told
    alike = decision_tie w.registry (w.agent a) w.turn number one basis.cites basis.pieces basis.verdict asks none
        ∙ ap (λ (id : AgentId). protocol.agent_judged (owner_of w.registry) (epoch_of w.registry) id (agent_of (w.agent a)) w.turn.next_ask number (gather_of one) (map need_of (asks_of basis.verdict))) (own a)

pub decision_is : (w : World) (accepted : List model.Entry) (a : AgentId) (number : ℕ) (one : OpenGather) (basis : Basis)
    → HaveOwnIds w
    → AsksForSome basis.verdict
    → (w.agent a).gather number ≡ Some one
    → is_due (Some one) ≡ true
    → program_of (decided w a number basis (Some one)) accepted ≡ program_happens (program_of w accepted) false (model.Decide a number (map need_of (asks_of basis.verdict)))
unfolding program_of agent_of
decision_is w accepted a number one basis own asks there due =
    judged_told w accepted a number one basis own asks (none_of_ready one (ready_of_due one due))
    ∙ sym (ap decides there ∙ ap (λ (b : Bool). after_decision (program_of w accepted) a (if b then told else nothing)) (due_alike one due))
  where
    needs : List model.Need
    needs = map need_of (asks_of basis.verdict)

    nothing : protocol.Handled
    nothing = record { agent = agent_of (w.agent a); next = w.turn.next_ask; steps = [] }

    told : protocol.Handled
    told = protocol.agent_judged (owner_of w.registry) (epoch_of w.registry) a (agent_of (w.agent a)) w.turn.next_ask number (gather_of one) needs

    decides : Option OpenGather → Program
    decides o = after_decision (program_of w accepted) a (protocol.agent_decides (owner_of w.registry) (epoch_of w.registry) a (agent_of (w.agent a)) w.turn.next_ask number (option_map gather_of o) needs)

pub commit_is : (w : World) (accepted : List model.Entry) (a : AgentId) (number : ℕ) (one : OpenGather) (basis : Basis)
    → HaveOwnIds w
    → AsksForSome basis.verdict
    → (w.agent a).gather number ≡ Some one
    → is_ready (Some one) ≡ true
    → one.lent ≡ true
    → program_of (decided w a number basis (Some one)) accepted ≡ program_happens (program_of w accepted) false (model.Commit a number (Some (map need_of (asks_of basis.verdict))))
unfolding program_of agent_of
commit_is w accepted a number one basis own asks there ready lent =
    judged_told w accepted a number one basis own asks (none_of_ready one ready)
    ∙ sym (ap commits there ∙ ap (λ (b : Bool). after_decision (program_of w accepted) a (if b then told else nothing)) lent)
  where
    needs : List model.Need
    needs = map need_of (asks_of basis.verdict)

    nothing : protocol.Handled
    nothing = record { agent = agent_of (w.agent a); next = w.turn.next_ask; steps = [] }

    told : protocol.Handled
    told = protocol.agent_judged (owner_of w.registry) (epoch_of w.registry) a (agent_of (w.agent a)) w.turn.next_ask number (gather_of one) needs

    commits : Option OpenGather → Program
    commits o = after_decision (program_of w accepted) a (protocol.agent_commits (owner_of w.registry) (epoch_of w.registry) a (agent_of (w.agent a)) w.turn.next_ask number (option_map gather_of o) (Some needs))

-- a gather is lent, or is not any more
lent_told : (w : World) (accepted : List model.Entry) (a : AgentId) (number : ℕ) (one : OpenGather) (lent : Bool)
    → (w.agent a).gather number ≡ Some one
    → program_of (lent_there w a number lent) accepted
    ≡ record (program_of w accepted) { agent = set_at agents (program_of w accepted).agent a (protocol.agent_gather (agent_of (w.agent a)) number (Some (model.with_lent (gather_of one) lent))) }
unfolding program_of
lent_told w accepted a number one lent there =
    ap (λ (o : Option OpenGather). program_of (with_agent w a (with_gather (w.agent a) number (option_map (with_lent lent) o))) accepted) there
    ∙ agent_told w accepted a (with_gather (w.agent a) number (Some (with_lent lent one)))
    ∙ ap (λ (x : protocol.Agent). record (program_of w accepted) { agent = set_at agents (program_of w accepted).agent a x }) (gather_tie (w.agent a) number (Some (with_lent lent one)))

pub lent_is : (w : World) (accepted : List model.Entry) (a : AgentId) (number : ℕ) (one : OpenGather)
    → (w.agent a).gather number ≡ Some one
    → is_due (Some one) ≡ true
    → program_of (lent_there w a number true) accepted ≡ program_happens (program_of w accepted) false (model.Lend a number)
unfolding program_of agent_of
lent_is w accepted a number one there due =
    lent_told w accepted a number one true there ∙ sym (ap lends there ∙ ap (λ (b : Bool). put (if b then lent else agent_of (w.agent a))) (due_alike one due))
  where
    put : protocol.Agent → Program
    put x = record (program_of w accepted) { agent = set_at agents (program_of w accepted).agent a x }

    lent : protocol.Agent
    lent = protocol.agent_gather (agent_of (w.agent a)) number (Some (model.with_lent (gather_of one) true))

    lends : Option OpenGather → Program
    lends o = put (protocol.agent_lends (agent_of (w.agent a)) number (option_map gather_of o))

pub back_is : (w : World) (accepted : List model.Entry) (a : AgentId) (number : ℕ) (one : OpenGather)
    → (w.agent a).gather number ≡ Some one
    → one.lent ≡ true
    → program_of (lent_there w a number false) accepted ≡ program_happens (program_of w accepted) false (model.GiveBack a number)
unfolding program_of agent_of
back_is w accepted a number one there lent =
    lent_told w accepted a number one false there ∙ sym (ap gives_back there ∙ ap (λ (b : Bool). put (if b then back else agent_of (w.agent a))) lent)
  where
    put : protocol.Agent → Program
    put x = record (program_of w accepted) { agent = set_at agents (program_of w accepted).agent a x }

    back : protocol.Agent
    back = protocol.agent_gather (agent_of (w.agent a)) number (Some (model.with_lent (gather_of one) false))

    gives_back : Option OpenGather → Program
    gives_back o = put (protocol.agent_gives_back (agent_of (w.agent a)) number (option_map gather_of o))

-- where something that an evaluation read has moved, the protocol commits no verdict, and gives the gather back
pub outdated_is : (w : World) (accepted : List model.Entry) (a : AgentId) (number : ℕ) (one : OpenGather)
    → (w.agent a).gather number ≡ Some one
    → one.lent ≡ true
    → program_of (lent_there w a number false) accepted ≡ program_happens (program_of w accepted) false (model.Commit a number None)
unfolding program_of agent_of
outdated_is w accepted a number one there lent = back_is w accepted a number one there lent ∙ ap gives_back there ∙ sym (ap commits there)
  where
    gives_back : Option OpenGather → Program
    gives_back o = record (program_of w accepted) { agent = set_at agents (program_of w accepted).agent a (protocol.agent_gives_back (agent_of (w.agent a)) number (option_map gather_of o)) }

    commits : Option OpenGather → Program
    commits o = after_decision (program_of w accepted) a (protocol.agent_commits (owner_of w.registry) (epoch_of w.registry) a (agent_of (w.agent a)) w.turn.next_ask number (option_map gather_of o) None)

-- ---- a move

-- the registry has another title at a node that it has
title_moved : (registry : Titles) (name : List Label) (title : Title) → IsSome (title_at registry name) → title_of (with_title registry name title) ≡ set_at names (title_of registry) name title
title_moved registry name title there = λ i other. by other (names.same other name) refl i
  where
    by : (other : List Label) (b : Bool) → names.same other name ≡ b → title_of (with_title registry name title) other ≡ (if b then title else title_of registry other)
    by other true same = ap (title_of (with_title registry name title)) (name_exact other name same) ∙ ap (λ (o : Option Title). unwrap_or o ([], 0)) (set_here registry name title there)
    by other false apart = ap (λ (o : Option Title). unwrap_or o ([], 0)) (set_elsewhere registry name other title apart)

pub given_is : (w : World) (accepted : List model.Entry) (name : List Label) (to : AgentId)
    → IsSome (title_at w.registry name)
    → agents.same to (owner_of w.registry name) ≡ false
    → IsSome ((w.agent (owner_of w.registry name)).seat name).last
    → program_of (given w name to) accepted ≡ program_happens (program_of w accepted) false (model.Give name to)
unfolding program_of agent_of
given_is w accepted name to there apart owns =
    after_told titled accepted owner left (moved (suc epoch)) begins
    ∙ ap (λ (n : ℕ). record (moved n) { posted = model.posting (program_of w accepted).posted (model.letter_to to (model.handover name n (unwrap_or last 0))) }) next
    ∙ by last owns
    ∙ sym (ap (λ (b : Bool). if b then program_of w accepted else program_gives_by (program_of w accepted) name to last) apart)
  where
    owner : AgentId
    owner = owner_of w.registry name

    epoch : ℕ
    epoch = epoch_of w.registry name

    last : Option ℕ
    last = ((w.agent owner).seat name).last

    next : suc epoch ≡ epoch + 1
    next = omega arith

    titled : World
    titled = record w { registry = with_title w.registry name (to, suc epoch) }

    left : Handled
    left = gives (w.agent owner) w.turn (move_of w name to)

    -- the registry and the giver, after a move of that number
    moved : ℕ → Program
    moved n = record (program_of w accepted) {
      owner = set_at names (owner_of w.registry) name to;
      epoch = set_at names (epoch_of w.registry) name n;
      agent = set_at agents (program_of w accepted).agent owner (protocol.agent_gives (agent_of (w.agent owner)) name to n);
    }

    titles : title_of (with_title w.registry name (to, suc epoch)) ≡ set_at names (title_of w.registry) name (to, suc epoch)
    titles = title_moved w.registry name (to, suc epoch) there

    begins : begun (program_of titled accepted) owner left ≡ moved (suc epoch)
    begins = λ i. record (program_of w accepted) {
      owner = (ap (λ (f : List Label → Title). λ (n : List Label). (f n).0) titles ∙ field_at names (λ (t : Title). t.0) (title_of w.registry) name (to, suc epoch) to refl) i;
      epoch = (ap (λ (f : List Label → Title). λ (n : List Label). (f n).1) titles ∙ field_at names (λ (t : Title). t.1) (title_of w.registry) name (to, suc epoch) (suc epoch) refl) i;
      agent = set_at agents (program_of w accepted).agent owner (give_tie (w.agent owner) w.turn (move_of w name to) i);
    }

    by : (o : Option ℕ) → IsSome o → record (moved (epoch + 1)) { posted = model.posting (program_of w accepted).posted (model.letter_to to (model.handover name (epoch + 1) (unwrap_or o 0))) } ≡ program_gives_by (program_of w accepted) name to o
    by None some = absurd (cc)
    by (Some number) some = refl

-- ---- what the protocol doesn't see

pub forgotten_is : (w : World) (accepted : List model.Entry) (stays : AgentId → ℕ → Bool)
    → program_of (forgotten w stays) accepted ≡ program_happens (program_of w accepted) false (model.Forget stays)
unfolding program_of agent_of
forgotten_is w accepted stays = λ i. record (program_happens (program_of w accepted) false (model.Forget stays)) { posted = record (program_of w accepted).posted { post = λ k. by (w.seen k) (w.post k) i } }
  where
    by : (seen : Bool) (o : Option Sent) → option_map post_of (if seen then None else o) ≡ (if seen then None else option_map post_of o)
    by true o = refl
    by false o = refl

-- the protocol sees nothing of a cache
pub interrupted_is : (w : World) (accepted : List model.Entry) (a : AgentId) (cache : Cache) → program_of (interrupted w a cache) accepted ≡ program_of w accepted
unfolding program_of agent_of
interrupted_is w accepted a cache = λ i. record (program_of w accepted) { agent = field_same agents agent_of w.agent a (with_cache (w.agent a) cache) refl i }

pub evicted_is : (w : World) (accepted : List model.Entry) (a : AgentId) (name : List Label) → program_of (evicted_at w a name) accepted ≡ program_of w accepted
evicted_is w accepted a name = interrupted_is w accepted a (evicted_from (w.agent a).cache name)

pub advanced_is : (w : World) (accepted : List model.Entry) (moment : ℕ) → program_of (advanced w moment) accepted ≡ program_of w accepted
unfolding program_of
advanced_is w accepted moment = refl
