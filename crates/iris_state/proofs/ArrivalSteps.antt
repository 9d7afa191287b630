-- The steps of an arrival.
use Rattle.std.proofs.Common.{◌≡◌, ℕ, ◌<◌, Bool, true, false, List, [], ◌∷◌, Option, Some, None, All, fold, refl, ap, if◌then◌else◌}
use Rattle.std.proofs.lemmas.List.Elements.{All-nil, All-cons}
use Rattle.std.specs.Prelude.{Result, Ok, Err, nat_le}
use Rattle.std.specs.List.{filter_map}
use Rattle.iris_base.specs.declared.name.Label.{Label}
use Rattle.iris_tree.specs.declared.change.Change.{Change}
use Rattle.iris_tree.specs.declared.local.Local.{Local}
use Rattle.iris_fragment.specs.declared.piece.Piece.{Piece}
use Rattle.iris_book.specs.Book.{Recorded, with_entry}
use Rattle.iris_book.specs.declared.entry.Entry.{Entry}
use Rattle.iris_posts.specs.Posts.{Queue}
use Rattle.iris_migrate.specs.declared.direct.Direct.{Direct}
use Rattle.iris_migrate.specs.declared.direct.Direct.TheVariants.{Serve, Forward, Park}
use Rattle.iris_migrate.specs.declared.key.Key.TheVariants as keys
use Rattle.iris_migrate.specs.declared.message.Message.{Message}
use Rattle.iris_migrate.specs.declared.message.Message.TheVariants.{Query, Ask, Reply, Update, Handover}
use Rattle.iris_migrate.specs.Messages.{key_of}
use Rattle.iris_migrate.specs.Titles.{direct}
use Rattle.iris_gather.specs.declared.entries.OpenGather.{OpenGather}
use Rattle.iris_agent.specs.declared.step.Refusal.{Refusal}
use Rattle.iris_agent.specs.declared.step.Refusal.TheVariants.{Unkept}
use Rattle.iris_agent.specs.declared.step.Step.{Step}
use Rattle.iris_agent.specs.declared.step.Step.TheVariants.{Post, Accepted, Refused}
use Rattle.iris_agent.specs.declared.turn.Turn.{Turn}
use Rattle.iris_agent.specs.Arrivals.{arrives, mail_directed, parked, reply_taken, served}
use Rattle.iris_agent.specs.Handled.{Handled, only_change, only_step}
use Rattle.iris_agent.specs.Handovers.{handover_taken, posted_again}
use Rattle.iris_agent.specs.Outside.{Entered}
use Rattle.iris_agent.specs.Tables.{Tables}
use Rattle.iris_agent.specs.Updates.{made_of, update_made, update_of, value_owned}
use Rattle.iris_outbox.specs.Outbox.{Readiness, answers_in, IsMadeFor}
use Rattle.iris_state.specs.Whole.{IsOf}

-- ---- what an arrival leaves

-- What holds of an agent's change without a step, of one post, of each outcome of an update's request, and of a handover with what it posts again, holds of an arrival. An agent keeps its id in each of these.
record Holds (P : Handled → Type 0) (t : Tables) (message : Message) : Type 0 where
  change : (new : Tables) (turn : Turn) → new.id ≡ t.id → P (only_change new turn)
  step : (turn : Turn) (to : List ℕ) (sent : Message) → P (only_step t turn (Post to sent))
  accepted : (new : Tables) (turn : Turn) (entry : Entry) (request version : ℕ) → new.id ≡ t.id → key_of message ≡ Some (keys.Request request) → P (record { tables = new; turn = turn; entries = entry ∷ []; steps = Accepted request version ∷ [] })
  refused : (turn : Turn) (request : ℕ) (refusal : Refusal) → key_of message ≡ Some (keys.Request request) → P (only_step t turn (Refused request refusal))
  again : (new : Tables) (turn : Turn) (id : List ℕ) (later : ℕ) (parked : List Message) → new.id ≡ t.id → P (record { tables = new; turn = turn; entries = []; steps = filter_map (posted_again id later) parked })

made_holds : (P : Handled → Type 0) (kept : Bool) (t : Tables) (turn : Turn) (request : ℕ) (name : List Label) (epoch number : ℕ) (changes : List Change) (made : Result Local Refusal)
    → Holds P t (Update request name epoch number changes) → P (update_made kept t turn request name number changes made)
made_holds P kept t turn request name epoch number changes (Err refusal) h = h.refused turn request refusal refl
made_holds P true t turn request name epoch number changes (Ok local) h = h.accepted _ turn _ request _ refl refl
made_holds P false t turn request name epoch number changes (Ok local) h = h.refused turn request Unkept refl

update_holds : (P : Handled → Type 0) (kept : Bool) (t : Tables) (turn : Turn) (request : ℕ) (name : List Label) (epoch number : ℕ) (changes : List Change) (own : Option Local) (last : Option ℕ)
    → Holds P t (Update request name epoch number changes) → P (update_of kept t turn request name number changes own last)
update_holds P kept t turn request name epoch number changes (Some local) (Some last) h = made_holds P kept t turn request name epoch number changes (made_of t.kinds local last number changes) h
update_holds P kept t turn request name epoch number changes (Some local) None h = h.change t turn refl
update_holds P kept t turn request name epoch number changes None last h = h.change t turn refl

served_holds : (P : Handled → Type 0) (kept : Bool) (t : Tables) (turn : Turn) (message : Message) → Holds P t message → P (served kept t turn message)
served_holds P kept t turn (Query request query name epoch floor) h = h.change _ _ refl
served_holds P kept t turn (Ask ask from query start epoch floor) h = h.change _ _ refl
served_holds P kept t turn (Update request name epoch number changes) h = update_holds P kept t turn request name epoch number changes (value_owned t.cache.contents name) (t.seat name).last h
served_holds P kept t turn (Reply ask pieces) h = h.change t turn refl
served_holds P kept t turn (Handover handed) h = h.change t turn refl

parked_id : (t : Tables) (message : Message) → (parked t message).id ≡ t.id
parked_id t (Query request query name epoch floor) = refl
parked_id t (Ask ask from query start epoch floor) = refl
parked_id t (Update request name epoch number changes) = refl
parked_id t (Reply ask pieces) = refl
parked_id t (Handover handed) = refl

mail_holds : (P : Handled → Type 0) (kept : Bool) (t : Tables) (turn : Turn) (message : Message) (to : Direct) → Holds P t message → P (mail_directed kept t turn message to)
mail_holds P kept t turn message Serve h = served_holds P kept t turn message h
mail_holds P kept t turn message (Forward to later) h = h.step turn to _
mail_holds P kept t turn message Park h = h.change (parked t message) turn (parked_id t message)

replied_id : (t : Tables) (number ask : ℕ) (pieces : List Piece) (one : Option OpenGather) → (reply_taken t number ask pieces one).id ≡ t.id
replied_id t number ask pieces None = refl
replied_id t number ask pieces (Some one) = refl

arrival_holds : (P : Handled → Type 0) (kept : Bool) (waiting : Option ℕ) (t : Tables) (turn : Turn) (message : Message) → Holds P t message → P (arrives kept waiting t turn message)
arrival_holds P kept waiting t turn (Query request query name epoch floor) h = mail_holds P kept t turn (Query request query name epoch floor) (direct (t.seat name) epoch) h
arrival_holds P kept waiting t turn (Ask ask from query start epoch floor) h =
    let mail = mail_directed kept t turn (Ask ask from query start epoch floor) (direct (t.seat start.name) epoch) in
    elim (t.asked ask) as (λ b. P (if b then only_change t turn else mail)) [ true ↦ h.change t turn refl | false ↦ mail_holds P kept t turn (Ask ask from query start epoch floor) (direct (t.seat start.name) epoch) h ]
arrival_holds P kept waiting t turn (Update request name epoch number changes) h = mail_holds P kept t turn (Update request name epoch number changes) (direct (t.seat name) epoch) h
arrival_holds P kept None t turn (Reply ask pieces) h = h.change t turn refl
arrival_holds P kept (Some number) t turn (Reply ask pieces) h = h.change (reply_taken t number ask pieces (t.gather number)) turn (replied_id t number ask pieces (t.gather number))
arrival_holds P kept waiting t turn (Handover handed) h =
    elim (nat_le handed.epoch (t.seat handed.name).taken) as (λ b. P (if b then only_change t turn else handover_taken t turn handed))
    [ true ↦ h.change t turn refl | false ↦ h.again _ _ t.id handed.epoch (t.seat handed.name).parked refl ]

-- the agent keeps its id
pub keeps_id : (kept : Bool) (waiting : Option ℕ) (t : Tables) (turn : Turn) (message : Message) → (arrives kept waiting t turn message).tables.id ≡ t.id
keeps_id kept waiting t turn message = arrival_holds (λ h. h.tables.id ≡ t.id) kept waiting t turn message (record {
  change = λ new turn same. same;
  step = λ turn to sent. refl;
  accepted = λ new turn entry request version same is. same;
  refused = λ turn request refusal is. refl;
  again = λ new turn id later parked same. same;
})

-- at most one entry comes, and the book has it then
pub has_entered : (old new : Recorded) (kept : Bool) (waiting : Option ℕ) (t : Tables) (turn : Turn) (message : Message) → Entered old new (arrives kept waiting t turn message).entries
    → new.history ≡ fold with_entry old.history (arrives kept waiting t turn message).entries
has_entered old new kept waiting t turn message = arrival_holds (λ h. Entered old new h.entries → new.history ≡ fold with_entry old.history h.entries) kept waiting t turn message (record {
  change = λ other turn same entered. ap (λ (b : Recorded). b.history) entered;
  step = λ turn to sent entered. ap (λ (b : Recorded). b.history) entered;
  accepted = λ other turn entry request version same is entered. entered;
  refused = λ turn request refusal is entered. ap (λ (b : Recorded). b.history) entered;
  again = λ other turn id later parked same entered. ap (λ (b : Recorded). b.history) entered;
})

-- ---- no answer is among them

none_again : (id : List ℕ) (later : ℕ) (parked : List Message) → answers_in (filter_map (posted_again id later) parked) ≡ 0
none_again id later [] = refl
none_again id later (Query request query name epoch floor ∷ parked) = none_again id later parked
none_again id later (Ask ask from query start epoch floor ∷ parked) = none_again id later parked
none_again id later (Reply ask pieces ∷ parked) = none_again id later parked
none_again id later (Update request name epoch number changes ∷ parked) = none_again id later parked
none_again id later (Handover handed ∷ parked) = none_again id later parked

pub no_answers : (kept : Bool) (waiting : Option ℕ) (t : Tables) (turn : Turn) (message : Message) → answers_in (arrives kept waiting t turn message).steps ≡ 0
no_answers kept waiting t turn message = arrival_holds (λ h. answers_in h.steps ≡ 0) kept waiting t turn message (record {
  change = λ new turn same. refl;
  step = λ turn to sent. refl;
  accepted = λ new turn entry request version same is. refl;
  refused = λ turn request refusal is. refl;
  again = λ new turn id later parked same. none_again id later parked;
})

-- ---- each outcome is that of a request that was made

of_none_again : (made : ℕ) (id : List ℕ) (later : ℕ) (parked : List Message) → All (IsOf made) (filter_map (posted_again id later) parked)
of_none_again made id later [] = All-nil (IsOf made)
of_none_again made id later (Query request query name epoch floor ∷ parked) = of_none_again made id later parked
of_none_again made id later (Ask ask from query start epoch floor ∷ parked) = of_none_again made id later parked
of_none_again made id later (Reply ask pieces ∷ parked) = of_none_again made id later parked
of_none_again made id later (Update request name epoch number changes ∷ parked) =
    All-cons (IsOf made) (Post id (Update request name later number changes)) (filter_map (posted_again id later) parked) tt (of_none_again made id later parked)
of_none_again made id later (Handover handed ∷ parked) = of_none_again made id later parked

pub of_requests : (made : ℕ) (kept : Bool) (waiting : Option ℕ) (t : Tables) (turn : Turn) (message : Message) → ((request : ℕ) → key_of message ≡ Some (keys.Request request) → request < made)
    → All (IsOf made) (arrives kept waiting t turn message).steps
of_requests made kept waiting t turn message below = arrival_holds (λ h. All (IsOf made) h.steps) kept waiting t turn message (record {
  change = λ new turn same. All-nil (IsOf made);
  step = λ turn to sent. All-cons (IsOf made) (Post to sent) [] tt (All-nil (IsOf made));
  accepted = λ new turn entry request version same is. All-cons (IsOf made) (Accepted request version) [] (below request is) (All-nil (IsOf made));
  refused = λ turn request refusal is. All-cons (IsOf made) (Refused request refusal) [] (below request is) (All-nil (IsOf made));
  again = λ new turn id later parked same. of_none_again made id later parked;
})

-- ---- what was made ready where the row is kept serves where it is not

-- the steps are the same, or one outcome stands for another
record AreAlike (Q : List Step → List Step → Type 0) : Type 0 where
  same : (ss : List Step) → Q ss ss
  other : (request version : ℕ) (refusal : Refusal) → Q (Accepted request version ∷ []) (Refused request refusal ∷ [])

made_either : (Q : List Step → List Step → Type 0) (kept : Bool) (t : Tables) (turn : Turn) (request : ℕ) (name : List Label) (number : ℕ) (changes : List Change) (made : Result Local Refusal)
    → AreAlike Q → Q (update_made true t turn request name number changes made).steps (update_made kept t turn request name number changes made).steps
made_either Q kept t turn request name number changes (Err refusal) h = h.same _
made_either Q true t turn request name number changes (Ok local) h = h.same _
made_either Q false t turn request name number changes (Ok local) h = h.other request _ Unkept

update_either : (Q : List Step → List Step → Type 0) (kept : Bool) (t : Tables) (turn : Turn) (request : ℕ) (name : List Label) (number : ℕ) (changes : List Change) (own : Option Local) (last : Option ℕ)
    → AreAlike Q → Q (update_of true t turn request name number changes own last).steps (update_of kept t turn request name number changes own last).steps
update_either Q kept t turn request name number changes (Some local) (Some last) h = made_either Q kept t turn request name number changes (made_of t.kinds local last number changes) h
update_either Q kept t turn request name number changes (Some local) None h = h.same _
update_either Q kept t turn request name number changes None last h = h.same _

served_either : (Q : List Step → List Step → Type 0) (kept : Bool) (t : Tables) (turn : Turn) (message : Message) → AreAlike Q → Q (served true t turn message).steps (served kept t turn message).steps
served_either Q kept t turn (Query request query name epoch floor) h = h.same _
served_either Q kept t turn (Ask ask from query start epoch floor) h = h.same _
served_either Q kept t turn (Update request name epoch number changes) h = update_either Q kept t turn request name number changes (value_owned t.cache.contents name) (t.seat name).last h
served_either Q kept t turn (Reply ask pieces) h = h.same _
served_either Q kept t turn (Handover handed) h = h.same _

mail_either : (Q : List Step → List Step → Type 0) (kept : Bool) (t : Tables) (turn : Turn) (message : Message) (to : Direct) → AreAlike Q → Q (mail_directed true t turn message to).steps (mail_directed kept t turn message to).steps
mail_either Q kept t turn message Serve h = served_either Q kept t turn message h
mail_either Q kept t turn message (Forward to later) h = h.same _
mail_either Q kept t turn message Park h = h.same _

arrival_either : (Q : List Step → List Step → Type 0) (kept : Bool) (waiting : Option ℕ) (t : Tables) (turn : Turn) (message : Message) → AreAlike Q
    → Q (arrives true waiting t turn message).steps (arrives kept waiting t turn message).steps
arrival_either Q kept waiting t turn (Query request query name epoch floor) h = mail_either Q kept t turn (Query request query name epoch floor) (direct (t.seat name) epoch) h
arrival_either Q kept waiting t turn (Ask ask from query start epoch floor) h =
    let mail : Bool → Handled = (λ (k : Bool). mail_directed k t turn (Ask ask from query start epoch floor) (direct (t.seat start.name) epoch)) in
    elim (t.asked ask) as (λ b. Q (if b then only_change t turn else mail true).steps (if b then only_change t turn else mail kept).steps)
    [ true ↦ h.same _ | false ↦ mail_either Q kept t turn (Ask ask from query start epoch floor) (direct (t.seat start.name) epoch) h ]
arrival_either Q kept waiting t turn (Update request name epoch number changes) h = mail_either Q kept t turn (Update request name epoch number changes) (direct (t.seat name) epoch) h
arrival_either Q kept waiting t turn (Reply ask pieces) h = h.same _
arrival_either Q kept waiting t turn (Handover handed) h = h.same _

pub room_either : (q : Queue) (r : Readiness) (kept : Bool) (waiting : Option ℕ) (t : Tables) (turn : Turn) (message : Message) → IsMadeFor q r (arrives true waiting t turn message).steps
    → IsMadeFor q r (arrives kept waiting t turn message).steps
room_either q r kept waiting t turn message made = arrival_either (λ ss tt. IsMadeFor q r ss → IsMadeFor q r tt) kept waiting t turn message (record {
  same = λ ss h. h;
  other = λ request version refusal h. record { growth = h.growth; numbers = h.numbers; weights = h.weights; cites = h.cites; lines = h.lines; room = h.room };
}) made
