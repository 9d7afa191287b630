-- What the arrival of a message leaves, put together from its small changes.
use Rattle.std.proofs.Common.{◌≡◌, ℕ, Bool, true, false, if◌then◌else◌, List, [], Option, Some, None, IfSome, option_map, refl, sym, ap, ◌∙◌, subst}
use Rattle.std.specs.Prelude.{nat_le}
use Rattle.std.specs.Option.{IsSomeAnd}
use Rattle.iris_base.specs.declared.name.Label.{Label}
use Rattle.iris_tree.specs.declared.change.Change.{Change}
use Rattle.iris_xpath.specs.Syntax.{Syntax}
use Rattle.iris_fragment.specs.declared.piece.Piece.{Piece}
use Rattle.iris_need.specs.declared.need.Start.{Start}
use Rattle.iris_book.specs.Book.{Recorded}
use Rattle.iris_cache.specs.Recency.{taken_all}
use Rattle.iris_migrate.specs.declared.message.Handover.{Handover as Handed}
use Rattle.iris_migrate.specs.declared.message.Message.{Message}
use Rattle.iris_migrate.specs.declared.message.Message.TheVariants.{Query, Ask, Reply, Update, Handover}
use Rattle.iris_migrate.specs.declared.direct.Direct.{Direct}
use Rattle.iris_migrate.specs.Titles.{direct, seat_at, parking, place_of}
use Rattle.iris_gather.specs.declared.entries.OpenGather.{OpenGather}
use Rattle.iris_gather.specs.Gathers.{Gathering, replied}
use Rattle.iris_gather.specs.OpenGathers.{OpenGathers, gather_at, unlent, awaits, IsAwaiting, HaveOwnNumbers, IsAnswered}
use Rattle.iris_agent.specs.declared.step.Step.{Step}
use Rattle.iris_agent.specs.declared.turn.Turn.{Turn}
use Rattle.iris_agent.specs.Arrivals.{mail_directed, parked, with_met, arrives, reply_taken, reply_arrives}
use Rattle.iris_agent.specs.Changes.{HasCache, HasSeat, HasGather, HasAsked}
use Rattle.iris_agent.specs.Events.{Happened, HasArrived, HasReplied, WaitsFor}
use Rattle.iris_agent.specs.Handled.{Handled, Does, only_change, opened_gather}
use Rattle.iris_agent.specs.Handovers.{handover_taken, handover_arrives}
use Rattle.iris_agent.specs.Opened.{ask_gather}
use Rattle.iris_agent.specs.Outside.{Seen}
use Rattle.iris_agent.specs.Tables.{Holdings, Tables, tables_of, is_among, with_gather, with_seat, with_asked}
use Rattle.iris_agent.proofs.EventTies.{happened}
use Rattle.iris_agent.proofs.TableTies.{cache_tie, seat_tie, gather_tie, asked_tie}

-- ---- gathers that are opened

pub opened_tie : (old new : Holdings) (turn : Turn) (gather wanted : Gathering)
    → gather ≡ wanted
    → wanted.id ≡ turn.next_gather
    → HasGather old new gather.id (Some (unlent gather))
    → tables_of new ≡ (opened_gather (tables_of old) turn wanted).tables
opened_tie old new turn gather wanted is id h =
    gather_tie old new gather.id (Some (unlent gather)) h ∙ (λ i. with_gather (tables_of old) ((ap (λ (g : Gathering). g.id) is ∙ id) i) (Some (unlent (is i))))

-- an ask is met, and then its gather is opened
pub asked_opened : (old mid new : Holdings) (turn : Turn) (ask : ℕ) (from : List ℕ) (query : Syntax) (start : Start) (floor : ℕ)
    → HasAsked old mid ask
    → tables_of new ≡ (opened_gather (tables_of mid) turn (ask_gather (tables_of mid) turn ask from query start floor)).tables
    → tables_of new ≡ (opened_gather (with_asked (tables_of old) ask) turn (ask_gather (tables_of old) turn ask from query start floor)).tables
asked_opened old mid new turn ask from query start floor there opened =
    opened ∙ ap (λ (t : Tables). (opened_gather t turn (ask_gather t turn ask from query start floor)).tables) (asked_tie old mid ask there)

-- ---- messages that are parked

-- a message that is no ask is not met by being parked
pub unmet : (t : Tables) (message : Message)
    → ((ask : ℕ) (from : List ℕ) (query : Syntax) (start : Start) (epoch floor : ℕ) → message ≡ Ask ask from query start epoch floor → ⊥)
    → with_met t message ≡ t
unmet t (Query request query name epoch floor) other = refl
unmet t (Ask ask from query start epoch floor) other = absurd (other ask from query start epoch floor refl)
unmet t (Update request name epoch number changes) other = refl
unmet t (Reply ask pieces) other = refl
unmet t (Handover handover) other = refl

pub parked_tie : (old new : Holdings) (message : Message)
    → with_met (tables_of old) message ≡ tables_of old
    → HasSeat old new (place_of message) (parking (seat_at old.titles (place_of message)) message)
    → tables_of new ≡ parked (tables_of old) message
unfolding tables_of
parked_tie old new message none h =
    seat_tie old new (place_of message) (parking (seat_at old.titles (place_of message)) message) h
    ∙ ap (λ (t : Tables). with_seat t (place_of message) (parking (seat_at old.titles (place_of message)) message)) (sym none)

pub asked_parked : (old mid new : Holdings) (ask : ℕ) (message : Message)
    → with_met (tables_of old) message ≡ with_asked (tables_of old) ask
    → HasAsked old mid ask
    → HasSeat mid new (place_of message) (parking (seat_at mid.titles (place_of message)) message)
    → tables_of new ≡ parked (tables_of old) message
unfolding tables_of
asked_parked old mid new ask message met there h =
    seat_tie mid new (place_of message) (parking (seat_at mid.titles (place_of message)) message) h
    ∙ ap (λ (t : Tables). with_seat t (place_of message) (parking (t.seat (place_of message)) message)) (asked_tie old mid ask there)
    ∙ ap (λ (t : Tables). with_seat t (place_of message) (parking (seat_at old.titles (place_of message)) message)) (sym met)

-- ---- the holder of a node

-- what becomes of a message is as its node's seat says
pub directed_as : (old new : Holdings) (turn after : Turn) (message : Message) (made : List Step) (book written : Recorded) (before told : Seen) (has_room : List Step → Type 0) (one other : Direct)
    → one ≡ other
    → Happened (λ kept. mail_directed kept (tables_of old) turn message one) new after made book written before told has_room
    → Happened (λ kept. mail_directed kept (tables_of old) turn message other) new after made book written before told has_room
directed_as old new turn after message made book written before told has_room one other is h =
    subst (λ (d : Direct). Happened (λ kept. mail_directed kept (tables_of old) turn message d) new after made book written before told has_room) is h

-- ---- all messages

-- a message for the holder of a node arrived
pub arrived_mail : (old new : Holdings) (turn after : Turn) (message : Message) (made : List Step) (book written : Recorded) (before told : Seen) (has_room : List Step → Type 0) (to : Direct)
    → ((kept : Bool) → arrives kept None (tables_of old) turn message ≡ mail_directed kept (tables_of old) turn message to)
    → WaitsFor old message None
    → Happened (λ kept. mail_directed kept (tables_of old) turn message to) new after made book written before told has_room
    → HasArrived old new turn after message made book written before told has_room
arrived_mail old new turn after message made book written before told has_room to same waits h = record {
  waiting = None;
  waits = waits;
  happened = subst (λ (event : Bool → Handled). Happened event new after made book written before told has_room) (λ i kept. sym (same kept) i) h;
}

pub query_arrived : (old new : Holdings) (turn after : Turn) (message : Message) (made : List Step) (book written : Recorded) (before told : Seen) (has_room : List Step → Type 0)
    (request : ℕ) (query : Syntax) (name : List Label) (epoch floor : ℕ)
    → message ≡ Query request query name epoch floor
    → Happened (λ kept. mail_directed kept (tables_of old) turn message (direct (seat_at old.titles name) epoch)) new after made book written before told has_room
    → HasArrived old new turn after message made book written before told has_room
unfolding tables_of
query_arrived old new turn after message made book written before told has_room request query name epoch floor is h =
    arrived_mail old new turn after message made book written before told has_room (direct (seat_at old.titles name) epoch)
    (λ kept. subst (λ (m : Message). arrives kept None (tables_of old) turn m ≡ mail_directed kept (tables_of old) turn m (direct (seat_at old.titles name) epoch)) (sym is) refl)
    (subst (λ (m : Message). WaitsFor old m None) (sym is) refl) h

pub update_arrived : (old new : Holdings) (turn after : Turn) (message : Message) (made : List Step) (book written : Recorded) (before told : Seen) (has_room : List Step → Type 0)
    (request : ℕ) (name : List Label) (epoch number : ℕ) (changes : List Change)
    → message ≡ Update request name epoch number changes
    → Happened (λ kept. mail_directed kept (tables_of old) turn message (direct (seat_at old.titles name) epoch)) new after made book written before told has_room
    → HasArrived old new turn after message made book written before told has_room
unfolding tables_of
update_arrived old new turn after message made book written before told has_room request name epoch number changes is h =
    arrived_mail old new turn after message made book written before told has_room (direct (seat_at old.titles name) epoch)
    (λ kept. subst (λ (m : Message). arrives kept None (tables_of old) turn m ≡ mail_directed kept (tables_of old) turn m (direct (seat_at old.titles name) epoch)) (sym is) refl)
    (subst (λ (m : Message). WaitsFor old m None) (sym is) refl) h

pub ask_arrived : (old new : Holdings) (turn after : Turn) (message : Message) (made : List Step) (book written : Recorded) (before told : Seen) (has_room : List Step → Type 0)
    (ask : ℕ) (from : List ℕ) (query : Syntax) (start : Start) (epoch floor : ℕ)
    → message ≡ Ask ask from query start epoch floor
    → is_among old.asked ask ≡ false
    → Happened (λ kept. mail_directed kept (tables_of old) turn message (direct (seat_at old.titles start.name) epoch)) new after made book written before told has_room
    → HasArrived old new turn after message made book written before told has_room
unfolding tables_of
ask_arrived old new turn after message made book written before told has_room ask from query start epoch floor is fresh h =
    arrived_mail old new turn after message made book written before told has_room (direct (seat_at old.titles start.name) epoch)
    (λ kept. subst (λ (m : Message). arrives kept None (tables_of old) turn m ≡ mail_directed kept (tables_of old) turn m (direct (seat_at old.titles start.name) epoch)) (sym is)
    (ap (λ (b : Bool). if b then only_change (tables_of old) turn else mail_directed kept (tables_of old) turn (Ask ask from query start epoch floor) (direct (seat_at old.titles start.name) epoch)) fresh))
    (subst (λ (m : Message). WaitsFor old m None) (sym is) refl) h

-- an ask that was met changes nothing
pub met_arrived : (old : Holdings) (turn : Turn) (message : Message) (made : List Step) (book : Recorded) (keeper : Seen) (has_room : List Step → Type 0)
    (ask : ℕ) (from : List ℕ) (query : Syntax) (start : Start) (epoch floor : ℕ)
    → message ≡ Ask ask from query start epoch floor
    → is_among old.asked ask ≡ true
    → made ≡ []
    → has_room []
    → HasArrived old old turn turn message made book book keeper keeper has_room
unfolding tables_of
met_arrived old turn message made book keeper has_room ask from query start epoch floor is met none room = record {
  waiting = None;
  waits = subst (λ (m : Message). WaitsFor old m None) (sym is) refl;
  happened =
      happened (λ kept. arrives kept None (tables_of old) turn message) (only_change (tables_of old) turn) old turn made book keeper has_room
      (λ kept. ap (arrives kept None (tables_of old) turn) is
      ∙ ap (λ (b : Bool). if b then only_change (tables_of old) turn else mail_directed kept (tables_of old) turn (Ask ask from query start epoch floor) (direct (seat_at old.titles start.name) epoch)) met)
      refl (record { tables = refl; turn = refl; steps = none }) room;
}

-- ---- replies

-- the gather of a number that waits for a reply is there, and takes it
pub may_reply : (gathers : OpenGathers) (number ask : ℕ) (held gather : Gathering) (pieces : List Piece)
    → Some held ≡ option_map (λ one. one.gather) (gather_at gathers number)
    → HaveOwnNumbers gathers
    → awaits ask (gather_at gathers number) ≡ true
    → gather ≡ replied held ask pieces
    → (gather.id ≡ number) × IsSomeAnd (gather_at gathers gather.id) (λ one. IsAnswered ask one.gather gather)
may_reply gathers number ask held gather pieces found own waits is = go (gather_at gathers number) refl found (own number) waits
  where
    go : (one : Option OpenGather) → gather_at gathers number ≡ one → Some held ≡ option_map (λ x. x.gather) one → IfSome one (λ x. x.gather.id ≡ number) → awaits ask one ≡ true
        → (gather.id ≡ number) × IsSomeAnd (gather_at gathers gather.id) (λ one. IsAnswered ask one.gather gather)
    go None at e id w = absurd (cc)
    go (Some x) at e id w = (number_is, subst (λ (o : Option OpenGather). IsSomeAnd o (λ one. IsAnswered ask one.gather gather)) (sym (ap (gather_at gathers) number_is ∙ at)) answered)
      where
        same : held ≡ x.gather
        same = cc e

        number_is : gather.id ≡ number
        number_is = ap (λ (g : Gathering). g.id) is ∙ ap (λ (g : Gathering). g.id) same ∙ id

        answered : IsAnswered ask x.gather gather
        answered = record {
          parent_stays = ap (λ (g : Gathering). g.parent) is ∙ ap (λ (g : Gathering). g.parent) same;
          was_pending = w;
          pending_is = ap (λ (g : Gathering). g.pending) is ∙ ap (λ (g : Gathering). (replied g ask pieces).pending) same;
        }

-- a reply that no gather waited for
pub unawaited : (old : Holdings) (turn : Turn) (ask : ℕ) (pieces : List Piece) (made : List Step)
    → IsAwaiting old.gathers ask None
    → made ≡ []
    → HasReplied old old turn ask pieces made
unawaited old turn ask pieces made waits none = record { waiting = None; waits = waits; does = record { tables = refl; turn = refl; steps = none } }

-- a reply that a gather waited for
pub awaited : (old mid new : Holdings) (turn : Turn) (ask number : ℕ) (pieces : List Piece) (made : List Step)
    → IsAwaiting old.gathers ask (Some number)
    → made ≡ []
    → HasCache old mid (taken_all old.cache pieces)
    → ((one : OpenGather) → gather_at mid.gathers number ≡ Some one → HasGather mid new number (Some (unlent (replied one.gather ask pieces))))
    → HasReplied old new turn ask pieces made
unfolding tables_of
awaited old mid new turn ask number pieces made waits none took step = record {
  waiting = Some number;
  waits = waits;
  does = record { tables = go (gather_at old.gathers number) refl; turn = refl; steps = none };
}
  where
    same : mid.gathers ≡ old.gathers
    same = ap (λ (h : Holdings). h.gathers) took

    go : (one : Option OpenGather) → gather_at old.gathers number ≡ one → tables_of new ≡ reply_taken (tables_of old) number ask pieces (gather_at old.gathers number)
    go None at = absurd (cc (ap (awaits ask) at, waits.0))
    go (Some x) at =
        gather_tie mid new number (Some (unlent (replied x.gather ask pieces))) (step x (ap (λ (gs : OpenGathers). gather_at gs number) same ∙ at))
        ∙ ap (λ (t : Tables). with_gather t number (Some (unlent (replied x.gather ask pieces)))) (cache_tie old mid (taken_all old.cache pieces) took)
        ∙ sym (ap (reply_taken (tables_of old) number ask pieces) at)

-- a reply arrived
pub reply_arrived : (old new : Holdings) (turn : Turn) (message : Message) (made : List Step) (book : Recorded) (keeper : Seen) (has_room : List Step → Type 0) (ask : ℕ) (pieces : List Piece)
    → message ≡ Reply ask pieces
    → HasReplied old new turn ask pieces made
    → has_room made
    → HasArrived old new turn turn message made book book keeper keeper has_room
reply_arrived old new turn message made book keeper has_room ask pieces is h room = record {
  waiting = h.waiting;
  waits = subst (λ (m : Message). WaitsFor old m h.waiting) (sym is) h.waits;
  happened =
      happened (λ kept. arrives kept h.waiting (tables_of old) turn message) (reply_arrives (tables_of old) turn h.waiting ask pieces) new turn made book keeper has_room
      (λ kept. ap (arrives kept h.waiting (tables_of old) turn) is) (enters_none h.waiting) h.does (subst has_room h.does.steps room);
}
  where
    enters_none : (waiting : Option ℕ) → (reply_arrives (tables_of old) turn waiting ask pieces).entries ≡ []
    enters_none None = refl
    enters_none (Some number) = refl

-- a handover enters nothing into the book
handover_enters : (t : Tables) (turn : Turn) (h : Handed) → (handover_arrives t turn h).entries ≡ []
handover_enters t turn h = go (nat_le h.epoch (t.seat h.name).taken)
  where
    go : (stale : Bool) → (if stale then only_change t turn else handover_taken t turn h).entries ≡ []
    go true = refl
    go false = refl

-- a handover arrived
pub handover_arrived : (old new : Holdings) (turn after : Turn) (message : Message) (made : List Step) (book : Recorded) (keeper : Seen) (has_room : List Step → Type 0)
    (handover : Handed)
    → message ≡ Handover handover
    → Does new after made (handover_arrives (tables_of old) turn handover)
    → has_room made
    → HasArrived old new turn after message made book book keeper keeper has_room
handover_arrived old new turn after message made book keeper has_room handover is does room = record {
  waiting = None;
  waits = subst (λ (m : Message). WaitsFor old m None) (sym is) refl;
  happened =
      happened (λ kept. arrives kept None (tables_of old) turn message) (handover_arrives (tables_of old) turn handover) new after made book keeper has_room
      (λ kept. ap (arrives kept None (tables_of old) turn) is) (handover_enters (tables_of old) turn handover) does (subst has_room does.steps room);
}
