-- What the arrival of a query, an ask, an update or a reply leaves is right.
use Rattle.std.proofs.Common.{◌≡◌, ℕ, ◌≤◌, nat_eq, Bool, true, false, cond, if◌then◌else◌, is_some, List, [], ◌∷◌, All, Option, Some, None, IsSome, IfSome, refl, sym, ap, subst, ◌∙◌}
use Rattle.std.specs.Cmp.Lexicographic.{pointwise}
use Rattle.std.specs.BTreeMap.{is_at}
use Rattle.std.specs.Map.{remove_entry}
use Rattle.std.specs.Ordering.{nat_cmp}
use Rattle.std.proofs.lemmas.Bool.{false≢true, eqb-true}
use Rattle.std.proofs.lemmas.List.Elements.{All-nil, All-cons, All-append, All-head, All-tail}
use Rattle.iris_base.specs.declared.name.Label.{Label}
use Rattle.iris_base.specs.NameOrder.{label_eq}
use Rattle.iris_tree.specs.Universe.{node_at}
use Rattle.iris_xpath.specs.Syntax.{Syntax}
use Rattle.iris_need.specs.declared.need.Need.{Need}
use Rattle.iris_need.specs.declared.need.Start.{Start}
use Rattle.iris_migrate.specs.declared.direct.Direct.{Direct}
use Rattle.iris_migrate.specs.declared.direct.Direct.TheVariants as directed
use Rattle.iris_migrate.specs.declared.message.Message.{Message}
use Rattle.iris_migrate.specs.declared.message.Message.TheVariants.{Query, Ask, Update}
use Rattle.iris_fragment.proofs.Names.{alike_exact}
use Rattle.iris_migrate.specs.Messages.{node_of, key_of}
use Rattle.iris_migrate.specs.Titles as titles
use Rattle.iris_migrate.specs.Titles.{Seat}
use Rattle.iris_fragment.specs.declared.piece.Piece.{Piece}
use Rattle.iris_cache.specs.Recency.{taken_all}
use Rattle.iris_copies.proofs.Caches.{taken_all_holds}
use Rattle.iris_gather.specs.declared.entries.OpenGather.{OpenGather}
use Rattle.iris_gather.specs.declared.parent.Parent.{Parent}
use Rattle.iris_gather.specs.declared.parent.Parent.TheVariants as parents
use Rattle.iris_gather.specs.Gathers.{Gathering, IsReplyTo, need_at, replied}
use Rattle.iris_gather.proofs.Life.{replied_sound}
use Rattle.iris_gather.specs.OpenGathers.{awaits, unlent}
use Rattle.iris_agent.specs.declared.turn.Turn.{Turn}
use Rattle.iris_agent.specs.Arrivals.{arrives, mail_directed, parked, reply_taken}
use Rattle.iris_agent.specs.Handled.{after_opening, only_change, only_step}
use Rattle.iris_agent.specs.declared.step.Step.TheVariants as steps
use Rattle.iris_agent.specs.Opened.{client_gather, ask_gather}
use Rattle.iris_agent.specs.Tables.{Tables, with_seat, with_gather, with_asked}
use Rattle.iris_tree.specs.declared.change.Change.{Change}
use Rattle.iris_book.specs.Book.{MayBeEntered}
use Rattle.iris_copies.specs.Copies.{AreFresh, ComesAt, IsPresent}
use Rattle.iris_copies.proofs.Seen.{laid_view}
use Rattle.iris_runs.specs.Moments.{Moment, IsMessageAt, WasMadeFor, IsParentAt, IsReplyAt, IsGatherAt, IsAgentAt, IsStepAt}
use Rattle.iris_runs.proofs.OpenedRight.{client_opened, ask_opened}
use Rattle.iris_runs.proofs.ArrivalTies.{IsApart, away_apart}
use Rattle.iris_runs.proofs.ReplyTies.{same_test}
use Rattle.iris_runs.proofs.CacheRight.{IsKept, taken_all_kept}
use Rattle.iris_runs.proofs.UpdatedRight.{IsServed, nothing_told, served_right}
use Rattle.iris_runs.proofs.StayRight.{with_cache_right, with_gather_right, agent_knows}

-- ---- parking

-- an agent that knows something else of one node, but owns it as before and has parked what is right
seat_right : (m : Moment) (t : Tables) (name : List Label) (seat : Seat) → is_some seat.last ≡ is_some (t.seat name).last → All (IsMessageAt m) seat.parked → All (λ message. node_of message ≡ Some name) seat.parked → IsAgentAt m t → IsAgentAt m (with_seat t name seat)
seat_right m t name seat same messages placed is = record {
  top = is.top;
  copies = is.copies;
  orderly = is.orderly;
  owns = λ other there. is.owns other there ∙ last other (pointwise label_eq other name) refl;
  gathers = is.gathers;
  parked = λ other. parked other (pointwise label_eq other name) refl;
  placed = λ other. own other (pointwise label_eq other name) refl;
}
  where
    last : (other : List Label) (b : Bool) → pointwise label_eq other name ≡ b → is_some (t.seat other).last ≡ is_some (if pointwise label_eq other name then seat else t.seat other).last
    last other true e = rw e (ap (λ n. is_some (t.seat n).last) (alike_exact other name e) ∙ sym same)
    last other false e = rw e refl

    parked : (other : List Label) (b : Bool) → pointwise label_eq other name ≡ b → All (IsMessageAt m) (if pointwise label_eq other name then seat else t.seat other).parked
    parked other true e = rw e messages
    parked other false e = rw e (is.parked other)

    own : (other : List Label) (b : Bool) → pointwise label_eq other name ≡ b → All (λ message. node_of message ≡ Some other) (if pointwise label_eq other name then seat else t.seat other).parked
    own other true e = rw e (subst (λ n. All (λ message. node_of message ≡ Some n) seat.parked) (sym (alike_exact other name e)) placed)
    own other false e = rw e (is.placed other)

-- one message more is parked, unless one of its key is
parked_right : (m : Moment) (t : Tables) (name : List Label) (message : Message) → node_of message ≡ Some name → IsMessageAt m message → IsAgentAt m t → IsAgentAt m (with_seat t name (titles.parking (t.seat name) message))
parked_right m t name message place right is = go (titles.is_parked (t.seat name) (key_of message))
  where
    go : (parked : Bool) → IsAgentAt m (with_seat t name (if parked then t.seat name else titles.with_parked (t.seat name) message))
    go true = seat_right m t name (t.seat name) refl (is.parked name) (is.placed name) is
    go false = seat_right m t name (titles.with_parked (t.seat name) message) refl
        (All-append (IsMessageAt m) (t.seat name).parked (message ∷ []) (is.parked name) (All-cons (IsMessageAt m) message [] right (All-nil (IsMessageAt m))))
        (All-append IsPlaced (t.seat name).parked (message ∷ []) (is.placed name) (All-cons IsPlaced message [] place (All-nil IsPlaced))) is
      where
        IsPlaced : Message → Type 0
        IsPlaced other = node_of other ≡ Some name

-- a message is sent on
sent_on : (m : Moment) (t : Tables) (turn : Turn) (to : List ℕ) (message : Message) → IsMessageAt m message → IsAgentAt m t → IsServed m (only_step t turn (steps.Post to message))
sent_on m t turn to message right is = record {
  agent = is;
  steps = All-cons (IsStepAt m) (steps.Post to message) [] right (All-nil (IsStepAt m));
  entered = All-nil (MayBeEntered m.history);
  comes = All-nil (ComesAt m.now);
}

-- ---- queries

pub query_right : (m : Moment) (kept : Bool) (t : Tables) (turn : Turn) (request : ℕ) (asked : Syntax) (name : List Label) (epoch floor : ℕ) (d : Direct) → IsAgentAt m t → floor ≤ m.now → IsServed m (mail_directed kept t turn (Query request asked name epoch floor) d)
query_right m kept t turn request asked name epoch floor directed.Serve is past =
    nothing_told m (with_gather t turn.next_gather (Some (unlent (client_gather t turn request asked floor)))) (after_opening turn) (with_gather_right m t turn.next_gather (Some (unlent (client_gather t turn request asked floor))) (client_opened m t turn request asked floor is.top past) is)
query_right m kept t turn request asked name epoch floor (directed.Forward to later) is past = sent_on m t turn to (Query request asked name later floor) past is
query_right m kept t turn request asked name epoch floor directed.Park is past =
    nothing_told m (parked t (Query request asked name epoch floor)) turn (parked_right m t name (Query request asked name epoch floor) refl past is)

-- ---- asks

-- an agent serves what is for a node that it owns
serves_owned : (seat : Seat) (epoch : ℕ) → titles.direct seat epoch ≡ directed.Serve → IsSome seat.last
serves_owned seat epoch serves = go seat.last serves
  where
    go : (last : Option ℕ) → titles.direct_by last seat.forward epoch ≡ directed.Serve → IsSome last
    go (Some last) e = refl
    go None e = absurd (subst IsApart e (away_apart seat.forward epoch))

ask_directed : (m : Moment) (kept : Bool) (t : Tables) (turn : Turn) (ask : ℕ) (from : List ℕ) (asked : Syntax) (start : Start) (epoch floor : ℕ) (d : Direct)
    → titles.direct (t.seat start.name) epoch ≡ d
    → turn.now ≡ m.now
    → IsPresent m.history m.now
    → IsSome (node_at m.history.start start.name)
    → IsMessageAt m (Ask ask from asked start epoch floor)
    → IsAgentAt m t
    → IsServed m (mail_directed kept t turn (Ask ask from asked start epoch floor) d)
ask_directed m kept t turn ask from asked start epoch floor directed.Serve e at present there right is =
    let met = with_asked t ask in
    let one = Some (unlent (ask_gather t turn ask from asked start floor)) in
    let begun = ask_opened m t turn ask from asked start floor at present is.copies (is.owns start.name there ∙ serves_owned (t.seat start.name) epoch e) right.0 right.1 right.2 right.3 in
    nothing_told m (with_gather met turn.next_gather one) (after_opening turn) (with_gather_right m met turn.next_gather one begun (agent_knows m t met.asked is))
ask_directed m kept t turn ask from asked start epoch floor (directed.Forward to later) e at present there right is = sent_on m t turn to (Ask ask from asked start later floor) right is
ask_directed m kept t turn ask from asked start epoch floor directed.Park e at present there right is =
    nothing_told m (parked t (Ask ask from asked start epoch floor)) turn (parked_right m (with_asked t ask) start.name (Ask ask from asked start epoch floor) refl right (agent_knows m t (with_asked t ask).asked is))

pub ask_right : (m : Moment) (kept : Bool) (waiting : Option ℕ) (t : Tables) (turn : Turn) (ask : ℕ) (from : List ℕ) (asked : Syntax) (start : Start) (epoch floor : ℕ)
    → turn.now ≡ m.now
    → IsPresent m.history m.now
    → IsSome (node_at m.history.start start.name)
    → IsMessageAt m (Ask ask from asked start epoch floor)
    → IsAgentAt m t
    → IsServed m (arrives kept waiting t turn (Ask ask from asked start epoch floor))
ask_right m kept waiting t turn ask from asked start epoch floor at present there right is = go (t.asked ask)
  where
    go : (met : Bool) → IsServed m (if met then only_change t turn else mail_directed kept t turn (Ask ask from asked start epoch floor) (titles.direct (t.seat start.name) epoch))
    go true = nothing_told m t turn is
    go false = ask_directed m kept t turn ask from asked start epoch floor (titles.direct (t.seat start.name) epoch) refl at present there right is

-- ---- updates

pub update_right : (m : Moment) (kept : Bool) (t : Tables) (turn : Turn) (request : ℕ) (name : List Label) (epoch number : ℕ) (changes : List Change) (d : Direct) → turn.now ≡ m.now → IsPresent m.history m.now → IsAgentAt m t
    → IsServed m (mail_directed kept t turn (Update request name epoch number changes) d)
update_right m kept t turn request name epoch number changes directed.Serve at present is = served_right m kept t turn request name number changes at present is
update_right m kept t turn request name epoch number changes (directed.Forward to later) at present is = sent_on m t turn to (Update request name later number changes) tt is
update_right m kept t turn request name epoch number changes directed.Park at present is =
    nothing_told m (parked t (Update request name epoch number changes)) turn (parked_right m t name (Update request name epoch number changes) refl tt is)

-- ---- replies

-- what holds of each pending ask holds of the one that is found
at_ask : (P : ℕ × Need → Type 0) (pending : List (ℕ × Need)) (ask : ℕ) (need : Need) → All P pending → need_at pending ask ≡ Some need → P (ask, need)
at_ask P [] ask need each found = absurd (cc)
at_ask P (entry ∷ pending) ask need each found = go (nat_eq entry.0 ask) refl (at_ask P pending ask need (All-tail P entry pending each))
  where
    go : (same : Bool) → nat_eq entry.0 ask ≡ same → (need_at pending ask ≡ Some need → P (ask, need)) → P (ask, need)
    go true e rest = subst P (λ i. (eqb-true entry.0 ask e i, its i)) (All-head P entry pending each)
      where
        there : need_at (entry ∷ pending) ask ≡ Some entry.1
        there = rw (sym (same_test ask entry.0) ∙ e) refl

        its : entry.1 ≡ need
        its = let both : Some entry.1 ≡ Some need = sym there ∙ found in cc
    go false e rest = rest (sym passed ∙ found)
      where
        passed : need_at (entry ∷ pending) ask ≡ need_at pending ask
        passed = rw (sym (same_test ask entry.0) ∙ e) refl

still_all : (P : ℕ × Need → Type 0) (ask : ℕ) (pending : List (ℕ × Need)) → All P pending → All P (remove_entry (is_at (nat_cmp ask)) pending)
still_all P ask [] each = each
still_all P ask (entry ∷ pending) each = go (is_at (nat_cmp ask) entry.0) (still_all P ask pending (All-tail P entry pending each))
  where
    go : (same : Bool) → All P (remove_entry (is_at (nat_cmp ask)) pending) → All P (cond same pending (entry ∷ remove_entry (is_at (nat_cmp ask)) pending))
    go true rest = All-tail P entry pending each
    go false rest = All-cons P entry (remove_entry (is_at (nat_cmp ask)) pending) (All-head P entry pending each) rest

-- a gather that took a reply that it waited for
replied_right : (m : Moment) (g : Gathering) (ask : ℕ) (pieces : List Piece) (need : Need) → need_at g.pending ask ≡ Some need → IsReplyAt m ask pieces → IsGatherAt m g → IsGatherAt m (replied g ask pieces)
replied_right m g ask pieces need found right is = record {
  sound = replied_sound g ask need pieces found (subst (λ w. IsReplyTo w.name w.level pieces) made.1 right.tells) is.sound;
  view = laid_view m.history m.now g.floor g.view pieces right.copies (subst (λ w. AreFresh w.floor pieces) made.1 right.fresh) is.view;
  past = is.past;
  start = is.start;
  begins = is.begins;
  pending = still_all IsMade ask g.pending is.pending;
  parent = parent g.parent is.parent;
}
  where
    IsMade : ℕ × Need → Type 0
    IsMade entry = WasMadeFor m entry.0 g.floor entry.1.name entry.1.level

    made : WasMadeFor m ask g.floor need.name need.level
    made = at_ask IsMade g.pending ask need is.pending found

    parent : (p : Parent) → IsParentAt m g p → IsParentAt m (replied g ask pieces) p
    parent (parents.Client request) there = there
    parent (parents.Ask number from) there = there

pub reply_right : (m : Moment) (t : Tables) (number ask : ℕ) (pieces : List Piece) (one : Option OpenGather) → t.gather number ≡ one → awaits ask one ≡ true → IsReplyAt m ask pieces → IsAgentAt m t → IsAgentAt m (reply_taken t number ask pieces one)
reply_right m t number ask pieces None e waits right is = is
reply_right m t number ask pieces (Some one) e waits right is = go (need_at one.gather.pending ask) refl waits
  where
    kept : IsKept t.cache (taken_all t.cache pieces)
    kept = taken_all_kept m.history m.now t.cache pieces right.copies is.copies is.orderly

    go : (need : Option Need) → need_at one.gather.pending ask ≡ need → is_some need ≡ true → IsAgentAt m (reply_taken t number ask pieces (Some one))
    go None found some = absurd (false≢true some)
    go (Some need) found some = with_cache_right m (with_gather t number (Some (unlent (replied one.gather ask pieces)))) (taken_all t.cache pieces)
        (taken_all_holds m.history m.now t.cache pieces right.copies is.copies)
        kept.orderly
        kept.same
        (with_gather_right m t number (Some (unlent (replied one.gather ask pieces))) (replied_right m one.gather ask pieces need found right (subst (λ at. IfSome at (λ there. IsGatherAt m there.gather)) e (is.gathers number))) is)
