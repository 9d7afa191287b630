-- What agents have and messages tell stays right as a city goes on, as a copy is evicted, and as a gather is lent.
use Rattle.std.proofs.Common.{◌≡◌, ℕ, ◌+◌, ◌-◌, ◌≤◌, Bool, true, false, if◌then◌else◌, nat_eq, is_some, List, [], ◌∷◌, ◌++◌, length, map, Option, Some, None, IsSome, IfSome, option_map, slice_get, refl, sym, ◌∙◌, ap, subst, arith}
use Rattle.std.proofs.lemmas.Bool.{lt-ltb}
use Rattle.std.proofs.lemmas.List.{length-map}
use Rattle.std.proofs.lemmas.List.Elements.{All-weaker}
use Rattle.std.proofs.lemmas.Option.{IfSome_then, slice_get-map}
use Rattle.iris_base.specs.declared.name.Label.{Label}
use Rattle.iris_tree.specs.Universe.{Node, label_of, node_at}
use Rattle.iris_fragment.specs.Changes.{version_at}
use Rattle.iris_fragment.specs.declared.piece.Full.{Full}
use Rattle.iris_fragment.specs.declared.piece.Level.{Level}
use Rattle.iris_fragment.specs.declared.piece.Piece.{Piece}
use Rattle.iris_need.specs.declared.need.Need.{Need}
use Rattle.iris_need.specs.declared.need.Start.{Start}
use Rattle.iris_need.specs.Descents.{IsStartIn}
use Rattle.iris_need.specs.Needs.{from_document}
use Rattle.iris_book.specs.Book.{with_entry}
use Rattle.iris_book.specs.Entering.{updates_by, without_answers}
use Rattle.iris_book.specs.declared.entry.Entry.{Entry}
use Rattle.iris_cache.specs.Recency.{Cache, is_complete, evicted_from}
use Rattle.iris_migrate.specs.declared.message.Handover.{Handover as Handed}
use Rattle.iris_migrate.specs.declared.message.Message.{Message}
use Rattle.iris_migrate.specs.declared.message.Message.TheVariants.{Query, Ask, Reply, Update, Handover}
use Rattle.iris_gather.specs.declared.entries.OpenGather.{OpenGather}
use Rattle.iris_gather.specs.declared.parent.Parent.{Parent}
use Rattle.iris_gather.specs.declared.parent.Parent.TheVariants as parents
use Rattle.iris_gather.specs.Gathers.{Gathering, IsReplyTo}
use Rattle.iris_gather.specs.OpenGathers.{with_lent}
use Rattle.iris_agent.specs.Handovers.{own_in}
use Rattle.iris_agent.specs.Tables.{Tables, with_cache, with_gather}
use Rattle.iris_copies.specs.Copies.{ComesAt, AreFresh, HoldsCopies, IsNewest, IsElsewhere}
use Rattle.iris_copies.proofs.Times.{newest_stays, time_goes_on, entry_goes_on, forgotten_goes_on}
use Rattle.iris_copies.proofs.Fragments.{holds_later, entry_holds, forgotten_holds}
use Rattle.iris_copies.proofs.Caches.{evicted_from_holds}
use Rattle.iris_copies.proofs.Seen.{view_goes_on, copies_go_on}
use Rattle.iris_runs.specs.Asking.{wanted_by, asked_by}
use Rattle.iris_runs.specs.Moments.{Wanted, Moment, with_entries, WasMadeFor, IsParentAt, IsGatherAt, IsMessageAt, IsHandoverAt, BringsNewest, IsOrderly, IsAgentAt, IsLater}
use Rattle.iris_runs.proofs.KeptOrderly.{evicted_orderly, version_evicted}

-- ---- as a city goes on

made_later : (m next : Moment) (ask floor : ℕ) (name : List Label) (l : Level) → IsLater m next → WasMadeFor m ask floor name l → WasMadeFor next ask floor name l
made_later m next ask floor name l on made = (omega (arith, made.0, on.asks), on.wanted ask made.0 ∙ made.1)

start_later : (old next : Node) (start : Start) → next ≡ old → IsStartIn old start → IsStartIn next start
start_later old next start same is = subst (λ (d : Node). IsStartIn d start) (sym same) is

pub parent_later : (m next : Moment) (g : Gathering) (parent : Parent) → IsLater m next → IsParentAt m g parent → IsParentAt next g parent
parent_later m next g (parents.Client request) on is = is ∙ ap (λ (d : Node). from_document (label_of d)) (sym on.goes.start)
parent_later m next g (parents.Ask ask from) on is = (made_later m next ask g.floor g.start.name g.start.level on is.0, is.1)

pub gather_later : (m next : Moment) (g : Gathering) → IsLater m next → IsGatherAt m g → IsGatherAt next g
gather_later m next g on is = record {
  sound = is.sound;
  view = view_goes_on m.history m.now next.history next.now g.floor g.view on.goes is.view;
  past = omega (arith, is.past, on.goes.time);
  start = start_later m.history.start next.history.start g.start on.goes.start is.start;
  begins = is.begins;
  pending = All-weaker (λ ask. WasMadeFor m ask.0 g.floor ask.1.name ask.1.level) (λ ask. WasMadeFor next ask.0 g.floor ask.1.name ask.1.level) (λ ask made. made_later m next ask.0 g.floor ask.1.name ask.1.level on made) g.pending is.pending;
  parent = parent_later m next g g.parent on is.parent;
}

pub message_later : (m next : Moment) (message : Message) → IsLater m next → IsMessageAt m message → IsMessageAt next message
message_later m next (Query request asked name epoch floor) on is = omega (arith, is, on.goes.time)
message_later m next (Ask ask from asked start epoch floor) on is =
    (omega (arith, is.0, on.goes.time), start_later m.history.start next.history.start start on.goes.start is.1, made_later m next ask floor start.name start.level on is.2, is.3)
message_later m next (Reply ask pieces) on is = record {
  made = omega (arith, is.made, on.asks);
  copies = copies_go_on m.history m.now next.history next.now pieces on.goes is.copies;
  fresh = subst (λ (w : Wanted). AreFresh w.floor pieces) (sym (on.wanted ask is.made)) is.fresh;
  tells = subst (λ (w : Wanted). IsReplyTo w.name w.level pieces) (sym (on.wanted ask is.made)) is.tells;
}
message_later m next (Update request name epoch number changes) on is = tt
message_later m next (Handover handed) on is = record {
  copies = copies_go_on m.history m.now next.history next.now handed.pieces on.goes is.copies;
  names_are = is.names_are;
  own = is.own;
  last = is.last;
  whole = is.whole;
}

pub agent_later : (m next : Moment) (t : Tables) → IsLater m next → HoldsCopies next.history next.now t.cache.contents → IsAgentAt m t → IsAgentAt next t
agent_later m next t on holds is = record {
  top = is.top ∙ ap label_of (sym on.goes.start);
  copies = holds;
  orderly = is.orderly;
  owns = λ name there. is.owns name (subst (λ (d : Node). IsSome (node_at d name)) on.goes.start there);
  gathers = λ number. IfSome_then (t.gather number) (is.gathers number) (λ one there. gather_later m next one.gather on there);
  parked = λ name. All-weaker (IsMessageAt m) (IsMessageAt next) (λ message there. message_later m next message on there) (t.seat name).parked (is.parked name);
  placed = is.placed;
}

-- ---- the four ways

pub later_time : (m : Moment) (at : ℕ) → m.now ≤ at → IsLater m (record m { now = at })
later_time m at le = record { goes = time_goes_on m.history m.now at le; asks = omega arith; wanted = λ ask before. refl }

pub later_entry : (m : Moment) (entry : Entry) → ComesAt m.now entry → IsLater m (with_entries m (entry ∷ []))
later_entry m entry comes = record { goes = entry_goes_on m.history m.now entry comes; asks = omega arith; wanted = λ ask before. refl }

pub later_asked : (m : Moment) (g : Gathering) (needs : List Need) → IsLater m (asked_by m g needs)
later_asked m g needs = record {
  goes = time_goes_on m.history m.now m.now (omega arith);
  asks = omega arith;
  wanted = λ ask before. ap (λ (b : Bool). if b then m.wanted ask else wanted_by g (m.wanted ask) (slice_get needs (ask - m.asks))) (lt-ltb ask m.asks before);
}

pub later_forgotten : (m : Moment) → IsLater m (record m { history = without_answers m.history })
later_forgotten m = record { goes = forgotten_goes_on m.history m.now; asks = omega arith; wanted = λ ask before. refl }

pub agent_time : (m : Moment) (at : ℕ) (t : Tables) → m.now ≤ at → IsAgentAt m t → IsAgentAt (record m { now = at }) t
agent_time m at t le is = agent_later m (record m { now = at }) t (later_time m at le) (holds_later m.history m.now at t.cache.contents le is.copies) is

pub agent_entry : (m : Moment) (entry : Entry) (t : Tables) → ComesAt m.now entry → IsElsewhere t.cache.contents entry → IsAgentAt m t → IsAgentAt (with_entries m (entry ∷ [])) t
agent_entry m entry t comes out is = agent_later m (with_entries m (entry ∷ [])) t (later_entry m entry comes) (entry_holds m.history m.now entry t.cache.contents comes out is.copies) is

pub agent_asked : (m : Moment) (g : Gathering) (needs : List Need) (t : Tables) → IsAgentAt m t → IsAgentAt (asked_by m g needs) t
agent_asked m g needs t is = agent_later m (asked_by m g needs) t (later_asked m g needs) is.copies is

pub agent_forgotten : (m : Moment) (t : Tables) → IsAgentAt m t → IsAgentAt (record m { history = without_answers m.history }) t
agent_forgotten m t is = agent_later m (record m { history = without_answers m.history }) t (later_forgotten m) (forgotten_holds m.history m.now t.cache.contents is.copies) is

-- ---- the newest value in a handover

pub at_end : {X : Type 0} (xs : List X) (x : X) → slice_get (xs ++ x ∷ []) (length xs) ≡ Some x
at_end [] x = refl
at_end (other ∷ xs) x = at_end xs x

pub length_behind : {X : Type 0} (xs : List X) (x : X) → length (xs ++ x ∷ []) ≡ length xs + 1
length_behind [] x = refl
length_behind (other ∷ xs) x = let rest = length_behind xs x in omega (arith, rest)

-- the last piece of a handover has the last name
pub last_named : (pieces : List Piece) (above : List (List Label)) (name : List Label) (own : Piece) → map (λ piece. piece.name) pieces ≡ above ++ name ∷ [] → own_in pieces ≡ Some own → own.name ≡ name
last_named pieces above name own are last =
    let names : List (List Label) = map (λ piece. piece.name) pieces in
    let count : length pieces ≡ length above + 1 = sym (length-map pieces (λ piece. piece.name)) ∙ ap length are ∙ length_behind above name in
    let place : length pieces - 1 ≡ length above = omega (arith, count) in
    let found : Some own.name ≡ Some name = sym (slice_get-map (λ piece. piece.name) pieces (length pieces - 1) ∙ ap (λ (o : Option Piece). option_map (λ piece. piece.name) o) last)
    ∙ ap (λ (ns : List (List Label)). slice_get ns (length pieces - 1)) are ∙ ap (λ (i : ℕ). slice_get (above ++ name ∷ []) i) place ∙ at_end above name in
    cc

pub brings_still : (m : Moment) (handed : Handed) (entry : Entry) → IsHandoverAt m handed → updates_by entry handed.name ≡ 0 → BringsNewest m.history handed → BringsNewest (with_entry m.history entry) handed
brings_still m handed entry is none brings = by (own_in handed.pieces) refl brings
  where
    by : (o : Option Piece) → own_in handed.pieces ≡ o → IfSome o (λ own. IfSome own.full (λ full. IsNewest m.history own.name full.local full.version)) → IfSome o (λ own. IfSome own.full (λ full. IsNewest (with_entry m.history entry) own.name full.local full.version))
    by None at was = tt
    by (Some own) at was =
        let elsewhere : updates_by entry own.name ≡ 0 = ap (λ (n : List Label). updates_by entry n) (last_named handed.pieces _ handed.name own is.names_are at) ∙ none in
        IfSome_then own.full was (λ (full : Full) newest. newest_stays m.history entry own.name full.local full.version elsewhere newest)

-- ---- at one agent

-- an agent with another cache that owns the same nodes
pub with_cache_right : (m : Moment) (t : Tables) (cache : Cache) → HoldsCopies m.history m.now cache.contents → IsOrderly cache → ((name : List Label) → version_at cache.contents name ≡ version_at t.cache.contents name) → IsAgentAt m t → IsAgentAt m (with_cache t cache)
with_cache_right m t cache holds orderly same is = record {
  top = is.top;
  copies = holds;
  orderly = orderly;
  owns = λ name there. ap (λ (o : Option ℕ). is_some o) (same name) ∙ is.owns name there;
  gathers = is.gathers;
  parked = is.parked;
  placed = is.placed;
}

-- an agent with another gather under a number, or with none there
pub with_gather_right : (m : Moment) (t : Tables) (number : ℕ) (one : Option OpenGather) → IfSome one (λ g. IsGatherAt m g.gather) → IsAgentAt m t → IsAgentAt m (with_gather t number one)
with_gather_right m t number one right is = record {
  top = is.top;
  copies = is.copies;
  orderly = is.orderly;
  owns = is.owns;
  gathers = λ other. by other (nat_eq other number);
  parked = is.parked;
  placed = is.placed;
}
  where
    by : (other : ℕ) (b : Bool) → IfSome (if b then one else t.gather other) (λ g. IsGatherAt m g.gather)
    by other true = right
    by other false = is.gathers other

pub agent_evicted : (m : Moment) (t : Tables) (name : List Label) → is_complete t.cache.contents name ≡ true → IsAgentAt m t → IsAgentAt m (with_cache t (evicted_from t.cache name))
agent_evicted m t name complete is =
    with_cache_right m t (evicted_from t.cache name) (evicted_from_holds m.history m.now t.cache name is.copies) (evicted_orderly t.cache name is.copies.ordered is.orderly) (version_evicted t.cache.contents name is.copies.ordered complete) is

pub agent_lent : (m : Moment) (t : Tables) (number : ℕ) (lent : Bool) → IsAgentAt m t → IsAgentAt m (with_gather t number (option_map (with_lent lent) (t.gather number)))
agent_lent m t number lent is = with_gather_right m t number (option_map (with_lent lent) (t.gather number)) (by (t.gather number) (is.gathers number)) is
  where
    by : (o : Option OpenGather) → IfSome o (λ one. IsGatherAt m one.gather) → IfSome (option_map (with_lent lent) o) (λ one. IsGatherAt m one.gather)
    by None there = tt
    by (Some one) there = there

pub agent_knows : (m : Moment) (t : Tables) (asked : ℕ → Bool) → IsAgentAt m t → IsAgentAt m (record t { asked = asked })
agent_knows m t asked is = record {
  top = is.top;
  copies = is.copies;
  orderly = is.orderly;
  owns = is.owns;
  gathers = is.gathers;
  parked = is.parked;
  placed = is.placed;
}
