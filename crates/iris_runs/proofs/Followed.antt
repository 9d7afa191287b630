-- What the arrival of a message leaves beside copies: of numbers, of asks that are known, of what is entered, and of the node of each message that follows.
use Rattle.std.proofs.Common.{◌≡◌, ◌⊎◌, ℕ, ◌≤◌, Bool, true, false, ◌||◌, if◌then◌else◌, is_some, nat_eq, List, [], ◌∷◌, Option, Some, None, IsSome, Result, Ok, Err, refl, sym, ap, ◌∙◌, subst, inl, inr, arith}
use Rattle.std.specs.Prelude.{All}
use Rattle.std.specs.Cmp.Lexicographic.{pointwise}
use Rattle.std.specs.List.{list_any}
use Rattle.std.proofs.lemmas.Bool.{eqb-true}
use Rattle.std.proofs.lemmas.List.Folds.{list_any-append}
use Rattle.std.proofs.lemmas.List.Elements.{All-nil, All-cons, filter_map-append}
use Rattle.iris_base.specs.declared.name.Label.{Label}
use Rattle.iris_base.specs.NameOrder.{label_eq}
use Rattle.iris_tree.specs.declared.change.Change.{Change}
use Rattle.iris_tree.specs.declared.local.Local.{Local}
use Rattle.iris_fragment.specs.declared.piece.Piece.{Piece}
use Rattle.iris_book.specs.declared.entry.Entry.TheVariants.{Updated}
use Rattle.iris_cache.specs.Recency.{renewed_in, taken_all}
use Rattle.iris_migrate.specs.declared.direct.Direct.{Direct}
use Rattle.iris_migrate.specs.declared.direct.Direct.TheVariants as directed
use Rattle.iris_migrate.specs.declared.key.Key.TheVariants as keys
use Rattle.iris_migrate.specs.declared.message.Message.{Message}
use Rattle.iris_migrate.specs.declared.message.Message.TheVariants.{Query, Ask, Reply, Update, Handover}
use Rattle.iris_migrate.specs.Messages.{node_of, key_of, keys_in, key_eq, is_among}
use Rattle.iris_migrate.specs.Titles.{Seat, is_parked, with_parked, parking, with_last}
use Rattle.iris_gather.specs.declared.entries.OpenGather.{OpenGather}
use Rattle.iris_gather.specs.declared.parent.Parent.TheVariants as parents
use Rattle.iris_gather.specs.Gathers.{Gathering, replied}
use Rattle.iris_gather.specs.OpenGathers.{unlent, serves_ask, is_ask}
use Rattle.iris_agent.specs.declared.step.Step.{Step}
use Rattle.iris_agent.specs.declared.step.Step.TheVariants as steps
use Rattle.iris_agent.specs.declared.step.Refusal.{Refusal}
use Rattle.iris_agent.specs.declared.turn.Turn.{Turn}
use Rattle.iris_agent.specs.Arrivals.{served, with_epoch, is_met, parked, mail_directed, reply_taken, reply_arrives}
use Rattle.iris_agent.specs.Handled.{Handled, only_change, only_step}
use Rattle.iris_agent.specs.Opened.{client_gather, ask_gather}
use Rattle.iris_agent.specs.Tables.{Tables, at_name, with_cache, with_seat, with_gather, with_asked}
use Rattle.iris_agent.specs.Updates.{made_of, update_made, update_of, value_owned}
use Rattle.iris_runs.specs.Good.{KnowsItsAsks}
use Rattle.iris_runs.proofs.StayAsked.{not_true, asks_cached, asks_gathered, asks_seated, taken_seated}

-- ---- what follows

-- no node moves by it
abbrev pub IsNoHandover : Message → Type 0
IsNoHandover (Query request asked name epoch floor) = Unit {0}
IsNoHandover (Ask ask from asked start epoch floor) = Unit {0}
IsNoHandover (Reply ask pieces) = Unit {0}
IsNoHandover (Update request name epoch number changes) = Unit {0}
IsNoHandover (Handover handed) = ⊥

-- a message that follows is for the same node, and none is a handover; nothing is answered
abbrev pub IsFollowUp : Option (List Label) → Step → Type 0
IsFollowUp of (steps.Post to message) = (node_of message ≡ of) × IsNoHandover message
IsFollowUp of (steps.Answered request query floor items cites) = ⊥
IsFollowUp of (steps.Accepted request version) = Unit {0}
IsFollowUp of (steps.Refused request refusal) = Unit {0}

-- What is entered is an update of that node, which the agent owns. It is accepted, and nothing else follows.
pub record Enters (t : Tables) (node : Option (List Label)) (h : Handled) : Type 0 where
  pub place : List Label
  pub number : ℕ
  pub changes : List Change
  pub local : Local
  pub at : ℕ
  pub request : ℕ
  pub version : ℕ
  pub is : h.entries ≡ Updated place number changes local at ∷ []
  pub told : h.steps ≡ steps.Accepted request version ∷ []
  pub owned : IsSome (t.seat place).last
  pub of : node ≡ Some place

-- What follows from a message for a node.
pub record Follows (t : Tables) (turn : Turn) (node : Option (List Label)) (h : Handled) : Type 0 where
  pub now_is : h.turn.now ≡ turn.now
  pub asks_are : h.turn.next_ask ≡ turn.next_ask
  pub id_is : h.tables.id ≡ t.id
  pub taken : (name : List Label) → (t.seat name).taken ≤ (h.tables.seat name).taken
  pub knows : KnowsItsAsks t → KnowsItsAsks h.tables
  pub entered : (h.entries ≡ []) ⊎ Enters t node h
  pub sends : All (IsFollowUp node) h.steps

pub follows_nothing : (t : Tables) (turn : Turn) (node : Option (List Label)) → Follows t turn node (only_change t turn)
follows_nothing t turn node = record { now_is = refl; asks_are = refl; id_is = refl; taken = λ name. omega arith; knows = λ k. k; entered = inl refl; sends = All-nil (IsFollowUp node) }

follows_step : (t : Tables) (turn : Turn) (node : Option (List Label)) (s : Step) → IsFollowUp node s → Follows t turn node (only_step t turn s)
follows_step t turn node s is = record { now_is = refl; asks_are = refl; id_is = refl; taken = λ name. omega arith; knows = λ k. k; entered = inl refl; sends = All-cons (IsFollowUp node) s [] is (All-nil (IsFollowUp node)) }

-- ---- updates

follows_made : (kept : Bool) (t : Tables) (turn : Turn) (request : ℕ) (name : List Label) (number : ℕ) (changes : List Change) → IsSome (t.seat name).last → (made : Result Local Refusal)
    → Follows t turn (Some name) (update_made kept t turn request name number changes made)
follows_made kept t turn request name number changes owns (Err refusal) = follows_step t turn (Some name) (steps.Refused request refusal) tt
follows_made false t turn request name number changes owns (Ok local) = follows_step t turn (Some name) _ tt
follows_made true t turn request name number changes owns (Ok local) = record {
  now_is = refl;
  asks_are = refl;
  id_is = refl;
  taken = taken_seated t name (with_last (t.seat name) number) (omega arith);
  knows = λ k. asks_seated (with_cache t (renewed_in t.cache name local)) name (with_last (t.seat name) number) (λ ask h. h) (asks_cached t (renewed_in t.cache name local) k);
  entered = inr (record { place = name; number = number; changes = changes; local = local; at = turn.now; request = request; version = _; is = refl; told = refl; owned = owns; of = refl });
  sends = All-cons (IsFollowUp (Some name)) _ [] tt (All-nil (IsFollowUp (Some name)));
}

follows_update : (kept : Bool) (t : Tables) (turn : Turn) (request : ℕ) (name : List Label) (number : ℕ) (changes : List Change) (value : Option Local) (last : Option ℕ) → (t.seat name).last ≡ last
    → Follows t turn (Some name) (update_of kept t turn request name number changes value last)
follows_update kept t turn request name number changes (Some local) (Some last) is = follows_made kept t turn request name number changes (ap is_some is) (made_of t.kinds local last number changes)
follows_update kept t turn request name number changes (Some local) None is = follows_nothing t turn (Some name)
follows_update kept t turn request name number changes None last is = follows_nothing t turn (Some name)

-- ---- what is parked

either_true : (b c : Bool) → (b || c) ≡ true → (b ≡ true) ⊎ (c ≡ true)
either_true true c h = inl refl
either_true false c h = inr h

-- what is parked was parked, or is the message
parked_more : (seat : Seat) (m : Message) (ask : ℕ) → is_parked (parking seat m) (Some (keys.Ask ask)) ≡ true → (is_parked seat (Some (keys.Ask ask)) ≡ true) ⊎ (is_among (keys.Ask ask) (m ∷ []) ≡ true)
parked_more seat m ask = by (is_parked seat (key_of m))
  where
    by : (b : Bool) → is_parked (if b then seat else with_parked seat m) (Some (keys.Ask ask)) ≡ true → (is_parked seat (Some (keys.Ask ask)) ≡ true) ⊎ (is_among (keys.Ask ask) (m ∷ []) ≡ true)
    by true h = inl h
    by false h = either_true (is_parked seat (Some (keys.Ask ask))) (is_among (keys.Ask ask) (m ∷ []))
        (sym (ap (list_any (key_eq (keys.Ask ask))) (filter_map-append key_of seat.parked (m ∷ [])) ∙ list_any-append (key_eq (keys.Ask ask)) (keys_in seat.parked) (keys_in (m ∷ []))) ∙ h)

parking_taken : (seat : Seat) (m : Message) → seat.taken ≤ (parking seat m).taken
parking_taken seat m = by (is_parked seat (key_of m))
  where
    by : (b : Bool) → seat.taken ≤ (if b then seat else with_parked seat m).taken
    by true = omega arith
    by false = omega arith

-- a message that is no ask is parked
asks_parked : (t : Tables) (name : List Label) (m : Message) → ((ask : ℕ) → is_among (keys.Ask ask) (m ∷ []) ≡ false) → KnowsItsAsks t → KnowsItsAsks (with_seat t name (parking (t.seat name) m))
asks_parked t name m none knows = asks_seated t name (parking (t.seat name) m) (λ ask h. by ask (parked_more (t.seat name) m ask h)) knows
  where
    by : (ask : ℕ) → (is_parked (t.seat name) (Some (keys.Ask ask)) ≡ true) ⊎ (is_among (keys.Ask ask) (m ∷ []) ≡ true) → is_parked (t.seat name) (Some (keys.Ask ask)) ≡ true
    by ask (inl h) = h
    by ask (inr h) = let n = none ask in absurd (cc)

-- ---- asks

kept_true : (b c : Bool) → c ≡ true → (if b then true else c) ≡ true
kept_true true c h = refl
kept_true false c h = h

-- an ask that was not met opens its gather
asks_opened : (t : Tables) (ask free : ℕ) (one : OpenGather) → ((other : ℕ) → serves_ask other (Some one) ≡ nat_eq other ask) → t.asked ask ≡ false → KnowsItsAsks t → KnowsItsAsks (with_gather (with_asked t ask) free (Some one))
asks_opened t ask free one serves fresh knows = record {
  opened = λ number other. opens number other (nat_eq number free);
  parked = λ name other h. kept_true (nat_eq other ask) (t.asked other) (knows.parked name other h);
  apart = λ name other number h. apart_at name other number h (nat_eq number free);
}
  where
    opens : (number other : ℕ) (b : Bool) → serves_ask other (if b then Some one else t.gather number) ≡ true → (if nat_eq other ask then true else t.asked other) ≡ true
    opens number other true h = ap (λ (b : Bool). if b then true else t.asked other) (sym (serves other) ∙ h)
    opens number other false h = kept_true (nat_eq other ask) (t.asked other) (knows.opened number other h)

    other_ask : (name : List Label) (other : ℕ) → is_parked (t.seat name) (Some (keys.Ask other)) ≡ true → nat_eq other ask ≡ true → ⊥
    other_ask name other h same = let met = knows.parked name other h in let e : t.asked other ≡ t.asked ask = ap t.asked (eqb-true other ask same) in cc

    apart_at : (name : List Label) (other number : ℕ) → is_parked (t.seat name) (Some (keys.Ask other)) ≡ true → (b : Bool) → serves_ask other (if b then Some one else t.gather number) ≡ false
    apart_at name other number h true = serves other ∙ not_true (nat_eq other ask) (other_ask name other h)
    apart_at name other number h false = knows.apart name other number h

-- an ask that was not met is parked
asks_met : (t : Tables) (name : List Label) (ask : ℕ) (m : Message) → ((other : ℕ) → is_among (keys.Ask other) (m ∷ []) ≡ true → nat_eq other ask ≡ true) → t.asked ask ≡ false → KnowsItsAsks t → KnowsItsAsks (with_seat (with_asked t ask) name (parking (t.seat name) m))
asks_met t name ask m only fresh knows = record {
  opened = λ number other h. kept_true (nat_eq other ask) (t.asked other) (knows.opened number other h);
  parked = λ place other h. met other (before place other h);
  apart = λ place other number h. apart_at other number (before place other h);
}
  where
    Was : ℕ → Type 0
    Was other = ((place : List Label) × (is_parked (t.seat place) (Some (keys.Ask other)) ≡ true)) ⊎ (nat_eq other ask ≡ true)

    at_place : (place : List Label) (other : ℕ) → (is_parked (t.seat name) (Some (keys.Ask other)) ≡ true) ⊎ (is_among (keys.Ask other) (m ∷ []) ≡ true) → Was other
    at_place place other (inl h) = inl (name, h)
    at_place place other (inr h) = inr (only other h)

    before : (place : List Label) (other : ℕ) → is_parked (at_name t.seat name (parking (t.seat name) m) place) (Some (keys.Ask other)) ≡ true → Was other
    before place other = by (pointwise label_eq place name)
      where
        by : (b : Bool) → is_parked (if b then parking (t.seat name) m else t.seat place) (Some (keys.Ask other)) ≡ true → Was other
        by true h = at_place place other (parked_more (t.seat name) m other h)
        by false h = inl (place, h)

    met : (other : ℕ) → Was other → (if nat_eq other ask then true else t.asked other) ≡ true
    met other (inl h) = kept_true (nat_eq other ask) (t.asked other) (knows.parked h.0 other h.1)
    met other (inr same) = ap (λ (b : Bool). if b then true else t.asked other) same

    apart_at : (other number : ℕ) → Was other → serves_ask other (t.gather number) ≡ false
    apart_at other number (inl h) = knows.apart h.0 other number h.1
    apart_at other number (inr same) = not_true (serves_ask other (t.gather number)) (λ is. let known = knows.opened number other is in let e : t.asked other ≡ t.asked ask = ap t.asked (eqb-true other ask same) in cc)

-- ---- the holder of a node

-- the gather of a client is for no ask
asks_client : (t : Tables) (turn : Turn) (gather : Gathering) (request : ℕ) → gather.parent ≡ parents.Client request → KnowsItsAsks t → KnowsItsAsks (with_gather t turn.next_gather (Some (unlent gather)))
asks_client t turn gather request is knows = asks_gathered t turn.next_gather (Some (unlent gather)) (λ ask h. let none : is_ask ask gather.parent ≡ false = ap (is_ask ask) is in absurd (cc)) knows

follows_served : (kept : Bool) (t : Tables) (turn : Turn) (message : Message) → is_met t message ≡ false → Follows t turn (node_of message) (served kept t turn message)
follows_served kept t turn (Query request asked name epoch floor) fresh = record {
  now_is = refl;
  asks_are = refl;
  id_is = refl;
  taken = λ place. omega arith;
  knows = asks_client t turn (client_gather t turn request asked floor) request refl;
  entered = inl refl;
  sends = All-nil (IsFollowUp (Some name));
}
follows_served kept t turn (Ask ask from asked start epoch floor) fresh = record {
  now_is = refl;
  asks_are = refl;
  id_is = refl;
  taken = λ place. omega arith;
  knows = asks_opened t ask turn.next_gather (unlent (ask_gather t turn ask from asked start floor)) (λ other. refl) fresh;
  entered = inl refl;
  sends = All-nil (IsFollowUp (Some start.name));
}
follows_served kept t turn (Update request name epoch number changes) fresh = follows_update kept t turn request name number changes (value_owned t.cache.contents name) (t.seat name).last refl
follows_served kept t turn (Reply ask pieces) fresh = follows_nothing t turn None
follows_served kept t turn (Handover handed) fresh = follows_nothing t turn (Some handed.name)

-- ---- others

-- a message that goes on with another epoch
sent_on : (message : Message) (later : ℕ) → IsNoHandover message → (node_of (with_epoch message later) ≡ node_of message) × IsNoHandover (with_epoch message later)
sent_on (Query request asked name epoch floor) later is = (refl, tt)
sent_on (Ask ask from asked start epoch floor) later is = (refl, tt)
sent_on (Update request name epoch number changes) later is = (refl, tt)
sent_on (Reply ask pieces) later is = (refl, tt)
sent_on (Handover handed) later is = absurd is

-- what is left of an agent that parks a message
follows_seat : (t other : Tables) (turn : Turn) (of : Option (List Label)) (name : List Label) (m : Message) → other.id ≡ t.id → other.seat ≡ t.seat → (KnowsItsAsks t → KnowsItsAsks (with_seat other name (parking (t.seat name) m)))
    → Follows t turn of (only_change (with_seat other name (parking (t.seat name) m)) turn)
follows_seat t other turn of name m id seats knows = record {
  now_is = refl;
  asks_are = refl;
  id_is = id;
  taken = subst (λ (seat : List Label → Seat). (place : List Label) → (t.seat place).taken ≤ (at_name seat name (parking (t.seat name) m) place).taken) (sym seats) (taken_seated t name (parking (t.seat name) m) (parking_taken (t.seat name) m));
  knows = knows;
  entered = inl refl;
  sends = All-nil (IsFollowUp of);
}

only_ask : (other ask : ℕ) → (nat_eq other ask || false) ≡ true → nat_eq other ask ≡ true
only_ask other ask = by (nat_eq other ask)
  where
    by : (b : Bool) → (b || false) ≡ true → b ≡ true
    by true h = refl
    by false h = h

-- a message that is no ask
follows_other : (t : Tables) (turn : Turn) (of : Option (List Label)) (name : List Label) (m : Message) → ((ask : ℕ) → is_among (keys.Ask ask) (m ∷ []) ≡ false) → Follows t turn of (only_change (with_seat t name (parking (t.seat name) m)) turn)
follows_other t turn of name m none = follows_seat t t turn of name m refl refl (asks_parked t name m none)

follows_parked : (t : Tables) (turn : Turn) (message : Message) → is_met t message ≡ false → Follows t turn (node_of message) (only_change (parked t message) turn)
follows_parked t turn (Query request asked name epoch floor) fresh = follows_other t turn (Some name) name (Query request asked name epoch floor) (λ ask. refl)
follows_parked t turn (Update request name epoch number changes) fresh = follows_other t turn (Some name) name (Update request name epoch number changes) (λ ask. refl)
follows_parked t turn (Reply ask pieces) fresh = follows_other t turn None [] (Reply ask pieces) (λ other. refl)
follows_parked t turn (Handover handed) fresh = follows_other t turn (Some handed.name) handed.name (Handover handed) (λ ask. refl)
follows_parked t turn (Ask ask from asked start epoch floor) fresh = follows_seat t (with_asked t ask) turn (Some start.name) start.name (Ask ask from asked start epoch floor) refl refl
    (asks_met t start.name ask (Ask ask from asked start epoch floor) (λ other h. only_ask other ask h) fresh)

pub follows_directed : (kept : Bool) (t : Tables) (turn : Turn) (message : Message) (to : Direct) → is_met t message ≡ false → IsNoHandover message → Follows t turn (node_of message) (mail_directed kept t turn message to)
follows_directed kept t turn message directed.Serve fresh is = follows_served kept t turn message fresh
follows_directed kept t turn message (directed.Forward to later) fresh is = follows_step t turn (node_of message) (steps.Post to (with_epoch message later)) (sent_on message later is)
follows_directed kept t turn message directed.Park fresh is = follows_parked t turn message fresh

-- ---- replies

follows_taken : (t : Tables) (turn : Turn) (number ask : ℕ) (pieces : List Piece) (o : Option OpenGather) → t.gather number ≡ o → Follows t turn None (only_change (reply_taken t number ask pieces o) turn)
follows_taken t turn number ask pieces None there = follows_nothing t turn None
follows_taken t turn number ask pieces (Some one) there = record {
  now_is = refl;
  asks_are = refl;
  id_is = refl;
  taken = λ name. omega arith;
  knows = λ k. asks_cached (with_gather t number (Some (unlent (replied one.gather ask pieces)))) (taken_all t.cache pieces) (asks_gathered t number (Some (unlent (replied one.gather ask pieces))) (λ other h. ap (serves_ask other) there ∙ h) k);
  entered = inl refl;
  sends = All-nil (IsFollowUp None);
}

pub follows_reply : (t : Tables) (turn : Turn) (waiting : Option ℕ) (ask : ℕ) (pieces : List Piece) → Follows t turn None (reply_arrives t turn waiting ask pieces)
follows_reply t turn None ask pieces = follows_nothing t turn None
follows_reply t turn (Some number) ask pieces = follows_taken t turn number ask pieces (t.gather number) refl
