-- The same of a handover, and of every message.
use Rattle.std.proofs.Common.{◌≡◌, ◌⊎◌, ℕ, ◌≤◌, Bool, true, false, ◌||◌, if◌then◌else◌, nat_eq, List, [], ◌∷◌, Option, Some, refl, ap, ◌∙◌, inl, inr, arith}
use Rattle.std.specs.Prelude.{All, nat_le}
use Rattle.std.specs.Cmp.Lexicographic.{pointwise}
use Rattle.std.specs.List.{filter_map}
use Rattle.std.proofs.lemmas.List.Elements.{All-nil, All-cons, All-head, All-tail}
use Rattle.iris_base.specs.declared.name.Label.{Label}
use Rattle.iris_base.specs.NameOrder.{label_eq}
use Rattle.iris_migrate.specs.declared.key.Key.TheVariants as keys
use Rattle.iris_migrate.specs.declared.message.Handover.{Handover as Handed}
use Rattle.iris_migrate.specs.declared.message.Message.{Message}
use Rattle.iris_migrate.specs.declared.message.Message.TheVariants.{Query, Ask, Reply, Update, Handover}
use Rattle.iris_migrate.specs.Messages.{node_of, is_among}
use Rattle.iris_migrate.specs.Titles.{is_parked, took, direct}
use Rattle.iris_gather.specs.declared.entries.OpenGather.{OpenGather}
use Rattle.iris_gather.specs.OpenGathers.{unlent, serves_ask}
use Rattle.iris_agent.specs.declared.turn.Turn.{Turn}
use Rattle.iris_agent.specs.Arrivals.{mail_directed, arrives}
use Rattle.iris_agent.specs.Handled.{only_change}
use Rattle.iris_agent.specs.Handovers.{handed_in, Opened, with_opened, parked_gather, parked_opened, posted_again, node_taken, gathers_then, handover_taken, handover_arrives}
use Rattle.iris_agent.specs.Opened.{client_gather, ask_gather}
use Rattle.iris_agent.specs.Tables.{Tables, at_number, with_cache}
use Rattle.iris_protocol.specs.Table.{names}
use Rattle.iris_protocol.proofs.Tables.{same_self}
use Rattle.iris_runs.specs.Good.{KnowsItsAsks}
use Rattle.iris_runs.proofs.Followed.{IsFollowUp, Follows, follows_nothing, follows_directed, follows_reply}
use Rattle.iris_runs.proofs.StayAsked.{not_true, asks_cached, asks_seated, taken_seated}

-- ---- what was parked

-- a parked update goes on for the same node
again_follows : (id : List ℕ) (later : ℕ) (name : List Label) (ms : List Message) → All (λ message. node_of message ≡ Some name) ms → All (IsFollowUp (Some name)) (filter_map (posted_again id later) ms)
again_follows id later name [] all = All-nil (IsFollowUp (Some name))
again_follows id later name (Query request asked place epoch floor ∷ ms) all = again_follows id later name ms (All-tail (λ message. node_of message ≡ Some name) _ ms all)
again_follows id later name (Ask ask from asked start epoch floor ∷ ms) all = again_follows id later name ms (All-tail (λ message. node_of message ≡ Some name) _ ms all)
again_follows id later name (Reply ask pieces ∷ ms) all = again_follows id later name ms (All-tail (λ message. node_of message ≡ Some name) _ ms all)
again_follows id later name (Handover handed ∷ ms) all = again_follows id later name ms (All-tail (λ message. node_of message ≡ Some name) _ ms all)
again_follows id later name (Update request place epoch number changes ∷ ms) all = All-cons (IsFollowUp (Some name)) _ (filter_map (posted_again id later) ms)
    (All-head (λ message. node_of message ≡ Some name) _ ms all, tt) (again_follows id later name ms (All-tail (λ message. node_of message ≡ Some name) _ ms all))

left_true : (b c : Bool) → b ≡ true → (b || c) ≡ true
left_true true c h = refl
left_true false c h = absurd (cc)

first_true : (b c : Bool) → (b || false) ≡ true → (b || c) ≡ true
first_true true c h = refl
first_true false c h = absurd (cc)

right_true : (b c : Bool) → c ≡ true → (b || c) ≡ true
right_true true c h = refl
right_true false c h = h

-- an ask among the others, or that is the first, is among all
among_rest : (m : Message) (ms : List Message) (ask : ℕ) → is_among (keys.Ask ask) ms ≡ true → is_among (keys.Ask ask) (m ∷ ms) ≡ true
among_rest (Query request asked place epoch floor) ms ask h = h
among_rest (Ask one from asked start epoch floor) ms ask h = right_true (nat_eq ask one) (is_among (keys.Ask ask) ms) h
among_rest (Reply one pieces) ms ask h = h
among_rest (Update request place epoch number changes) ms ask h = h
among_rest (Handover handed) ms ask h = h

among_first : (m : Message) (ms : List Message) (ask : ℕ) → is_among (keys.Ask ask) (m ∷ []) ≡ true → is_among (keys.Ask ask) (m ∷ ms) ≡ true
among_first (Query request asked place epoch floor) ms ask h = absurd (cc)
among_first (Ask one from asked start epoch floor) ms ask h = first_true (nat_eq ask one) (is_among (keys.Ask ask) ms) h
among_first (Reply one pieces) ms ask h = absurd (cc)
among_first (Update request place epoch number changes) ms ask h = absurd (cc)
among_first (Handover handed) ms ask h = absurd (cc)

-- each ask that a gather serves is one that such a gather served before, or that was parked
module _ (Served : ℕ → Type 0) where
  abbrev AreServed : (ℕ → Option OpenGather) → Type 0
  AreServed gathers = (ask number : ℕ) → serves_ask ask (gathers number) ≡ true → Served ask

  -- one gather more
  served_with : (gathers : ℕ → Option OpenGather) (free : ℕ) (one : OpenGather) → ((ask : ℕ) → serves_ask ask (Some one) ≡ true → Served ask) → AreServed gathers → AreServed (at_number gathers free (Some one))
  served_with gathers free one new old ask number = by (nat_eq number free)
    where
      by : (b : Bool) → serves_ask ask (if b then Some one else gathers number) ≡ true → Served ask
      by true h = new ask h
      by false h = old ask number h

  -- one message more
  served_one : (t : Tables) (turn : Turn) (o : Opened) (m : Message) → ((ask : ℕ) → is_among (keys.Ask ask) (m ∷ []) ≡ true → Served ask) → AreServed o.gathers → AreServed (with_opened o (parked_gather t turn o.next m)).gathers
  served_one t turn o (Query request asked place epoch floor) parks old = served_with o.gathers o.next (unlent (client_gather t (record turn { next_gather = o.next }) request asked floor)) (λ ask h. absurd (cc)) old
  served_one t turn o (Ask one from asked start epoch floor) parks old = served_with o.gathers o.next (unlent (ask_gather t (record turn { next_gather = o.next }) one from asked start floor)) (λ ask h. parks ask (left_true (nat_eq ask one) false h)) old
  served_one t turn o (Reply ask pieces) parks old = old
  served_one t turn o (Update request place epoch number changes) parks old = old
  served_one t turn o (Handover handed) parks old = old

  served_all : (t : Tables) (turn : Turn) (ms : List Message) (o : Opened) → ((ask : ℕ) → is_among (keys.Ask ask) ms ≡ true → Served ask) → AreServed o.gathers → AreServed (parked_opened t turn o ms).gathers
  served_all t turn [] o parks old = old
  served_all t turn (m ∷ ms) o parks old = served_all t turn ms (with_opened o (parked_gather t turn o.next m)) (λ ask h. parks ask (among_rest m ms ask h))
      (served_one t turn o m (λ ask h. parks ask (among_first m ms ask h)) old)

-- ---- a handover

-- an ask is parked for one node alone
abbrev pub IsParkedOnce : Tables → Type 0
IsParkedOnce t = (name other : List Label) (ask : ℕ) → is_parked (t.seat name) (Some (keys.Ask ask)) ≡ true → is_parked (t.seat other) (Some (keys.Ask ask)) ≡ true → name ≡ other

asks_handed : (t : Tables) (turn : Turn) (handed : Handed) → IsParkedOnce t → KnowsItsAsks t → KnowsItsAsks (handover_taken t turn handed).tables
asks_handed t turn handed once knows = record {
  opened = λ number ask h. opens ask (are ask number h);
  parked = taken_knows.parked;
  apart = λ name ask number h. not_true (serves_ask ask ((gathers_then t turn handed).gathers number)) (λ is. apart_at name ask h (are ask number is));
}
  where
    Served : ℕ → Type 0
    Served ask = ((number : ℕ) × (serves_ask ask (t.gather number) ≡ true)) ⊎ (is_parked (t.seat handed.name) (Some (keys.Ask ask)) ≡ true)

    taken_knows : KnowsItsAsks (node_taken t handed)
    taken_knows = asks_seated (with_cache t (handed_in t.cache handed.pieces)) handed.name (took (t.seat handed.name) handed.epoch handed.last) (λ ask h. absurd (cc)) (asks_cached t (handed_in t.cache handed.pieces) knows)

    are : (ask number : ℕ) → serves_ask ask ((gathers_then t turn handed).gathers number) ≡ true → Served ask
    are = served_all Served (node_taken t handed) turn (t.seat handed.name).parked (record { gathers = t.gather; next = turn.next_gather }) (λ ask h. inr h) (λ ask number h. inl (number, h))

    opens : (ask : ℕ) → Served ask → t.asked ask ≡ true
    opens ask (inl h) = knows.opened h.0 ask h.1
    opens ask (inr h) = knows.parked handed.name ask h

    apart_at : (name : List Label) (ask : ℕ) → is_parked ((node_taken t handed).seat name) (Some (keys.Ask ask)) ≡ true → Served ask → ⊥
    apart_at name ask h (inl served) = let none : serves_ask ask (t.gather served.0) ≡ false = taken_knows.apart name ask served.0 h in let some : serves_ask ask (t.gather served.0) ≡ true = served.1 in cc
    apart_at name ask h (inr there) = by (pointwise label_eq name handed.name) refl h
      where
        by : (b : Bool) → pointwise label_eq name handed.name ≡ b → is_parked (if b then took (t.seat handed.name) handed.epoch handed.last else t.seat name) (Some (keys.Ask ask)) ≡ true → ⊥
        by true e h = cc
        by false e h = let same : pointwise label_eq name handed.name ≡ true = ap (λ (n : List Label). pointwise label_eq name n) (once handed.name name ask there h) ∙ same_self names name in cc

-- what is greater is no less
later_epoch : (epoch taken : ℕ) → nat_le epoch taken ≡ false → taken ≤ epoch
later_epoch epoch taken h = grind arith

follows_handover : (t : Tables) (turn : Turn) (handed : Handed) → All (λ message. node_of message ≡ Some handed.name) (t.seat handed.name).parked → IsParkedOnce t → Follows t turn (Some handed.name) (handover_arrives t turn handed)
follows_handover t turn handed placed once = by (nat_le handed.epoch (t.seat handed.name).taken) refl
  where
    by : (b : Bool) → nat_le handed.epoch (t.seat handed.name).taken ≡ b → Follows t turn (Some handed.name) (if b then only_change t turn else handover_taken t turn handed)
    by true old = follows_nothing t turn (Some handed.name)
    by false new = record {
      now_is = refl;
      asks_are = refl;
      id_is = refl;
      taken = taken_seated t handed.name (took (t.seat handed.name) handed.epoch handed.last) (later_epoch handed.epoch (t.seat handed.name).taken new);
      knows = asks_handed t turn handed once;
      entered = inl refl;
      sends = again_follows t.id handed.epoch handed.name (t.seat handed.name).parked placed;
    }

-- ---- all messages

pub follows_message : (kept : Bool) (waiting : Option ℕ) (t : Tables) (turn : Turn) (message : Message) → ((name : List Label) → All (λ (m : Message). node_of m ≡ Some name) (t.seat name).parked) → IsParkedOnce t → Follows t turn (node_of message) (arrives kept waiting t turn message)
follows_message kept waiting t turn (Query request asked name epoch floor) placed once = follows_directed kept t turn (Query request asked name epoch floor) (direct (t.seat name) epoch) refl tt
follows_message kept waiting t turn (Update request name epoch number changes) placed once = follows_directed kept t turn (Update request name epoch number changes) (direct (t.seat name) epoch) refl tt
follows_message kept waiting t turn (Reply ask pieces) placed once = follows_reply t turn waiting ask pieces
follows_message kept waiting t turn (Handover handed) placed once = follows_handover t turn handed (placed handed.name) once
follows_message kept waiting t turn (Ask ask from asked start epoch floor) placed once = by (t.asked ask) refl
  where
    by : (b : Bool) → t.asked ask ≡ b → Follows t turn (Some start.name) (if b then only_change t turn else mail_directed kept t turn (Ask ask from asked start epoch floor) (direct (t.seat start.name) epoch))
    by true met = follows_nothing t turn (Some start.name)
    by false fresh = follows_directed kept t turn (Ask ask from asked start epoch floor) (direct (t.seat start.name) epoch) fresh tt
