-- What an agent does as a query, an ask or an update arrives is what the protocol says of it.
use Rattle.std.proofs.Common.{◌≡◌, ℕ, suc, nat_le, nat_lt, Bool, true, false, ◌&&◌, is_some, List, [], ◌∷◌, Option, Some, None, option_map, Result, Ok, Err, refl, sym, ap, ◌∙◌, arith}
use Rattle.std.proofs.lemmas.Bool.{false≢true}
use Rattle.iris_base.specs.declared.name.Label.{Label}
use Rattle.iris_tree.specs.declared.change.Change.{Change}
use Rattle.iris_tree.specs.declared.local.Local.{Local}
use Rattle.iris_xpath.specs.Syntax.{Syntax}
use Rattle.iris_need.specs.declared.need.Start.{Start}
use Rattle.iris_cache.specs.Recency.{renewed_in}
use Rattle.iris_migrate.specs.declared.direct.Direct.{Direct}
use Rattle.iris_migrate.specs.declared.direct.Direct.TheVariants as directed
use Rattle.iris_migrate.specs.declared.direct.Forward.{Forward}
use Rattle.iris_migrate.specs.declared.message.Message.TheVariants.{Query, Ask, Update}
use Rattle.iris_migrate.specs.Titles as titles
use Rattle.iris_migrate.specs.Titles.{with_last}
use Rattle.iris_gather.specs.OpenGathers.{unlent}
use Rattle.iris_agent.specs.declared.turn.Turn.{Turn}
use Rattle.iris_agent.specs.Arrivals.{arrives, mail_directed}
use Rattle.iris_agent.specs.CityChanges.{changes_in_city}
use Rattle.iris_agent.specs.Opened.{client_gather, ask_gather}
use Rattle.iris_agent.specs.Tables.{Tables, with_cache, with_asked}
use Rattle.iris_agent.specs.Updates.{value_owned, update_of}
use Rattle.iris_protocol.specs.Agent as protocol
use Rattle.iris_protocol.specs.World as model
use Rattle.iris_runs.specs.Letters.{agent_of, arrival_of, letter_of, mail_with, rank_of, is_kept, can_change, seat_of, forward_of}
use Rattle.iris_runs.proofs.SeatTies.{gather_tie, seat_tie, direct_seen, direct_tie, parking_query, parking_ask, parking_update}

-- ---- queries

query_directed : (kept : Bool) (t : Tables) (turn : Turn) (request : ℕ) (asked : Syntax) (name : List Label) (epoch floor : ℕ) (d : Direct)
    → arrival_of (mail_directed kept t turn (Query request asked name epoch floor) d) ≡ protocol.agent_directs (agent_of t) kept turn.next_gather name (mail_with epoch (model.query request)) (direct_seen d)
unfolding agent_of
query_directed kept t turn request asked name epoch floor directed.Serve = λ i. record { agent = gather_tie t turn.next_gather (Some (unlent (client_gather t turn request asked floor))) i; next = suc turn.next_gather; steps = [] }
query_directed kept t turn request asked name epoch floor (directed.Forward to later) = refl
query_directed kept t turn request asked name epoch floor directed.Park = λ i. record { agent = (seat_tie t name (titles.parking (t.seat name) (Query request asked name epoch floor)) ∙ at_seat) i; next = turn.next_gather; steps = [] }
  where
    at_seat : protocol.agent_seat (agent_of t) name (seat_of (titles.parking (t.seat name) (Query request asked name epoch floor))) ≡ protocol.agent_seat (agent_of t) name (model.parking (seat_of (t.seat name)) (mail_with epoch (model.query request)))
    at_seat = ap (protocol.agent_seat (agent_of t) name) (parking_query (t.seat name) request asked name epoch floor)

pub query_arrives : (kept : Bool) (waiting : Option ℕ) (t : Tables) (turn : Turn) (request : ℕ) (asked : Syntax) (name : List Label) (epoch floor : ℕ)
    → arrival_of (arrives kept waiting t turn (Query request asked name epoch floor)) ≡ protocol.agent_arrives t.id (agent_of t) kept turn.next_gather (letter_of (Query request asked name epoch floor))
unfolding agent_of
query_arrives kept waiting t turn request asked name epoch floor =
    query_directed kept t turn request asked name epoch floor (titles.direct (t.seat name) epoch)
    ∙ ap (protocol.agent_directs (agent_of t) kept turn.next_gather name (mail_with epoch (model.query request))) (sym (direct_tie (t.seat name) epoch))

-- ---- asks

ask_directed : (kept : Bool) (t : Tables) (turn : Turn) (ask : ℕ) (from : List ℕ) (asked : Syntax) (start : Start) (epoch floor : ℕ) (d : Direct)
    → arrival_of (mail_directed kept t turn (Ask ask from asked start epoch floor) d) ≡ protocol.agent_directs (agent_of t) kept turn.next_gather start.name (mail_with epoch (model.ask ask from (rank_of start))) (direct_seen d)
unfolding agent_of
ask_directed kept t turn ask from asked start epoch floor directed.Serve = λ i. record { agent = gather_tie (with_asked t ask) turn.next_gather (Some (unlent (ask_gather t turn ask from asked start floor))) i; next = suc turn.next_gather; steps = [] }
ask_directed kept t turn ask from asked start epoch floor (directed.Forward to later) = refl
ask_directed kept t turn ask from asked start epoch floor directed.Park = λ i. record { agent = (seat_tie (with_asked t ask) start.name (titles.parking (t.seat start.name) (Ask ask from asked start epoch floor)) ∙ at_seat) i; next = turn.next_gather; steps = [] }
  where
    at_seat : protocol.agent_seat (agent_of (with_asked t ask)) start.name (seat_of (titles.parking (t.seat start.name) (Ask ask from asked start epoch floor))) ≡ protocol.agent_seat (agent_of (with_asked t ask)) start.name (model.parking (seat_of (t.seat start.name)) (mail_with epoch (model.ask ask from (rank_of start))))
    at_seat = ap (protocol.agent_seat (agent_of (with_asked t ask)) start.name) (parking_ask (t.seat start.name) ask from asked start epoch floor)

pub ask_arrives : (kept : Bool) (waiting : Option ℕ) (t : Tables) (turn : Turn) (ask : ℕ) (from : List ℕ) (asked : Syntax) (start : Start) (epoch floor : ℕ)
    → arrival_of (arrives kept waiting t turn (Ask ask from asked start epoch floor)) ≡ protocol.agent_arrives t.id (agent_of t) kept turn.next_gather (letter_of (Ask ask from asked start epoch floor))
unfolding agent_of
ask_arrives kept waiting t turn ask from asked start epoch floor = go (t.asked ask) refl
  where
    go : (met : Bool) → t.asked ask ≡ met → arrival_of (arrives kept waiting t turn (Ask ask from asked start epoch floor)) ≡ protocol.agent_arrives t.id (agent_of t) kept turn.next_gather (letter_of (Ask ask from asked start epoch floor))
    go true e = rw e refl
    go false e = rw e (
        ask_directed kept t turn ask from asked start epoch floor (titles.direct (t.seat start.name) epoch)
        ∙ ap (protocol.agent_directs (agent_of t) kept turn.next_gather start.name (mail_with epoch (model.ask ask from (rank_of start)))) (sym (direct_tie (t.seat start.name) epoch)))

-- ---- updates

-- an update of a node of that value and last number, where the keeper keeps a row or fails
update_served : (kept : Bool) (t : Tables) (turn : Turn) (request : ℕ) (name : List Label) (number : ℕ) (changes : List Change) (local : Local) (last : ℕ)
    → (t.seat name).last ≡ Some last
    → arrival_of (update_of kept t turn request name number changes (Some local) (Some last)) ≡ protocol.agent_serves (agent_of t) (can_change t.kinds changes (Some local) && kept) turn.next_gather name (model.update request number)
unfolding agent_of
update_served kept t turn request name number changes local last is = old (nat_le number last) refl
  where
    what : Type 0
    what = arrival_of (update_of kept t turn request name number changes (Some local) (Some last)) ≡ protocol.agent_serves (agent_of t) (can_change t.kinds changes (Some local) && kept) turn.next_gather name (model.update request number)

    fits : nat_lt last number ≡ true → nat_le number last ≡ false → (made : Result Local ℕ) → changes_in_city t.kinds local changes ≡ made → (keeps : Bool) → kept ≡ keeps → what
    fits less is_new (Err at) e keeps k = rw is (rw is_new (rw e (rw less refl)))
    fits less is_new (Ok after) e true k = rw is (rw is_new (rw e (rw k (rw less (λ i. record { agent = seat_tie (with_cache t (renewed_in t.cache name after)) name (with_last (t.seat name) number) i; next = turn.next_gather; steps = protocol.tell_accepted request name number ∷ [] })))))
    fits less is_new (Ok after) e false k = rw is (rw is_new (rw e (rw k (rw less refl))))

    old : (is_old : Bool) → nat_le number last ≡ is_old → what
    old true e = rw is (rw e (rw (not_less e) refl))
      where
        not_less : nat_le number last ≡ true → nat_lt last number ≡ false
        not_less le = grind arith
    old false e = fits (is_less e) e (changes_in_city t.kinds local changes) refl kept refl
      where
        is_less : nat_le number last ≡ false → nat_lt last number ≡ true
        is_less gt = grind arith

-- it is not served
abbrev pub IsApart : Direct → Type 0
IsApart directed.Serve = ⊥
IsApart (directed.Forward to later) = Unit {0}
IsApart directed.Park = Unit {0}

pub away_apart : (forward : Option Forward) (epoch : ℕ) → IsApart (titles.direct_away forward epoch)
away_apart None epoch = tt
away_apart (Some forward) epoch = go (nat_lt epoch forward.epoch) refl
  where
    go : (later : Bool) → nat_lt epoch forward.epoch ≡ later → IsApart (titles.direct_away (Some forward) epoch)
    go true e = rw e tt
    go false e = rw e tt

update_apart : (kept : Bool) (t : Tables) (turn : Turn) (ok : Bool) (request : ℕ) (name : List Label) (epoch number : ℕ) (changes : List Change) (d : Direct) → IsApart d
    → arrival_of (mail_directed kept t turn (Update request name epoch number changes) d) ≡ protocol.agent_directs (agent_of t) ok turn.next_gather name (mail_with epoch (model.update request number)) (direct_seen d)
unfolding agent_of
update_apart kept t turn ok request name epoch number changes directed.Serve apart = absurd apart
update_apart kept t turn ok request name epoch number changes (directed.Forward to later) apart = refl
update_apart kept t turn ok request name epoch number changes directed.Park apart = λ i. record { agent = (seat_tie t name (titles.parking (t.seat name) (Update request name epoch number changes)) ∙ at_seat) i; next = turn.next_gather; steps = [] }
  where
    at_seat : protocol.agent_seat (agent_of t) name (seat_of (titles.parking (t.seat name) (Update request name epoch number changes))) ≡ protocol.agent_seat (agent_of t) name (model.parking (seat_of (t.seat name)) (mail_with epoch (model.update request number)))
    at_seat = ap (protocol.agent_seat (agent_of t) name) (parking_update (t.seat name) request name epoch number changes)

pub update_arrives : (kept : Bool) (waiting : Option ℕ) (t : Tables) (turn : Turn) (request : ℕ) (name : List Label) (epoch number : ℕ) (changes : List Change)
    → is_some (value_owned t.cache.contents name) ≡ is_some (t.seat name).last
    → arrival_of (arrives kept waiting t turn (Update request name epoch number changes)) ≡ protocol.agent_arrives t.id (agent_of t) (is_kept kept t (Update request name epoch number changes)) turn.next_gather (letter_of (Update request name epoch number changes))
unfolding agent_of
update_arrives kept waiting t turn request name epoch number changes owns = go (t.seat name).last (value_owned t.cache.contents name) refl refl owns
  where
    mail : model.Mail
    mail = mail_with epoch (model.update request number)

    what : Type 0
    what = arrival_of (arrives kept waiting t turn (Update request name epoch number changes)) ≡ protocol.agent_arrives t.id (agent_of t) (is_kept kept t (Update request name epoch number changes)) turn.next_gather (letter_of (Update request name epoch number changes))

    go : (last : Option ℕ) (value : Option Local) → (t.seat name).last ≡ last → value_owned t.cache.contents name ≡ value → is_some value ≡ is_some last → what
    go (Some last) (Some local) el ev both = here ∙ update_served kept t turn request name number changes local last el ∙ there
      where
        here : arrival_of (arrives kept waiting t turn (Update request name epoch number changes)) ≡ arrival_of (update_of kept t turn request name number changes (Some local) (Some last))
        here = (λ i. arrival_of (mail_directed kept t turn (Update request name epoch number changes) (titles.direct_by (el i) (t.seat name).forward epoch))) ∙ λ i. arrival_of (update_of kept t turn request name number changes (ev i) (el i))

        there : protocol.agent_serves (agent_of t) (can_change t.kinds changes (Some local) && kept) turn.next_gather name (model.update request number) ≡ protocol.agent_arrives t.id (agent_of t) (is_kept kept t (Update request name epoch number changes)) turn.next_gather (letter_of (Update request name epoch number changes))
        there = sym λ i. protocol.agent_directs (agent_of t) (can_change t.kinds changes (ev i) && kept) turn.next_gather name mail (model.direct_by (el i) (option_map forward_of (t.seat name).forward) epoch)
    go (Some last) None el ev both = absurd (false≢true both)
    go None (Some local) el ev both = absurd (false≢true (sym both))
    go None None el ev both = here ∙ update_apart kept t turn (is_kept kept t (Update request name epoch number changes)) request name epoch number changes (titles.direct_away (t.seat name).forward epoch) (away_apart (t.seat name).forward epoch) ∙ there
      where
        here : arrival_of (arrives kept waiting t turn (Update request name epoch number changes)) ≡ arrival_of (mail_directed kept t turn (Update request name epoch number changes) (titles.direct_away (t.seat name).forward epoch))
        here = rw el refl

        there : protocol.agent_directs (agent_of t) (is_kept kept t (Update request name epoch number changes)) turn.next_gather name mail (direct_seen (titles.direct_away (t.seat name).forward epoch))
            ≡ protocol.agent_directs (agent_of t) (is_kept kept t (Update request name epoch number changes)) turn.next_gather name mail (model.direct (seat_of (t.seat name)) epoch)
        there = ap (protocol.agent_directs (agent_of t) (is_kept kept t (Update request name epoch number changes)) turn.next_gather name mail) (sym (direct_tie (t.seat name) epoch ∙ rw el refl))
