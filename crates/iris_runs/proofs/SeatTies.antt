-- What an agent has, changed at one node or one number, is what the protocol has of it, changed there.
use Rattle.std.proofs.Common.{◌≡◌, ℕ, nat_lt, nat_eq, Bool, true, false, if◌then◌else◌, ◌||◌, List, [], ◌∷◌, ◌++◌, Option, Some, None, option_map, refl, ap, ◌∙◌}
use Rattle.std.specs.List.{filter_map}
use Rattle.std.specs.Cmp.Lexicographic.{pointwise}
use Rattle.std.proofs.lemmas.List.Elements.{filter_map-append}
use Rattle.iris_base.specs.declared.name.Label.{Label}
use Rattle.iris_base.specs.NameOrder.{label_eq}
use Rattle.iris_tree.specs.declared.change.Change.{Change}
use Rattle.iris_xpath.specs.Syntax.{Syntax}
use Rattle.iris_need.specs.declared.need.Start.{Start}
use Rattle.iris_migrate.specs.declared.direct.Direct.{Direct}
use Rattle.iris_migrate.specs.declared.direct.Direct.TheVariants as directed
use Rattle.iris_migrate.specs.declared.direct.Forward.{Forward}
use Rattle.iris_migrate.specs.declared.key.Key.{Key}
use Rattle.iris_migrate.specs.declared.key.Key.TheVariants as keys
use Rattle.iris_migrate.specs.declared.message.Message.{Message}
use Rattle.iris_migrate.specs.declared.message.Message.TheVariants.{Query, Ask, Reply, Update, Handover}
use Rattle.iris_migrate.specs.Messages.{key_eq, key_of, is_among}
use Rattle.iris_migrate.specs.Titles as titles
use Rattle.iris_migrate.specs.Titles.{Seat}
use Rattle.iris_gather.specs.declared.entries.OpenGather.{OpenGather}
use Rattle.iris_agent.specs.Tables.{Tables, with_seat, with_gather}
use Rattle.iris_protocol.specs.Agent.{agent_gather, agent_seat}
use Rattle.iris_protocol.specs.World as model
use Rattle.iris_protocol.specs.World.{Mail}
use Rattle.iris_runs.specs.Letters.{agent_of, gather_of, seat_of, mail_of, mail_with, forward_of, rank_of}

-- ---- tables

pub gather_tie : (t : Tables) (number : ℕ) (one : Option OpenGather) → agent_of (with_gather t number one) ≡ agent_gather (agent_of t) number (option_map gather_of one)
unfolding agent_of
gather_tie t number one = λ i. record { seat = (agent_of t).seat; gather = λ other. at other (nat_eq other number) refl i; knows = t.asked }
  where
    at : (other : ℕ) (same : Bool) → nat_eq other number ≡ same → option_map gather_of (if nat_eq other number then one else t.gather other) ≡ (if nat_eq other number then option_map gather_of one else option_map gather_of (t.gather other))
    at other true e = rw e refl
    at other false e = rw e refl

pub seat_tie : (t : Tables) (name : List Label) (seat : Seat) → agent_of (with_seat t name seat) ≡ agent_seat (agent_of t) name (seat_of seat)
unfolding agent_of
seat_tie t name seat = λ i. record { seat = λ other. at other (pointwise label_eq other name) refl i; gather = (agent_of t).gather; knows = t.asked }
  where
    at : (other : List Label) (same : Bool) → pointwise label_eq other name ≡ same → seat_of (if pointwise label_eq other name then seat else t.seat other) ≡ (if pointwise label_eq other name then seat_of seat else seat_of (t.seat other))
    at other true e = rw e refl
    at other false e = rw e refl

-- ---- one node

abbrev pub direct_seen : Direct → model.Direct
direct_seen directed.Serve = model.serve
direct_seen (directed.Forward to epoch) = model.pass_on to epoch
direct_seen directed.Park = model.park

-- what becomes of a message of that epoch
pub direct_tie : (seat : Seat) (epoch : ℕ) → model.direct (seat_of seat) epoch ≡ direct_seen (titles.direct seat epoch)
direct_tie seat epoch = go seat.last seat.forward
  where
    away : (forward : Option Forward) → model.direct_away (option_map forward_of forward) epoch ≡ direct_seen (titles.direct_away forward epoch)
    away None = refl
    away (Some forward) = by (nat_lt epoch forward.epoch) refl
      where
        by : (later : Bool) → nat_lt epoch forward.epoch ≡ later → model.direct_away (Some (forward_of forward)) epoch ≡ direct_seen (titles.direct_away (Some forward) epoch)
        by true e = rw e refl
        by false e = rw e refl

    go : (last : Option ℕ) (forward : Option Forward) → model.direct_by last (option_map forward_of forward) epoch ≡ direct_seen (titles.direct_by last forward epoch)
    go (Some last) forward = refl
    go None forward = away forward

-- ---- parked messages

abbrev pub key_seen : Key → model.Key
key_seen (keys.Request request) = model.request request
key_seen (keys.Ask ask) = model.ask_key ask

same_keys : (one other : Key) → model.key_eq (key_seen one) (key_seen other) ≡ key_eq one other
same_keys (keys.Request r) (keys.Request s) = refl
same_keys (keys.Request r) (keys.Ask i) = refl
same_keys (keys.Ask i) (keys.Request r) = refl
same_keys (keys.Ask i) (keys.Ask j) = refl

or_else : (one other : Bool) → (if one then true else other) ≡ (one || other)
or_else true other = refl
or_else false other = refl

-- the same with one more in front
behind : (key other : Key) (parked : List Message) → model.is_parked (key_seen key) (filter_map mail_of parked) ≡ is_among key parked
    → (if model.key_eq (key_seen key) (key_seen other) then true else model.is_parked (key_seen key) (filter_map mail_of parked)) ≡ (key_eq key other || is_among key parked)
behind key other parked rest = or_else (model.key_eq (key_seen key) (key_seen other)) (model.is_parked (key_seen key) (filter_map mail_of parked)) ∙ λ i. same_keys key other i || rest i

-- whether one of its request or its ask is parked already
pub parked_tie : (key : Key) (parked : List Message) → model.is_parked (key_seen key) (filter_map mail_of parked) ≡ is_among key parked
parked_tie key [] = refl
parked_tie key (Query request asked name epoch floor ∷ parked) = behind key (keys.Request request) parked (parked_tie key parked)
parked_tie key (Ask ask from asked start epoch floor ∷ parked) = behind key (keys.Ask ask) parked (parked_tie key parked)
parked_tie key (Reply ask pieces ∷ parked) = parked_tie key parked
parked_tie key (Update request name epoch number changes ∷ parked) = behind key (keys.Request request) parked (parked_tie key parked)
parked_tie key (Handover handed ∷ parked) = parked_tie key parked

-- one is parked behind the others, unless one of its key is parked
parked_behind : (seat : Seat) (message : Message) (key : Key) (m : Mail) → key_of message ≡ Some key → mail_of message ≡ Some m → model.key m.demand ≡ key_seen key → seat_of (titles.parking seat message) ≡ model.parking (seat_of seat) m
parked_behind seat message key m is_key is_mail same = go (is_among key seat.parked) refl
  where
    there : model.is_parked (model.key m.demand) (filter_map mail_of seat.parked) ≡ is_among key seat.parked
    there = ap (λ k. model.is_parked k (filter_map mail_of seat.parked)) same ∙ parked_tie key seat.parked

    more : filter_map mail_of (seat.parked ++ message ∷ []) ≡ filter_map mail_of seat.parked ++ m ∷ []
    more = filter_map-append mail_of seat.parked (message ∷ []) ∙ rw is_mail refl

    go : (parked : Bool) → is_among key seat.parked ≡ parked → seat_of (titles.parking seat message) ≡ model.parking (seat_of seat) m
    go true e = rw is_key (rw e (rw (there ∙ e) refl))
    go false e = rw is_key (rw e (rw (there ∙ e) (λ i. record (seat_of seat) { parked = more i })))

pub parking_query : (seat : Seat) (request : ℕ) (asked : Syntax) (name : List Label) (epoch floor : ℕ) → seat_of (titles.parking seat (Query request asked name epoch floor)) ≡ model.parking (seat_of seat) (mail_with epoch (model.query request))
parking_query seat request asked name epoch floor = parked_behind seat (Query request asked name epoch floor) (keys.Request request) (mail_with epoch (model.query request)) refl refl refl

pub parking_ask : (seat : Seat) (ask : ℕ) (from : List ℕ) (asked : Syntax) (start : Start) (epoch floor : ℕ) → seat_of (titles.parking seat (Ask ask from asked start epoch floor)) ≡ model.parking (seat_of seat) (mail_with epoch (model.ask ask from (rank_of start)))
parking_ask seat ask from asked start epoch floor = parked_behind seat (Ask ask from asked start epoch floor) (keys.Ask ask) (mail_with epoch (model.ask ask from (rank_of start))) refl refl refl

pub parking_update : (seat : Seat) (request : ℕ) (name : List Label) (epoch number : ℕ) (changes : List Change) → seat_of (titles.parking seat (Update request name epoch number changes)) ≡ model.parking (seat_of seat) (mail_with epoch (model.update request number))
parking_update seat request name epoch number changes = parked_behind seat (Update request name epoch number changes) (keys.Request request) (mail_with epoch (model.update request number)) refl refl refl
