-- What an agent does as a handover arrives is what the protocol says of it.
use Rattle.std.proofs.Common.{◌≡◌, ℕ, suc, nat_le, nat_lt, Bool, true, false, List, [], ◌∷◌, map, All, Option, Some, unwrap_or, refl, sym, ap, ◌∙◌, arith}
use Rattle.std.specs.List.{filter_map}
use Rattle.std.proofs.lemmas.List.Elements.{All-head, All-tail}
use Rattle.iris_migrate.specs.declared.message.Handover.{Handover as Handed}
use Rattle.iris_migrate.specs.declared.message.Message.{Message}
use Rattle.iris_migrate.specs.declared.message.Message.TheVariants.{Query, Ask, Reply, Update, Handover}
use Rattle.iris_migrate.specs.Messages.{node_of}
use Rattle.iris_migrate.specs.Titles as titles
use Rattle.iris_gather.specs.OpenGathers.{unlent}
use Rattle.iris_agent.specs.declared.turn.Turn.{Turn}
use Rattle.iris_agent.specs.Arrivals.{arrives}
use Rattle.iris_agent.specs.Handovers.{Opened, with_opened, parked_gather, parked_opened, posted_again, node_taken, handed_in, handover_taken}
use Rattle.iris_agent.specs.Opened.{client_gather, ask_gather}
use Rattle.iris_agent.specs.Tables.{Tables, with_cache}
use Rattle.iris_base.specs.declared.name.Label.{Label}
use Rattle.iris_protocol.specs.Agent as protocol
use Rattle.iris_protocol.specs.World.{mail_to, update}
use Rattle.iris_runs.specs.Letters.{agent_of, arrival_of, letter_of, mail_of, seat_of, step_of}
use Rattle.iris_runs.proofs.SeatTies.{gather_tie, seat_tie}

-- the tables with these gathers
abbrev with_gathers : Tables → Opened → Tables
with_gathers t o = record t { gather = o.gathers }

abbrev opens_all : Tables → Opened → List Message → protocol.Handled
opens_all t o parked = protocol.agent_opens_all (agent_of (with_gathers t o)) o.next (filter_map mail_of parked)

-- what was parked opens its gathers one after another
parked_ties : (t : Tables) (turn : Turn) (o : Opened) (parked : List Message)
    → opens_all t o parked ≡ record { agent = agent_of (with_gathers t (parked_opened t turn o parked)); next = (parked_opened t turn o parked).next; steps = [] }
parked_ties t turn o [] = refl
parked_ties t turn o (Query request asked name epoch floor ∷ parked) =
    ap (λ x. protocol.agent_opens_all x (suc o.next) (filter_map mail_of parked)) (sym (gather_tie (with_gathers t o) o.next (Some (unlent (client_gather t (record turn { next_gather = o.next }) request asked floor)))))
    ∙ parked_ties t turn (with_opened o (parked_gather t turn o.next (Query request asked name epoch floor))) parked
parked_ties t turn o (Ask ask from asked start epoch floor ∷ parked) =
    ap (λ x. protocol.agent_opens_all x (suc o.next) (filter_map mail_of parked)) (sym (gather_tie (with_gathers t o) o.next (Some (unlent (ask_gather t (record turn { next_gather = o.next }) ask from asked start floor)))))
    ∙ parked_ties t turn (with_opened o (parked_gather t turn o.next (Ask ask from asked start epoch floor))) parked
parked_ties t turn o (Reply ask pieces ∷ parked) = parked_ties t turn o parked
parked_ties t turn o (Update request name epoch number changes ∷ parked) = parked_ties t turn o parked
parked_ties t turn o (Handover handed ∷ parked) = parked_ties t turn o parked

-- a message is for the node of that name
abbrev IsOf : List Label → Message → Type 0
IsOf name message = node_of message ≡ Some name

-- parked updates are posted again
again_ties : (id : List ℕ) (name : List Label) (epoch : ℕ) (parked : List Message) → All (IsOf name) parked
    → map (step_of []) (filter_map (posted_again id epoch) parked) ≡ protocol.agent_again id name epoch (filter_map mail_of parked)
again_ties id name epoch [] placed = refl
again_ties id name epoch (Query request asked own earlier floor ∷ parked) placed = again_ties id name epoch parked (All-tail (IsOf name) (Query request asked own earlier floor) parked placed)
again_ties id name epoch (Ask ask from asked start earlier floor ∷ parked) placed = again_ties id name epoch parked (All-tail (IsOf name) (Ask ask from asked start earlier floor) parked placed)
again_ties id name epoch (Reply ask pieces ∷ parked) placed = again_ties id name epoch parked (All-tail (IsOf name) (Reply ask pieces) parked placed)
again_ties id name epoch (Update request own earlier number changes ∷ parked) placed = λ i.
    protocol.send (mail_to id (named i) epoch (update request number)) ∷ again_ties id name epoch parked (All-tail (IsOf name) (Update request own earlier number changes) parked placed) i
  where
    named : own ≡ name
    named = ap (λ place. unwrap_or place own) (All-head (IsOf name) (Update request own earlier number changes) parked placed)
again_ties id name epoch (Handover handed ∷ parked) placed = again_ties id name epoch parked (All-tail (IsOf name) (Handover handed) parked placed)

pub handover_arrives : (kept : Bool) (waiting : Option ℕ) (t : Tables) (turn : Turn) (handed : Handed) → All (IsOf handed.name) (t.seat handed.name).parked
    → arrival_of (arrives kept waiting t turn (Handover handed)) ≡ protocol.agent_arrives t.id (agent_of t) kept turn.next_gather (letter_of (Handover handed))
unfolding agent_of
handover_arrives kept waiting t turn handed placed = go (nat_le handed.epoch (t.seat handed.name).taken) refl
  where
    what : Type 0
    what = arrival_of (arrives kept waiting t turn (Handover handed)) ≡ protocol.agent_arrives t.id (agent_of t) kept turn.next_gather (letter_of (Handover handed))

    go : (stale : Bool) → nat_le handed.epoch (t.seat handed.name).taken ≡ stale → what
    go true e = rw e (rw (not_later e) refl)
      where
        not_later : nat_le handed.epoch (t.seat handed.name).taken ≡ true → nat_lt (t.seat handed.name).taken handed.epoch ≡ false
        not_later le = grind arith
    go false e = rw e (rw (is_later e) (λ i. record { agent = (sym opened i).agent; next = (sym opened i).next; steps = again_ties t.id handed.name handed.epoch (t.seat handed.name).parked placed i }))
      where
        begun : Opened
        begun = record { gathers = t.gather; next = turn.next_gather }

        opened : protocol.agent_opens_all (protocol.agent_seat (agent_of t) handed.name (seat_of (titles.took (t.seat handed.name) handed.epoch handed.last))) turn.next_gather (filter_map mail_of (t.seat handed.name).parked)
            ≡ record { agent = agent_of (handover_taken t turn handed).tables; next = (handover_taken t turn handed).turn.next_gather; steps = [] }
        opened = ap (λ x. protocol.agent_opens_all x turn.next_gather (filter_map mail_of (t.seat handed.name).parked)) (sym (seat_tie (with_cache t (handed_in t.cache handed.pieces)) handed.name (titles.took (t.seat handed.name) handed.epoch handed.last)))
            ∙ parked_ties (node_taken t handed) turn begun (t.seat handed.name).parked

        is_later : nat_le handed.epoch (t.seat handed.name).taken ≡ false → nat_lt (t.seat handed.name).taken handed.epoch ≡ true
        is_later gt = grind arith
