-- A city as it starts is good.
use Rattle.std.proofs.Common.{◌≡◌, ℕ, Bool, true, false, if◌then◌else◌, List, [], ◌∷◌, All, Some, None, IfSome, option_map, refl, sym, ap, subst, ◌∙◌}
use Rattle.std.proofs.lemmas.Bool.{false≢true}
use Rattle.std.proofs.lemmas.List.Elements.{All-nil}
use Rattle.iris_base.specs.declared.name.Label.{Label}
use Rattle.iris_fragment.specs.declared.piece.Level.TheVariants as level
use Rattle.iris_migrate.specs.declared.key.Key.TheVariants as keys
use Rattle.iris_migrate.specs.Messages.{node_of}
use Rattle.iris_migrate.specs.Titles.{empty_seat, with_last, is_parked}
use Rattle.iris_gather.specs.OpenGathers.{serves_ask}
use Rattle.iris_agent.specs.Tables.{Tables}
use Rattle.iris_protocol.proofs.Runs.{start_good}
use Rattle.iris_protocol.specs.Program as protocol_programs
use Rattle.iris_protocol.specs.Program.{Program, Known}
use Rattle.iris_protocol.specs.Table.{AgentId, agents}
use Rattle.iris_protocol.specs.World as model
use Rattle.iris_protocol.specs.World.{entries, last_number}
use Rattle.iris_runs.specs.Entered.{KeptUpdates, updates_accepted}
use Rattle.iris_runs.specs.Good.{Past, KnowsItsAsks, IsPostAt, IsGood, moment_of}
use Rattle.iris_runs.specs.Letters.{agent_of, gather_of, seat_of}
use Rattle.iris_runs.specs.Moments.{Wanted, IsGatherAt, IsMessageAt, IsAgentAt}
use Rattle.iris_runs.specs.Starts.{IsAgentStart, IsStart}
use Rattle.iris_runs.specs.Worlds.{World, owner_of, epoch_of, post_of, program_of}

-- ---- by the protocol

seat_seen : (rows : KeptUpdates) (name : List Label) (owns : Bool) → model.start_seat owns (last_number name (entries rows)) ≡ seat_of (if owns then with_last empty_seat (last_number name (entries rows)) else empty_seat)
seat_seen rows name true = refl
seat_seen rows name false = refl

agent_begun : (rows : KeptUpdates) (w : World) (a : AgentId) (t : Tables) → IsAgentStart rows w a t
    → record { seat = λ name. model.start_seat (agents.same a (owner_of w.registry name)) (last_number name (entries rows)); gather = λ number. None; knows = λ ask. false } ≡ agent_of t
unfolding agent_of
agent_begun rows w a t is = λ i. record {
  seat = λ name. (seat_seen rows name (agents.same a (owner_of w.registry name)) ∙ sym (ap seat_of (is.seats name))) i;
  gather = λ number. sym (ap (option_map gather_of) (is.gathers number)) i;
  knows = λ ask. sym (is.asked ask) i;
}

program_begun : (rows : KeptUpdates) (w : World) → IsStart rows w → protocol_programs.program_of (model.start (owner_of w.registry) (epoch_of w.registry) rows) ≡ program_of w (entries rows)
unfolding program_of
program_begun rows w is = λ i. record {
  owner = owner_of w.registry;
  epoch = epoch_of w.registry;
  agent = λ a. agent_begun rows w a (w.agent a) (is.agents_are a) i;
  posted = record { post = λ k. sym (ap (option_map post_of) (is.post k)) i; seen = λ k. sym (is.seen k) i; posts = sym is.posts i };
  closed = λ request. sym (is.closed request) i;
  requests = sym is.requests i;
  next_gather = sym is.next_gather i;
  next_ask = sym is.next_ask i;
  book = entries rows;
}

-- ---- what agents hold

nothing_parked : (rows : KeptUpdates) (w : World) (a : AgentId) (t : Tables) (name : List Label) → IsAgentStart rows w a t → (t.seat name).parked ≡ []
nothing_parked rows w a t name is = ap (λ seat. seat.parked) (is.seats name) ∙ either (agents.same a (owner_of w.registry name))
  where
    either : (owns : Bool) → (if owns then with_last empty_seat (last_number name (entries rows)) else empty_seat).parked ≡ []
    either true = refl
    either false = refl

agent_right : (rows : KeptUpdates) (w : World) (wanted : ℕ → Wanted) (a : AgentId) (t : Tables) → IsAgentStart rows w a t → IsAgentAt (moment_of w wanted) t
agent_right rows w wanted a t is = record {
  top = is.top;
  copies = is.copies;
  orderly = is.orderly;
  owns = is.owns;
  gathers = λ number. subst (λ one. IfSome one (λ there. IsGatherAt (moment_of w wanted) there.gather)) (sym (is.gathers number)) tt;
  parked = λ name. subst (All (IsMessageAt (moment_of w wanted))) (sym (nothing_parked rows w a t name is)) (All-nil (IsMessageAt (moment_of w wanted)));
  placed = λ name. subst (All (λ message. node_of message ≡ Some name)) (sym (nothing_parked rows w a t name is)) (All-nil (λ message. node_of message ≡ Some name));
}

agent_knows : (rows : KeptUpdates) (w : World) (a : AgentId) (t : Tables) → IsAgentStart rows w a t → KnowsItsAsks t
agent_knows rows w a t is = record {
  opened = λ number ask serves. absurd (false≢true (sym (ap (serves_ask ask) (is.gathers number)) ∙ serves));
  parked = λ name ask parked. absurd (false≢true (sym (not_parked name ask) ∙ parked));
  apart = λ name ask number parked. absurd (false≢true (sym (not_parked name ask) ∙ parked));
}
  where
    not_parked : (name : List Label) (ask : ℕ) → is_parked (t.seat name) (Some (keys.Ask ask)) ≡ false
    not_parked name ask = ap (λ seat. is_parked seat (Some (keys.Ask ask))) (is.seats name) ∙ either (agents.same a (owner_of w.registry name))
      where
        either : (owns : Bool) → is_parked (if owns then with_last empty_seat (last_number name (entries rows)) else empty_seat) (Some (keys.Ask ask)) ≡ false
        either true = refl
        either false = refl

-- ---- all

rows_accepted : (rows : KeptUpdates) → updates_accepted (entries rows) ≡ rows
rows_accepted [] = refl
rows_accepted (row ∷ rows) = ap (λ (others : KeptUpdates). row ∷ others) (rows_accepted rows)

abbrev past_begun : KeptUpdates → Past
past_begun rows = record { accepted = entries rows; wanted = λ ask. record { floor = 0; name = []; level = level.Ids } }

pub begun_good : (rows : KeptUpdates) (w : World) → IsStart rows w → (past : Past) × IsGood w past
begun_good rows w is = (
  past_begun rows,
  record {
    known = record { world = model.start (owner_of w.registry) (epoch_of w.registry) rows; is = program_begun rows w is; good = start_good (owner_of w.registry) (epoch_of w.registry) rows };
    entered = rows_accepted rows ∙ is.entered;
    present = is.present;
    labels = is.labels;
    ids = λ a. (is.agents_are a).id_is;
    agents = λ a. agent_right rows w (past_begun rows).wanted a (w.agent a) (is.agents_are a);
    asks = λ a. agent_knows rows w a (w.agent a) (is.agents_are a);
    registered = is.registered;
    posts = λ k. subst (λ sent. IfSome sent (IsPostAt w (past_begun rows).wanted)) (sym (is.post k)) tt;
  },
)
