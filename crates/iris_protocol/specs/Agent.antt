-- One agent's step, over what that agent has: its seats by node, its gathers by number, and the asks that it knows.
-- It answers itself as it is then, the counter that it used, and the steps that the world makes for it.
use Rattle.std.specs.Prelude.{ℕ, suc, ◌+◌, Bool, true, false, nat_lt, if◌then◌else◌, List, [], ◌∷◌, ◌++◌, length, Option, Some, None}
use Rattle.iris_protocol.specs.Table.{Name, AgentId, names, numbers, set_at}
use Rattle.iris_protocol.specs.World.{Demand, query, update, ask, is_update, Mail, mail, reply, handover, Letter, Post, letter_to, mail_to, Seat, Direct, serve, pass_on, park, direct, given, took, with_last, parking, is_accepted, Parent, client, asker, Gather, is_due, top_rank, new_gather, with_lent, answered_of, Need}

pub record Agent : Type 0 where
  pub seat : Name → Seat
  pub gather : ℕ → Option Gather
  pub knows : ℕ → Bool

pub data Step : Type 0 where
  send : Post → Step
  tell_answered : (request : ℕ) → Step
  tell_accepted : (request : ℕ) (node : Name) (number : ℕ) → Step
  tell_refused : (request : ℕ) → Step

-- the agent, its counter, and the steps
pub record Handled : Type 0 where
  pub agent : Agent
  pub next : ℕ
  pub steps : List Step

abbrev pub agent_seat : Agent → Name → Seat → Agent
agent_seat x n s = record x { seat = set_at names x.seat n s }

abbrev pub agent_gather : Agent → ℕ → Option Gather → Agent
agent_gather x g y = record x { gather = set_at numbers x.gather g y }

abbrev pub agent_learns : Agent → Demand → Agent
agent_learns x (query r) = x
agent_learns x (update r number) = x
agent_learns x (ask i from rank) = record x { knows = set_at numbers x.knows i true }

-- a gather is opened, with the next number
abbrev pub agent_opens : Agent → ℕ → Demand → Handled
agent_opens x next (query r) = record { agent = agent_gather x next (Some (new_gather top_rank (client r))); next = suc next; steps = [] }
agent_opens x next (update r number) = record { agent = x; next = next; steps = [] }
agent_opens x next (ask i from rank) = record { agent = agent_gather x next (Some (new_gather rank (asker i from))); next = suc next; steps = [] }

-- those that are parked arrive: the queries and asks
abbrev pub agent_opens_all : Agent → ℕ → List Mail → Handled
agent_opens_all x next [] = record { agent = x; next = next; steps = [] }
agent_opens_all x next (m ∷ ms) = if is_update m.demand then agent_opens_all x next ms else agent_opens_all (agent_opens x next m.demand).agent (agent_opens x next m.demand).next ms

-- the updates are posted again
abbrev pub agent_again : AgentId → Name → ℕ → List Mail → List Step
agent_again a n epoch [] = []
agent_again a n epoch (m ∷ ms) = if is_update m.demand then send (mail_to a n epoch m.demand) ∷ agent_again a n epoch ms else agent_again a n epoch ms

abbrev pub agent_serves : Agent → Bool → ℕ → Name → Demand → Handled
agent_serves x ok next n (query r) = agent_opens x next (query r)
agent_serves x ok next n (update r number) =
    if is_accepted ok (x.seat n).last number
    then record { agent = agent_seat x n (with_last (x.seat n) number); next = next; steps = tell_accepted r n number ∷ [] }
    else record { agent = x; next = next; steps = tell_refused r ∷ [] }
agent_serves x ok next n (ask i from rank) = agent_opens (agent_learns x (ask i from rank)) next (ask i from rank)

abbrev pub agent_directs : Agent → Bool → ℕ → Name → Mail → Direct → Handled
agent_directs x ok next n m serve = agent_serves x ok next n m.demand
agent_directs x ok next n m (pass_on to epoch) = record { agent = x; next = next; steps = send (mail_to to n epoch m.demand) ∷ [] }
agent_directs x ok next n m park = record { agent = agent_seat (agent_learns x m.demand) n (parking (x.seat n) m); next = next; steps = [] }

-- this agent opened or parked that ask before
abbrev pub is_known : Agent → Demand → Bool
is_known x (query r) = false
is_known x (update r number) = false
is_known x (ask i from rank) = x.knows i

-- the agent `a` with its state x; `next` is the number of the next gather
abbrev pub agent_arrives : AgentId → Agent → Bool → ℕ → Letter → Handled
agent_arrives a x ok next (mail n m) = if is_known x m.demand then record { agent = x; next = next; steps = [] } else agent_directs x ok next n m (direct (x.seat n) m.epoch)
agent_arrives a x ok next (reply i) = record { agent = record x { gather = λ g. answered_of i (x.gather g) }; next = next; steps = [] }
agent_arrives a x ok next (handover n epoch last) =
    if nat_lt (x.seat n).taken epoch
    then record (agent_opens_all (agent_seat x n (took (x.seat n) epoch last)) next (x.seat n).parked) { steps = agent_again a n epoch (x.seat n).parked }
    else record { agent = x; next = next; steps = [] }

-- ---- decisions: `next` is the number of the next ask

abbrev pub numbered : ℕ → List Need → List ℕ
numbered next [] = []
numbered next (need ∷ needs) = next ∷ numbered (suc next) needs

-- one ask for each missing need, to the owner that the registry names
abbrev pub ask_steps : (owner : Name → AgentId) (epoch : Name → ℕ) → AgentId → ℕ → List Need → List Step
ask_steps owner epoch a next [] = []
ask_steps owner epoch a next (need ∷ needs) = send (mail_to (owner need.node) need.node (epoch need.node) (ask next a need.rank)) ∷ ask_steps owner epoch a (suc next) needs

abbrev pub agent_ends : Agent → ℕ → ℕ → Parent → Handled
agent_ends x next g (client r) = record { agent = agent_gather x g None; next = next; steps = tell_answered r ∷ [] }
agent_ends x next g (asker i from) = record { agent = agent_gather x g None; next = next; steps = send (letter_to from (reply i)) ∷ [] }

abbrev pub agent_judged : (owner : Name → AgentId) (epoch : Name → ℕ) → AgentId → Agent → ℕ → ℕ → Gather → List Need → Handled
agent_judged owner epoch a x next g y [] = agent_ends x next g y.parent
agent_judged owner epoch a x next g y (need ∷ needs) = record {
  agent = agent_gather x g (Some (record y { pending = y.pending ++ numbered next (need ∷ needs); lent = false }));
  next = next + length (need ∷ needs);
  steps = ask_steps owner epoch a next (need ∷ needs);
}

abbrev pub agent_decides : (owner : Name → AgentId) (epoch : Name → ℕ) → AgentId → Agent → ℕ → ℕ → Option Gather → List Need → Handled
agent_decides owner epoch a x next g None needs = record { agent = x; next = next; steps = [] }
agent_decides owner epoch a x next g (Some y) needs = if is_due y then agent_judged owner epoch a x next g y needs else record { agent = x; next = next; steps = [] }

-- a due gather is lent, or a lent one is given back
abbrev pub agent_lends : Agent → ℕ → Option Gather → Agent
agent_lends x g None = x
agent_lends x g (Some y) = if is_due y then agent_gather x g (Some (with_lent y true)) else x

abbrev pub agent_gives_back : Agent → ℕ → Option Gather → Agent
agent_gives_back x g None = x
agent_gives_back x g (Some y) = if y.lent then agent_gather x g (Some (with_lent y false)) else x

-- the verdict of a job; None where something that it read has moved
abbrev pub agent_commits : (owner : Name → AgentId) (epoch : Name → ℕ) → AgentId → Agent → ℕ → ℕ → Option Gather → Option (List Need) → Handled
agent_commits owner epoch a x next g None verdict = record { agent = x; next = next; steps = [] }
agent_commits owner epoch a x next g (Some y) None = record { agent = agent_gives_back x g (Some y); next = next; steps = [] }
agent_commits owner epoch a x next g (Some y) (Some needs) = if y.lent then agent_judged owner epoch a x next g y needs else record { agent = x; next = next; steps = [] }

-- the giver's part of a move
abbrev pub agent_gives : Agent → Name → AgentId → ℕ → Agent
agent_gives x n to epoch = agent_seat x n (given (x.seat n) to epoch)

-- of the asks that it opened or parked it keeps those
abbrev pub agent_forgets : Agent → (ℕ → Bool) → Agent
agent_forgets x kept = record x { knows = λ i. if kept i then x.knows i else false }
