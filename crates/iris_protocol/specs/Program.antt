-- The world as the program has it: a registry, agents, posts, counters, and the requests that have their outcome.
-- An event is one agent's step, and then the steps that it answered.
use Rattle.std.specs.Prelude.{◌≡◌, ℕ, suc, ◌+◌, Bool, true, false, nat_eq, if◌then◌else◌, List, [], ◌∷◌, Option, Some, None}
use Rattle.iris_protocol.specs.Table.{Name, AgentId, names, agents, numbers, set_at, OfSome}
use Rattle.iris_protocol.specs.World.{Demand, query, update, ask, mail, reply, handover, Letter, Post, letter_to, mail_to, Node, client, Gather, Need, PostTable, posting, marked, Entry, is_done, World, Event, Query, Update, Give, Arrive, Decide, Lend, GiveBack, Commit, Forget}
use Rattle.iris_protocol.specs.Agent.{Agent, Step, send, tell_answered, tell_accepted, tell_refused, Handled, agent_arrives, agent_decides, agent_lends, agent_gives_back, agent_commits, agent_gives, agent_forgets}
use Rattle.iris_protocol.specs.Good.{parent_at, Pending, Fits, Good}

pub record Program : Type 0 where
  pub owner : Name → AgentId
  pub epoch : Name → ℕ
  pub agent : AgentId → Agent
  pub posted : PostTable
  pub closed : ℕ → Bool  -- the request has its outcome
  pub requests : ℕ
  pub next_gather : ℕ
  pub next_ask : ℕ
  pub book : List Entry

abbrev pub closes : Program → ℕ → Program
closes t r = record t { closed = set_at numbers t.closed r true }

abbrev pub program_step : Program → Step → Program
program_step t (send p) = record t { posted = posting t.posted p }
program_step t (tell_answered r) = closes t r
program_step t (tell_accepted r n number) = record (closes t r) { book = record { request = Some r; node = n; number = number } ∷ t.book }
program_step t (tell_refused r) = closes t r

abbrev pub program_steps : Program → List Step → Program
program_steps t [] = t
program_steps t (s ∷ ss) = program_steps (program_step t s) ss

-- what an agent's arrival leaves, then its steps
abbrev pub after_arrival : Program → AgentId → Handled → Program
after_arrival t a h = program_steps (record t { agent = set_at agents t.agent a h.agent; next_gather = h.next }) h.steps

abbrev pub after_decision : Program → AgentId → Handled → Program
after_decision t a h = program_steps (record t { agent = set_at agents t.agent a h.agent; next_ask = h.next }) h.steps

-- 'has its outcome' and 'has an open gather' speak of the whole world; `serving` tells the second
abbrev pub is_over : Program → Bool → Demand → Bool
is_over t serving (query r) = if t.closed r then true else serving
is_over t serving (update r number) = t.closed r
is_over t serving (ask i from rank) = false

abbrev pub is_over_letter : Program → Bool → Letter → Bool
is_over_letter t serving (mail n m) = is_over t serving m.demand
is_over_letter t serving (reply i) = false
is_over_letter t serving (handover n epoch last) = false

abbrev pub program_handles : Program → Bool → Bool → AgentId → Letter → Program
program_handles t serving ok a l = if is_over_letter t serving l then t else after_arrival t a (agent_arrives a (t.agent a) ok t.next_gather l)

abbrev pub program_arrives : Program → Bool → Bool → ℕ → Option Post → Program
program_arrives t serving ok k None = t
program_arrives t serving ok k (Some p) = program_handles (record t { posted = marked t.posted k }) serving ok p.to p.letter

abbrev pub program_decides : Program → AgentId → ℕ → List Need → Program
program_decides t a g needs = after_decision t a (agent_decides t.owner t.epoch a (t.agent a) t.next_ask g ((t.agent a).gather g) needs)

abbrev pub program_commits : Program → AgentId → ℕ → Option (List Need) → Program
program_commits t a g verdict = after_decision t a (agent_commits t.owner t.epoch a (t.agent a) t.next_ask g ((t.agent a).gather g) verdict)

abbrev pub put_agent : Program → AgentId → Agent → Program
put_agent t a x = record t { agent = set_at agents t.agent a x }

-- the owner's part of a move, the handover, and the registry
abbrev pub program_gives_by : Program → Name → AgentId → Option ℕ → Program
program_gives_by t n to None = t
program_gives_by t n to (Some last) = record t {
  owner = set_at names t.owner n to;
  epoch = set_at names t.epoch n (t.epoch n + 1);
  agent = set_at agents t.agent (t.owner n) (agent_gives (t.agent (t.owner n)) n to (t.epoch n + 1));
  posted = posting t.posted (letter_to to (handover n (t.epoch n + 1) last));
}

abbrev pub program_gives : Program → Name → AgentId → Program
program_gives t n to = if agents.same to (t.owner n) then t else program_gives_by t n to ((t.agent (t.owner n)).seat n).last

abbrev pub program_requests : Program → Name → Demand → Program
program_requests t n demand = record t { requests = suc t.requests; posted = posting t.posted (mail_to (t.owner n) n (t.epoch n) demand) }

abbrev pub program_forgets : Program → (AgentId → ℕ → Bool) → Program
program_forgets t kept = record t {
  posted = record t.posted { post = λ k. if t.posted.seen k then None else t.posted.post k };
  agent = λ a. agent_forgets (t.agent a) (kept a);
}

abbrev pub program_happens : Program → Bool → Event → Program
program_happens t serving (Query n) = program_requests t n (query t.requests)
program_happens t serving (Update n number) = program_requests t n (update t.requests number)
program_happens t serving (Give n to) = program_gives t n to
program_happens t serving (Arrive k ok) = program_arrives t serving ok k (t.posted.post k)
program_happens t serving (Decide a g needs) = program_decides t a g needs
program_happens t serving (Lend a g) = put_agent t a (agent_lends (t.agent a) g ((t.agent a).gather g))
program_happens t serving (GiveBack a g) = put_agent t a (agent_gives_back (t.agent a) g ((t.agent a).gather g))
program_happens t serving (Commit a g verdict) = program_commits t a g verdict
program_happens t serving (Forget kept) = program_forgets t kept

-- `serving` tells whether an open gather of some agent is for the request of that letter
abbrev pub TellsDemand : (AgentId → Agent) → Bool → Demand → Type 0
TellsDemand agent true (query r) = (a : AgentId) × (g : ℕ) × (parent_at ((agent a).gather g) ≡ Some (client r))
TellsDemand agent false (query r) = (a : AgentId) (g : ℕ) → parent_at ((agent a).gather g) ≡ Some (client r) → ⊥
TellsDemand agent serving (update r number) = Unit {0}
TellsDemand agent serving (ask i from rank) = Unit {0}

abbrev pub Tells : (AgentId → Agent) → Bool → Letter → Type 0
Tells agent serving (mail n m) = TellsDemand agent serving m.demand
Tells agent serving (reply i) = Unit {0}
Tells agent serving (handover n epoch last) = Unit {0}

-- the test that the world makes before an arrival
abbrev pub TellsEvent : Program → Bool → Event → Type 0
TellsEvent t serving (Query n) = Unit {0}
TellsEvent t serving (Update n number) = Unit {0}
TellsEvent t serving (Give n to) = Unit {0}
TellsEvent t serving (Arrive k ok) = OfSome (λ (p : Post). Tells t.agent serving p.letter) (t.posted.post k)
TellsEvent t serving (Decide a g needs) = Unit {0}
TellsEvent t serving (Lend a g) = Unit {0}
TellsEvent t serving (GiveBack a g) = Unit {0}
TellsEvent t serving (Commit a g verdict) = Unit {0}
TellsEvent t serving (Forget kept) = Unit {0}

-- ---- the model's world, without what only proofs read

abbrev pub agent_of : (Name → Node) → (AgentId → ℕ → Option Gather) → (AgentId → ℕ → Bool) → AgentId → Agent
agent_of node gather knows a = record { seat = λ n. (node n).seat a; gather = gather a; knows = knows a }

abbrev pub program_of : World → Program
program_of w = record {
  owner = λ n. (w.node n).owner;
  epoch = λ n. (w.node n).epoch;
  agent = λ a. agent_of w.node w.gather w.knows a;
  posted = w.posted;
  closed = λ r. is_done (w.status r);
  requests = w.requested.count;
  next_gather = w.gathers;
  next_ask = w.asks.count;
  book = w.book;
}

-- ---- the program's invariant: with some history the world is good

pub record Known (t : Program) : Type 0 where
  pub world : World
  pub is : program_of world ≡ t
  pub good : Good world [] []

abbrev pub ProgramAllows : Program → Event → Type 0
ProgramAllows t (Query n) = Unit {0}
ProgramAllows t (Update n number) = Unit {0}
ProgramAllows t (Give n to) = Unit {0}
ProgramAllows t (Arrive k ok) = Unit {0}
ProgramAllows t (Decide a g needs) = OfSome (λ (x : Gather). Fits x.rank needs) ((t.agent a).gather g)
ProgramAllows t (Lend a g) = Unit {0}
ProgramAllows t (GiveBack a g) = Unit {0}
ProgramAllows t (Commit a g None) = Unit {0}
ProgramAllows t (Commit a g (Some needs)) = OfSome (λ (x : Gather). Fits x.rank needs) ((t.agent a).gather g)
ProgramAllows t (Forget kept) = (a : AgentId) (i : ℕ) → Pending (λ b. (t.agent b).gather) i → kept a i ≡ true
