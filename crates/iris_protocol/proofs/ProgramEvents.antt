-- The program's other events are the model's, and so the program keeps its invariant.
use Rattle.std.proofs.Common.{◌≡◌, ℕ, suc, ◌+◌, Bool, true, false, nat_eq, if◌then◌else◌, List, [], ◌∷◌, ◌++◌, length, Option, Some, None, refl, sym, ap, ◌∙◌, subst, arith}
use Rattle.iris_protocol.specs.Table.{names, agents, Name, AgentId, numbers, set_at}
use Rattle.iris_protocol.specs.World.{reply, handover, Post, letter_to, Node, given, moved, Parent, client, asker, Gather, is_due, with_lent, with_ask, Need, posting, answered, done, is_done, World, seat_at, with_gather, post_one, finish, ends, ask_for, asks_one, asks_all, judged, decides, lends, gives_back, commits, gives_by, gives, Event, Query, Update, Give, Arrive, Decide, Lend, GiveBack, Commit, Forget, happens}
use Rattle.iris_protocol.specs.Good.{Allowed, Good}
use Rattle.iris_protocol.specs.Agent.{Agent, agent_gather, numbered, ask_steps, agent_ends, agent_judged, agent_decides, agent_lends, agent_gives_back, agent_commits}
use Rattle.iris_protocol.specs.Program.{Program, program_steps, after_decision, put_agent, program_gives_by, program_gives, program_happens, Tells, TellsEvent, program_of, Known, ProgramAllows}
use Rattle.iris_protocol.proofs.Tables.{at_same, in_same, append_nil, append_assoc, of_some}
use Rattle.iris_protocol.proofs.Runs.{happens_keeps}
use Rattle.iris_protocol.proofs.Programs.{field_at, set_self, set_twice, agents_seat, agents_gather, with_nothing, program_arrival}

-- ---- decisions

-- a gather of one agent is put
program_gather : (w : World) (a : AgentId) (g : ℕ) (o : Option Gather) → program_of (with_gather w a g o) ≡ put_agent (program_of w) a (agent_gather ((program_of w).agent a) g o)
program_gather w a g o = λ i. record (program_of w) { agent = agents_gather w.node w.gather w.knows a (set_at numbers (w.gather a) g o) i }

put_twice : (f : AgentId → Agent) (a : AgentId) (x : Agent) (h : Agent → Agent) → set_at agents (set_at agents f a x) a (h (set_at agents f a x a)) ≡ set_at agents f a (h x)
put_twice f a x h = ap (λ (y : Agent). set_at agents (set_at agents f a x) a (h y)) (at_same agents f a x) ∙ set_twice agents f a x (h x)

-- two gathers put at the same place
gather_twice : (f : AgentId → Agent) (a : AgentId) (g : ℕ) (o p : Option Gather) → set_at agents (set_at agents f a (agent_gather (f a) g o)) a (agent_gather (set_at agents f a (agent_gather (f a) g o) a) g p) ≡ set_at agents f a (agent_gather (f a) g p)
gather_twice f a g o p = put_twice f a (agent_gather (f a) g o) (λ x. agent_gather x g p) ∙ (λ i. set_at agents f a (record (f a) { gather = set_twice numbers (f a).gather g o p i }))

-- one after another, or all at once
abbrev Asked : Program → AgentId → ℕ → Gather → List Need → Program
Asked t a g y needs = program_steps (record t { agent = set_at agents t.agent a (agent_gather (t.agent a) g (Some (record y { pending = y.pending ++ numbered t.next_ask needs }))); next_ask = t.next_ask + length needs }) (ask_steps t.owner t.epoch a t.next_ask needs)

program_asks : (w : World) (a : AgentId) (g : ℕ) (y : Gather) (needs : List Need) → w.gather a g ≡ Some y → program_of (asks_all w a g y needs) ≡ Asked (program_of w) a g y needs
program_asks w a g y [] is =
    let none : w.asks.count ≡ w.asks.count + 0 = omega arith in
    let row : w.gather a ≡ set_at numbers (w.gather a) g (Some (record y { pending = y.pending ++ [] })) = sym (set_self numbers (w.gather a) g) ∙ ap (λ (o : Option Gather). set_at numbers (w.gather a) g o) (is ∙ (λ i. Some (record y { pending = sym (append_nil y.pending) i }))) in
    (λ i. record (program_of w) { agent = sym (set_self agents (program_of w).agent a) i }) ∙ (λ i. record (program_of w) { agent = set_at agents (program_of w).agent a (record ((program_of w).agent a) { gather = row i }); next_ask = none i })
program_asks w a g y (need ∷ needs) is =
    let v = post_one (asks_one w a g y need) (ask_for w a need) in
    let p = ask_for w a need in
    let sum : suc w.asks.count + length needs ≡ w.asks.count + suc (length needs) = omega arith in
    let here = in_same w.gather a g (Some (with_ask y w.asks.count)) in
    program_asks v a g (with_ask y w.asks.count) needs here
    ∙ (λ i. program_steps (record (program_of w) {
      agent = (ap (λ (f : AgentId → Agent). set_at agents f a (agent_gather (f a) g (Some (record y { pending = (y.pending ++ w.asks.count ∷ []) ++ numbered (suc w.asks.count) needs })))) (agents_gather w.node w.gather w.knows a (set_at numbers (w.gather a) g (Some (with_ask y w.asks.count))))
          ∙ gather_twice (program_of w).agent a g (Some (with_ask y w.asks.count)) (Some (record y { pending = (y.pending ++ w.asks.count ∷ []) ++ numbered (suc w.asks.count) needs }))
          ∙ (λ j. set_at agents (program_of w).agent a (agent_gather ((program_of w).agent a) g (Some (record y { pending = append_assoc y.pending w.asks.count (numbered (suc w.asks.count) needs) j }))))) i;
      posted = posting w.posted p;
      next_ask = sum i;
    }) (ask_steps (program_of w).owner (program_of w).epoch a (suc w.asks.count) needs))

program_ends : (w : World) (a : AgentId) (g : ℕ) (parent : Parent) → program_of (finish (ends w a g parent)) ≡ after_decision (program_of w) a (agent_ends ((program_of w).agent a) w.asks.count g parent)
program_ends w a g (client r) = λ i. record (program_of w) { agent = agents_gather w.node w.gather w.knows a (set_at numbers (w.gather a) g None) i; closed = field_at numbers is_done w.status r (done answered) true refl i }
program_ends w a g (asker i from) = λ j. record (program_of w) { agent = agents_gather w.node w.gather w.knows a (set_at numbers (w.gather a) g None) j; posted = posting w.posted (letter_to from (reply i)) }

program_judged : (w : World) (a : AgentId) (g : ℕ) (y : Gather) (needs : List Need) → program_of (judged w a g y needs) ≡ after_decision (program_of w) a (agent_judged (program_of w).owner (program_of w).epoch a ((program_of w).agent a) w.asks.count g y needs)
program_judged w a g y [] = program_ends w a g y.parent
program_judged w a g y (need ∷ needs) =
    let x = with_lent y false in
    program_asks (with_gather w a g (Some x)) a g x (need ∷ needs) (in_same w.gather a g (Some x))
    ∙ ap (λ (t : Program). Asked t a g x (need ∷ needs)) (program_gather w a g (Some x))
    ∙ (λ i. program_steps (record (program_of w) { agent = gather_twice (program_of w).agent a g (Some x) (Some (record x { pending = y.pending ++ numbered w.asks.count (need ∷ needs) })) i; next_ask = w.asks.count + length (need ∷ needs) }) (ask_steps (program_of w).owner (program_of w).epoch a w.asks.count (need ∷ needs)))

pub program_decision : (w : World) (a : AgentId) (g : ℕ) (o : Option Gather) (needs : List Need) → program_of (decides w a g o needs) ≡ after_decision (program_of w) a (agent_decides (program_of w).owner (program_of w).epoch a ((program_of w).agent a) w.asks.count g o needs)
program_decision w a g None needs = sym (with_nothing (program_of w) a)
program_decision w a g (Some y) needs = go (is_due y)
  where
    go : (b : Bool) → program_of (if b then judged w a g y needs else w) ≡ after_decision (program_of w) a (if b then agent_judged (program_of w).owner (program_of w).epoch a ((program_of w).agent a) w.asks.count g y needs else record { agent = (program_of w).agent a; next = w.asks.count; steps = [] })
    go true = program_judged w a g y needs
    go false = sym (with_nothing (program_of w) a)

program_lends : (w : World) (a : AgentId) (g : ℕ) (o : Option Gather) → program_of (lends w a g o) ≡ put_agent (program_of w) a (agent_lends ((program_of w).agent a) g o)
program_lends w a g None = sym (with_nothing (program_of w) a)
program_lends w a g (Some y) = go (is_due y)
  where
    go : (b : Bool) → program_of (if b then with_gather w a g (Some (with_lent y true)) else w) ≡ put_agent (program_of w) a (if b then agent_gather ((program_of w).agent a) g (Some (with_lent y true)) else (program_of w).agent a)
    go true = program_gather w a g (Some (with_lent y true))
    go false = sym (with_nothing (program_of w) a)

program_gives_back : (w : World) (a : AgentId) (g : ℕ) (o : Option Gather) → program_of (gives_back w a g o) ≡ put_agent (program_of w) a (agent_gives_back ((program_of w).agent a) g o)
program_gives_back w a g None = sym (with_nothing (program_of w) a)
program_gives_back w a g (Some y) = go y.lent
  where
    go : (b : Bool) → program_of (if b then with_gather w a g (Some (with_lent y false)) else w) ≡ put_agent (program_of w) a (if b then agent_gather ((program_of w).agent a) g (Some (with_lent y false)) else (program_of w).agent a)
    go true = program_gather w a g (Some (with_lent y false))
    go false = sym (with_nothing (program_of w) a)

program_commit : (w : World) (a : AgentId) (g : ℕ) (o : Option Gather) (verdict : Option (List Need)) → program_of (commits w a g o verdict) ≡ after_decision (program_of w) a (agent_commits (program_of w).owner (program_of w).epoch a ((program_of w).agent a) w.asks.count g o verdict)
program_commit w a g None verdict = sym (with_nothing (program_of w) a)
program_commit w a g (Some y) None = program_gives_back w a g (Some y)
program_commit w a g (Some y) (Some needs) = go y.lent
  where
    go : (b : Bool) → program_of (if b then judged w a g y needs else w) ≡ after_decision (program_of w) a (if b then agent_judged (program_of w).owner (program_of w).epoch a ((program_of w).agent a) w.asks.count g y needs else record { agent = (program_of w).agent a; next = w.asks.count; steps = [] })
    go true = program_judged w a g y needs
    go false = sym (with_nothing (program_of w) a)

-- ---- a move

program_give : (w : World) (n : Name) (to : AgentId) (last : Option ℕ) → program_of (gives_by w n to last) ≡ program_gives_by (program_of w) n to last
program_give w n to None = refl
program_give w n to (Some last) = λ i. record (program_of w) {
  owner = field_at names (λ (s : Node). s.owner) w.node n (moved (w.node n) to) to refl i;
  epoch = field_at names (λ (s : Node). s.epoch) w.node n (moved (w.node n) to) ((w.node n).epoch + 1) refl i;
  agent = agents_seat w.node w.gather w.knows n (moved (w.node n) to) (w.node n).owner (given (seat_at w n (w.node n).owner) to ((w.node n).epoch + 1)) refl i;
  posted = posting w.posted (letter_to to (handover n ((w.node n).epoch + 1) last));
}

program_move : (w : World) (n : Name) (to : AgentId) → program_of (gives w n to) ≡ program_gives (program_of w) n to
program_move w n to = go (agents.same to (w.node n).owner)
  where
    go : (b : Bool) → program_of (if b then w else gives_by w n to (seat_at w n (w.node n).owner).last) ≡ (if b then program_of w else program_gives_by (program_of w) n to (seat_at w n (w.node n).owner).last)
    go true = refl
    go false = program_give w n to (seat_at w n (w.node n).owner).last

-- ---- all

pub program_event : (w : World) (serving : Bool) (e : Event) → TellsEvent (program_of w) serving e → Good w [] [] → program_of (happens w e) ≡ program_happens (program_of w) serving e
program_event w serving (Query n) tells g = refl
program_event w serving (Update n number) tells g = refl
program_event w serving (Give n to) tells g = program_move w n to
program_event w serving (Arrive k ok) tells g = program_arrival w serving ok k (w.posted.post k) refl (λ p is. of_some (λ (q : Post). Tells (program_of w).agent serving q.letter) (w.posted.post k) p is tells) g
program_event w serving (Decide a h needs) tells g = program_decision w a h (w.gather a h) needs
program_event w serving (Lend a h) tells g = program_lends w a h (w.gather a h)
program_event w serving (GiveBack a h) tells g = program_gives_back w a h (w.gather a h)
program_event w serving (Commit a h verdict) tells g = program_commit w a h (w.gather a h) verdict
program_event w serving (Forget kept) tells g = refl

pub allowed : (w : World) (e : Event) → ProgramAllows (program_of w) e → Allowed w e
allowed w (Query n) ok = tt
allowed w (Update n number) ok = tt
allowed w (Give n to) ok = tt
allowed w (Arrive k kept) ok = tt
allowed w (Decide a g needs) ok = ok
allowed w (Lend a g) ok = tt
allowed w (GiveBack a g) ok = tt
allowed w (Commit a g None) ok = tt
allowed w (Commit a g (Some needs)) ok = ok
allowed w (Forget kept) ok = ok

-- the program keeps its invariant
pub known_keeps : (t : Program) (serving : Bool) (e : Event) → ProgramAllows t e → TellsEvent t serving e → Known t → Known (program_happens t serving e)
known_keeps t serving e ok tells k =
    let ok' = allowed k.world e (subst (λ (u : Program). ProgramAllows u e) (sym k.is) ok) in
    let tells' = subst (λ (u : Program). TellsEvent u serving e) (sym k.is) tells in
    record {
      world = happens k.world e;
      is = program_event k.world serving e tells' k.good ∙ ap (λ (u : Program). program_happens u serving e) k.is;
      good = happens_keeps k.world e ok' k.good;
    }
