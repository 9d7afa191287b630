-- The program's arrivals are the model's.
use Rattle.std.proofs.Common.{◌≡◌, ◌≢◌, ℕ, suc, Bool, true, false, not, nat_eq, nat_lt, if◌then◌else◌, List, [], ◌∷◌, Option, Some, None, refl, sym, ap, ◌∙◌, subst}
use Rattle.iris_protocol.specs.Table.{Keys, names, numbers, Name, AgentId, agents, set_at, Each}
use Rattle.iris_protocol.specs.World.{Demand, query, update, ask, key, is_update, Mail, Letter, mail, reply, handover, Post, Opening, mail_to, opening_at, Seat, Node, Direct, serve, pass_on, park, direct, took, with_last, with_seat, parking, accept_at, client, asker, top_rank, Gather, new_gather, answered_of, Status, idle, opened, done, accepted, refused, is_idle, is_done, is_stopped, World, seat_at, put_node, mark, post_one, post_all, finish, opens, opens_all, learns, accepts, refuses, is_accepted, serves, parks, directs, released, again, takes_over, handles, arrives}
use Rattle.iris_protocol.specs.Good.{Idle, Requests, Good}
use Rattle.iris_protocol.specs.Agent.{Agent, send, tell_accepted, tell_refused, Handled, agent_seat, agent_learns, agent_opens, agent_opens_all, agent_again, agent_serves, agent_directs, is_known}
use Rattle.iris_protocol.specs.Program.{Program, program_steps, after_arrival, is_over, program_handles, program_arrives, TellsDemand, Tells, agent_of, program_of}
use Rattle.iris_protocol.proofs.Tables.{at_same, at_other, at_each}
use Rattle.iris_protocol.proofs.Arrivals.{pick_up}

-- ---- tables

-- a table of a field, where one entry has changed
module _ {K : Type 0} (keys : Keys K) where
  pub field_at : {A B : Type 0} (F : A → B) (f : K → A) (k : K) (v : A) (x : B) → F v ≡ x → (λ (j : K). F (set_at keys f k v j)) ≡ set_at keys (λ (j : K). F (f j)) k x
  field_at {A} {B} F f k v x e = λ i j. go j (keys.same j k) i
    where
      go : (j : K) (b : Bool) → F (if b then v else f j) ≡ (if b then x else F (f j))
      go j true = e
      go j false = refl

  pub field_same : {A B : Type 0} (F : A → B) (f : K → A) (k : K) (v : A) → F v ≡ F (f k) → ◌≡◌ {A = K → B} (λ j. F (set_at keys f k v j)) (λ j. F (f j))
  field_same F f k v e = λ i j. at_each keys (λ j x. F x ≡ F (f j)) f k v e (λ j _. refl) j i

  pub set_self : {A : Type 0} (f : K → A) (k : K) → set_at keys f k (f k) ≡ f
  set_self f k = λ i j. at_each keys (λ j x. x ≡ f j) f k (f k) refl (λ j _. refl) j i

  pub set_twice : {A : Type 0} (f : K → A) (k : K) (u v : A) → set_at keys (set_at keys f k u) k v ≡ set_at keys f k v
  set_twice f k u v = λ i j. go j (keys.same j k) refl i
    where
      go : (j : K) (b : Bool) → keys.same j k ≡ b → (if b then v else (if keys.same j k then u else f j)) ≡ (if b then v else f j)
      go j true e = refl
      go j false e = rw e

-- the agents, where one has changed
pub agents_at : (node node' : Name → Node) (gather gather' : AgentId → ℕ → Option Gather) (knows knows' : AgentId → ℕ → Bool) (a : AgentId) (x : Agent) → agent_of node' gather' knows' a ≡ x → ((b : AgentId) → b ≢ a → agent_of node' gather' knows' b ≡ agent_of node gather knows b) →
    (λ (b : AgentId). agent_of node' gather' knows' b) ≡ set_at agents (λ (b : AgentId). agent_of node gather knows b) a x
agents_at node node' gather gather' knows knows' a x here there = λ i b. at_each agents (λ c (y : Agent). agent_of node' gather' knows' c ≡ y) (λ (b : AgentId). agent_of node gather knows b) a x here (λ c ne. there c ne) b i

-- a seat of one agent has changed
seat_here : (node : Name → Node) (n : Name) (s : Node) (a : AgentId) (x : Seat) → s.seat a ≡ x → (λ (m : Name). (set_at names node n s m).seat a) ≡ set_at names (λ (m : Name). (node m).seat a) n x
seat_here node n s a x e = field_at names (λ (y : Node). y.seat a) node n s x e

seat_there : (node : Name → Node) (n : Name) (s : Node) (a b : AgentId) (x : Seat) → s.seat ≡ set_at agents (node n).seat a x → b ≢ a → ◌≡◌ {A = Name → Seat} (λ m. (set_at names node n s m).seat b) (λ m. (node m).seat b)
seat_there node n s a b x e ne = field_same names (λ (y : Node). y.seat b) node n s (ap (λ (f : AgentId → Seat). f b) e ∙ at_other agents (node n).seat a x b ne)

pub agents_seat : (node : Name → Node) (gather : AgentId → ℕ → Option Gather) (knows : AgentId → ℕ → Bool) (n : Name) (s : Node) (a : AgentId) (x : Seat) → s.seat ≡ set_at agents (node n).seat a x →
    (λ (b : AgentId). agent_of (set_at names node n s) gather knows b) ≡ set_at agents (λ (b : AgentId). agent_of node gather knows b) a (agent_seat (agent_of node gather knows a) n x)
agents_seat node gather knows n s a x e = agents_at node (set_at names node n s) gather gather knows knows a (agent_seat (agent_of node gather knows a) n x)
    (λ i. record { seat = seat_here node n s a x (ap (λ (f : AgentId → Seat). f a) e ∙ at_same agents (node n).seat a x) i; gather = gather a; knows = knows a })
    (λ b ne i. record { seat = seat_there node n s a b x e ne i; gather = gather b; knows = knows b })

-- a gather of one agent has changed
pub agents_gather : (node : Name → Node) (gather : AgentId → ℕ → Option Gather) (knows : AgentId → ℕ → Bool) (a : AgentId) (row : ℕ → Option Gather) →
    (λ (b : AgentId). agent_of node (set_at agents gather a row) knows b) ≡ set_at agents (λ (b : AgentId). agent_of node gather knows b) a (record (agent_of node gather knows a) { gather = row })
agents_gather node gather knows a row = agents_at node node gather (set_at agents gather a row) knows knows a (record (agent_of node gather knows a) { gather = row })
    (λ i. record { seat = λ (n : Name). (node n).seat a; gather = at_same agents gather a row i; knows = knows a })
    (λ b ne i. record { seat = λ (n : Name). (node n).seat b; gather = at_other agents gather a row b ne i; knows = knows b })

-- one agent knows another ask
pub agents_know : (node : Name → Node) (gather : AgentId → ℕ → Option Gather) (knows : AgentId → ℕ → Bool) (a : AgentId) (row : ℕ → Bool) →
    (λ (b : AgentId). agent_of node gather (set_at agents knows a row) b) ≡ set_at agents (λ (b : AgentId). agent_of node gather knows b) a (record (agent_of node gather knows a) { knows = row })
agents_know node gather knows a row = agents_at node node gather gather knows (set_at agents knows a row) a (record (agent_of node gather knows a) { knows = row })
    (λ i. record { seat = λ (n : Name). (node n).seat a; gather = gather a; knows = at_same agents knows a row i })
    (λ b ne i. record { seat = λ (n : Name). (node n).seat b; gather = gather b; knows = at_other agents knows a row b ne i })

-- ---- towns

-- an agent's part of an event, from the program that it finds
abbrev pub With : AgentId → (Agent → ℕ → Handled) → Program → Program
With a f t = record t { agent = set_at agents t.agent a (f (t.agent a) t.next_gather).agent; next_gather = (f (t.agent a) t.next_gather).next }

-- nothing has happened
pub with_nothing : (t : Program) (a : AgentId) → record t { agent = set_at agents t.agent a (t.agent a) } ≡ t
with_nothing t a = λ i. record t { agent = set_self agents t.agent a i }

-- two parts, one after another
with_both : (t : Program) (a : AgentId) (x : Agent) (next : ℕ) (f : Agent → ℕ → Handled) → With a f (record t { agent = set_at agents t.agent a x; next_gather = next }) ≡ record t { agent = set_at agents t.agent a (f x next).agent; next_gather = (f x next).next }
with_both t a x next f = ap (λ (y : Agent). record t { agent = set_at agents (set_at agents t.agent a x) a (f y next).agent; next_gather = (f y next).next }) (at_same agents t.agent a x)
    ∙ (λ i. record t { agent = set_twice agents t.agent a x (f x next).agent i; next_gather = (f x next).next })

-- an agent learns of an ask
program_learns : (w : World) (a : AgentId) (demand : Demand) → program_of (learns w a demand) ≡ record (program_of w) { agent = set_at agents (program_of w).agent a (agent_learns ((program_of w).agent a) demand) }
program_learns w a (query r) = sym (with_nothing (program_of w) a)
program_learns w a (update r number) = sym (with_nothing (program_of w) a)
program_learns w a (ask i from rank) = λ j. record (program_of w) { agent = agents_know w.node w.gather w.knows a (set_at numbers (w.knows a) i true) j }

-- the request of that demand has no outcome
abbrev pub NotDone : (ℕ → Status) → Demand → Type 0
NotDone status (query r) = is_done (status r) ≡ false
NotDone status (update r number) = Unit {0}
NotDone status (ask i from rank) = Unit {0}

-- it opens a gather
program_opens : (w : World) (a : AgentId) (demand : Demand) → NotDone w.status demand → program_of (opens w a demand) ≡ With a (λ x next. agent_opens x next demand) (program_of w)
program_opens w a (query r) free = λ i. record (program_of w) {
  agent = agents_gather w.node w.gather w.knows a (set_at numbers (w.gather a) w.gathers (Some (new_gather top_rank (client r)))) i;
  closed = field_same numbers is_done w.status r (opened a w.gathers) (sym free) i;
  next_gather = suc w.gathers;
}
program_opens w a (update r number) free = sym (with_nothing (program_of w) a)
program_opens w a (ask i from rank) free = λ j. record (program_of w) {
  agent = agents_gather w.node w.gather w.knows a (set_at numbers (w.gather a) w.gathers (Some (new_gather rank (asker i from)))) j;
  next_gather = suc w.gathers;
}

not_done_on : (w : World) (a : AgentId) (demand : Demand) → NotDone w.status demand → (other : Demand) → NotDone w.status other → NotDone (opens w a demand).status other
not_done_on w a (query r) free (query s) h = ap (λ (f : ℕ → Bool). f s) (field_same numbers is_done w.status r (opened a w.gathers) (sym free)) ∙ h
not_done_on w a (query r) free (update s number) h = tt
not_done_on w a (query r) free (ask i from rank) h = tt
not_done_on w a (update r number) free other h = h
not_done_on w a (ask i from rank) free other h = h

-- it opens one for each of those that a handover releases
program_opens_all : (w : World) (a : AgentId) (n : Name) (ms : List Mail) → Each (λ (m : Mail). NotDone w.status m.demand) ms → program_of (opens_all w (released a n ms)) ≡ With a (λ x next. agent_opens_all x next ms) (program_of w)
program_opens_all w a n [] free = sym (with_nothing (program_of w) a)
program_opens_all w a n (m ∷ ms) free = go (is_update m.demand) (program_opens_all w a n ms free.1) (program_opens_all (opens w a m.demand) a n ms (each ms free.1))
  where
    each : (xs : List Mail) → Each (λ (x : Mail). NotDone w.status x.demand) xs → Each (λ (x : Mail). NotDone (opens w a m.demand).status x.demand) xs
    each [] h = tt
    each (x ∷ xs) h = (not_done_on w a m.demand free.0 x.demand h.0, each xs h.1)

    go : (b : Bool) → program_of (opens_all w (released a n ms)) ≡ With a (λ x next. agent_opens_all x next ms) (program_of w) →
        program_of (opens_all (opens w a m.demand) (released a n ms)) ≡ With a (λ x next. agent_opens_all x next ms) (program_of (opens w a m.demand)) →
        program_of (opens_all w (if b then released a n ms else opening_at a n m.demand ∷ released a n ms)) ≡ With a (λ x next. if b then agent_opens_all x next ms else agent_opens_all (agent_opens x next m.demand).agent (agent_opens x next m.demand).next ms) (program_of w)
    go true skip rest = skip
    go false skip rest = rest ∙ ap (λ (t : Program). With a (λ x next. agent_opens_all x next ms) t) (program_opens w a m.demand free.0)
        ∙ with_both (program_of w) a (agent_opens ((program_of w).agent a) w.gathers m.demand).agent (agent_opens ((program_of w).agent a) w.gathers m.demand).next (λ x next. agent_opens_all x next ms)

-- a seat of one agent changes
program_seat : (w : World) (n : Name) (a : AgentId) (x : Seat) → program_of (put_node w n (with_seat (w.node n) a x)) ≡ record (program_of w) { agent = set_at agents (program_of w).agent a (agent_seat ((program_of w).agent a) n x) }
program_seat w n a x = λ i. record (program_of w) {
  owner = field_same names (λ (s : Node). s.owner) w.node n (with_seat (w.node n) a x) refl i;
  epoch = field_same names (λ (s : Node). s.epoch) w.node n (with_seat (w.node n) a x) refl i;
  agent = agents_seat w.node w.gather w.knows n (with_seat (w.node n) a x) a x refl i;
}

-- ---- a message

-- it is served
program_serves : (w : World) (ok : Bool) (n : Name) (a : AgentId) (demand : Demand) → NotDone w.status demand → program_of (serves w ok n a demand) ≡ after_arrival (program_of w) a (agent_serves ((program_of w).agent a) ok w.gathers n demand)
program_serves w ok n a (query r) free = program_opens w a (query r) free
program_serves w ok n a (ask i from rank) free = program_opens (learns w a (ask i from rank)) a (ask i from rank) tt
    ∙ ap (λ (t : Program). With a (λ x next. agent_opens x next (ask i from rank)) t) (program_learns w a (ask i from rank))
    ∙ with_both (program_of w) a (agent_learns ((program_of w).agent a) (ask i from rank)) w.gathers (λ x next. agent_opens x next (ask i from rank))
program_serves w ok n a (update r number) free = go (is_accepted ok (seat_at w n a).last number)
  where
    new : Node
    new = accept_at (w.node n) a number

    go : (b : Bool) → program_of (if b then accepts w n a r number else refuses w r) ≡ after_arrival (program_of w) a (if b then record { agent = agent_seat ((program_of w).agent a) n (with_last (seat_at w n a) number); next = w.gathers; steps = tell_accepted r n number ∷ [] } else record { agent = (program_of w).agent a; next = w.gathers; steps = tell_refused r ∷ [] })
    go true = λ i. record (program_of w) {
      owner = field_same names (λ (s : Node). s.owner) w.node n new refl i;
      epoch = field_same names (λ (s : Node). s.epoch) w.node n new refl i;
      agent = agents_seat w.node w.gather w.knows n new a (with_last (seat_at w n a) number) refl i;
      closed = field_at numbers is_done w.status r (done accepted) true refl i;
      book = record { request = Some r; node = n; number = number } ∷ w.book;
    }
    go false = λ i. record (program_of w) {
      agent = sym (set_self agents (program_of w).agent a) i;
      closed = field_at numbers is_done w.status r (done refused) true refl i;
    }

-- it is parked
program_parks : (w : World) (n : Name) (a : AgentId) (m : Mail) → program_of (parks w n a m) ≡ record (program_of w) { agent = set_at agents (program_of w).agent a (agent_seat (agent_learns ((program_of w).agent a) m.demand) n (parking (seat_at w n a) m)) }
program_parks w n a m = go m.demand
  where
    seat : Seat
    seat = parking (seat_at w n a) m

    go : (demand : Demand) → program_of (put_node (learns w a demand) n (with_seat (w.node n) a seat)) ≡ record (program_of w) { agent = set_at agents (program_of w).agent a (agent_seat (agent_learns ((program_of w).agent a) demand) n seat) }
    go (query r) = program_seat w n a seat
    go (update r number) = program_seat w n a seat
    go (ask i from rank) = program_seat (learns w a (ask i from rank)) n a seat
        ∙ ap (λ (t : Program). record t { agent = set_at agents t.agent a (agent_seat (t.agent a) n seat) }) (program_learns w a (ask i from rank))
        ∙ with_both (program_of w) a (agent_learns ((program_of w).agent a) (ask i from rank)) w.gathers (λ x next. record { agent = agent_seat x n seat; next = next; steps = [] })

program_directs : (w : World) (ok : Bool) (n : Name) (a : AgentId) (m : Mail) (d : Direct) → NotDone w.status m.demand → program_of (finish (directs w ok n a m d)) ≡ after_arrival (program_of w) a (agent_directs ((program_of w).agent a) ok w.gathers n m d)
program_directs w ok n a m serve free = program_serves w ok n a m.demand free
program_directs w ok n a m (pass_on to at) free = λ i. record (program_of w) { agent = sym (set_self agents (program_of w).agent a) i; posted = (post_one w (mail_to to n at m.demand)).posted }
program_directs w ok n a m park free = program_parks w n a m

-- what stops it
not_done_idle : (status : ℕ → Status) (demand : Demand) → Idle status (key demand) → NotDone status demand
not_done_idle status (query r) h = ap is_done h
not_done_idle status (update r number) h = tt
not_done_idle status (ask i from rank) h = tt

over_is : (w : World) (coming : List Post) (openings : List Opening) (serving : Bool) (a : AgentId) (r : ℕ) → Requests w.node w.requested w.status w.gather w.posted coming openings → TellsDemand (program_of w).agent serving (query r) → is_over (program_of w) serving (query r) ≡ is_stopped w a (query r)
over_is w coming openings serving a r q tells = go (w.status r) refl serving tells
  where
    go : (s : Status) → w.status r ≡ s → (b : Bool) → TellsDemand (program_of w).agent b (query r) → (if is_done s then true else b) ≡ not (is_idle s)
    go (done o) e b t = refl
    go idle e true t = absurd (let x = (q.clients t.0 t.1 r t.2).2 in cc)
    go idle e false t = refl
    go (opened b g) e true t = refl
    go (opened b g) e false t = absurd (t b g (q.serving r b g e))

program_mail : (w : World) (coming : List Post) (openings : List Opening) (serving ok : Bool) (n : Name) (a : AgentId) (m : Mail) → Requests w.node w.requested w.status w.gather w.posted coming openings → TellsDemand (program_of w).agent serving m.demand →
    program_of (finish (handles w ok a (mail n m))) ≡ program_handles (program_of w) serving ok a (mail n m)
program_mail w coming openings serving ok n a m q tells = go m.demand refl tells
  where
    d : Direct
    d = direct (seat_at w n a) m.epoch

    nothing : Handled
    nothing = record { agent = (program_of w).agent a; next = w.gathers; steps = [] }

    served : Handled
    served = agent_directs ((program_of w).agent a) ok w.gathers n m d

    -- the world's test and the model's are the same
    at_world : (b : Bool) → (b ≡ false → NotDone w.status m.demand) → program_of (finish (if b then (w, []) else directs w ok n a m d)) ≡ (if b then program_of w else after_arrival (program_of w) a served)
    at_world true free = refl
    at_world false free = program_directs w ok n a m d (free refl)

    at_agent : (b : Bool) → (b ≡ false → NotDone w.status m.demand) → program_of (finish (if b then (w, []) else directs w ok n a m d)) ≡ after_arrival (program_of w) a (if b then nothing else served)
    at_agent true free = sym (with_nothing (program_of w) a)
    at_agent false free = program_directs w ok n a m d (free refl)

    open_one : (r : ℕ) (s : Status) → w.status r ≡ s → not (is_idle s) ≡ false → is_done (w.status r) ≡ false
    open_one r idle e f = ap is_done e
    open_one r (opened b g) e f = absurd (cc)
    open_one r (done o) e f = absurd (cc)

    go : (demand : Demand) → m.demand ≡ demand → TellsDemand (program_of w).agent serving demand → program_of (finish (if is_stopped w a demand then (w, []) else directs w ok n a m d)) ≡ (if is_over (program_of w) serving demand then program_of w else after_arrival (program_of w) a (if is_known ((program_of w).agent a) demand then nothing else served))
    go (query r) e t = at_world (is_stopped w a (query r)) (λ f. subst (λ (x : Demand). NotDone w.status x) (sym e) (open_one r (w.status r) refl f))
        ∙ ap (λ (b : Bool). if b then program_of w else after_arrival (program_of w) a served) (sym (over_is w coming openings serving a r q t))
    go (update r number) e t = at_world (is_stopped w a (update r number)) (λ f. subst (λ (x : Demand). NotDone w.status x) (sym e) tt)
    go (ask i from rank) e t = at_agent (is_stopped w a (ask i from rank)) (λ f. subst (λ (x : Demand). NotDone w.status x) (sym e) tt)

-- ---- a handover

program_again : (w : World) (a : AgentId) (n : Name) (epoch : ℕ) (ms : List Mail) → program_of (post_all w (again a n epoch ms)) ≡ program_steps (program_of w) (agent_again a n epoch ms)
program_again w a n epoch [] = refl
program_again w a n epoch (m ∷ ms) = go (is_update m.demand) (program_again w a n epoch ms) (program_again (post_one w (mail_to a n epoch m.demand)) a n epoch ms)
  where
    go : (b : Bool) → program_of (post_all w (again a n epoch ms)) ≡ program_steps (program_of w) (agent_again a n epoch ms) →
        program_of (post_all (post_one w (mail_to a n epoch m.demand)) (again a n epoch ms)) ≡ program_steps (program_of (post_one w (mail_to a n epoch m.demand))) (agent_again a n epoch ms) →
        program_of (post_all w (if b then mail_to a n epoch m.demand ∷ again a n epoch ms else again a n epoch ms)) ≡ program_steps (program_of w) (if b then send (mail_to a n epoch m.demand) ∷ agent_again a n epoch ms else agent_again a n epoch ms)
    go true x y = y
    go false x y = x

program_takes : (w : World) (a : AgentId) (n : Name) (epoch last : ℕ) → ((b : AgentId) → Each (λ (m : Mail). Idle w.status (key m.demand)) (seat_at w n b).parked) →
    program_of (post_all (opens_all (takes_over w n a epoch last) (released a n (seat_at w n a).parked)) (again a n epoch (seat_at w n a).parked)) ≡
    after_arrival (program_of w) a (record (agent_opens_all (agent_seat ((program_of w).agent a) n (took (seat_at w n a) epoch last)) w.gathers (seat_at w n a).parked) { steps = agent_again a n epoch (seat_at w n a).parked })
program_takes w a n epoch last waits = program_again (opens_all (takes_over w n a epoch last) (released a n parked)) a n epoch parked
    ∙ ap (λ (t : Program). program_steps t (agent_again a n epoch parked))
    (program_opens_all (takes_over w n a epoch last) a n parked (free parked (waits a))
    ∙ ap (λ (t : Program). With a (λ x next. agent_opens_all x next parked) t) (program_seat w n a (took (seat_at w n a) epoch last))
    ∙ with_both (program_of w) a (agent_seat ((program_of w).agent a) n (took (seat_at w n a) epoch last)) w.gathers (λ x next. agent_opens_all x next parked))
  where
    parked : List Mail
    parked = (seat_at w n a).parked

    free : (ms : List Mail) → Each (λ (m : Mail). Idle w.status (key m.demand)) ms → Each (λ (m : Mail). NotDone w.status m.demand) ms
    free [] h = tt
    free (m ∷ ms) h = (not_done_idle w.status m.demand h.0, free ms h.1)

-- ---- all

program_letter : (w : World) (coming : List Post) (openings : List Opening) (serving ok : Bool) (a : AgentId) (l : Letter) → Requests w.node w.requested w.status w.gather w.posted coming openings → Tells (program_of w).agent serving l → program_of (finish (handles w ok a l)) ≡ program_handles (program_of w) serving ok a l
program_letter w coming openings serving ok a (mail n m) q tells = program_mail w coming openings serving ok n a m q tells
program_letter w coming openings serving ok a (reply i) q tells = λ j. record (program_of w) { agent = agents_gather w.node w.gather w.knows a (λ g. answered_of i (w.gather a g)) j }
program_letter w coming openings serving ok a (handover n epoch last) q tells = go (nat_lt (seat_at w n a).taken epoch)
  where
    go : (b : Bool) → program_of (finish (if b then (opens_all (takes_over w n a epoch last) (released a n (seat_at w n a).parked), again a n epoch (seat_at w n a).parked) else (w, []))) ≡
        after_arrival (program_of w) a (if b then record (agent_opens_all (agent_seat ((program_of w).agent a) n (took (seat_at w n a) epoch last)) w.gathers (seat_at w n a).parked) { steps = agent_again a n epoch (seat_at w n a).parked } else record { agent = (program_of w).agent a; next = w.gathers; steps = [] })
    go true = program_takes w a n epoch last (q.parked n)
    go false = sym (with_nothing (program_of w) a)

-- where the world is good, an arrival in the program is the model's
pub program_arrival : (w : World) (serving ok : Bool) (k : ℕ) (o : Option Post) → w.posted.post k ≡ o → ((p : Post) → o ≡ Some p → Tells (program_of w).agent serving p.letter) → Good w [] [] → program_of (arrives w ok k o) ≡ program_arrives (program_of w) serving ok k o
program_arrival w serving ok k None is tells g = refl
program_arrival w serving ok k (Some p) is tells g = program_letter (mark w k) (p ∷ []) [] serving ok p.to p.letter (pick_up w k p is g).requests (tells p refl)
