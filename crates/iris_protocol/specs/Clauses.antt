-- What the protocol promises after every event, in plain words. It follows from Good.
use Rattle.std.specs.Prelude.{◌≡◌, ◌⊎◌, ℕ, ◌<◌, ◌≤◌, true, false, Some, None, map}
use Rattle.iris_protocol.specs.Table.{Name, AgentId, names, numbers, OfSome, Each, Among, Distinct}
use Rattle.iris_protocol.specs.World.{Key, request, ask_key, key, Mail, mail, reply, handover, Post, letter_to, client, Gather, Outcome, done, World, seat_at}
use Rattle.iris_protocol.specs.Good.{Gave, Took, IsSound, Parked, parent_at, pending_at, Pending, Serving, IsAskOf, ParentGood, node_of}

-- a post that was never delivered
abbrev pub Undelivered : World → Post → Type 0
Undelivered w p = (k : ℕ) × (w.posted.post k ≡ Some p) × (w.posted.seen k ≡ false)

-- one of that request or ask was never delivered
abbrev pub UndeliveredMail : World → Key → Type 0
UndeliveredMail w k = (a : AgentId) × (n : Name) × (m : Mail) × Undelivered w (letter_to a (mail n m)) × (key m.demand ≡ k)

abbrev pub Owns : World → Name → AgentId → Type 0
Owns w n a = (last : ℕ) × ((seat_at w n a).last ≡ Some last)

abbrev pub HasOutcome : World → ℕ → Type 0
HasOutcome w r = (o : Outcome) × (w.status r ≡ done o)

-- an open gather is for that client's request
abbrev pub ServingClient : World → ℕ → Type 0
ServingClient w r = (a : AgentId) × (g : ℕ) × (parent_at (w.gather a g) ≡ Some (client r))

pub record TitleClauses (w : World) (n : Name) : Type 0 where
  -- the registry names the addressee of the last move; that agent alone owns the node, or nobody does and the handover is on its way
  pub registry : (w.node n).owner ≡ (w.node n).went (w.node n).epoch
  pub title : (Owns w n (w.node n).owner × ((a : AgentId) → Owns w n a → a ≡ (w.node n).owner)) ⊎ (((a : AgentId) → Owns w n a → ⊥) × ((last : ℕ) × Undelivered w (letter_to (w.node n).owner (handover n (w.node n).epoch last))))
  -- a forward is a move by that agent in this world, and its last one
  pub forward : (a to : AgentId) (at : ℕ) → (seat_at w n a).forward ≡ Some (to, at) → Gave (w.node n).base (w.node n).epoch (w.node n).went a to at
  pub forwards : (a to : AgentId) (at : ℕ) → Gave (w.node n).base (w.node n).epoch (w.node n).went a to at → (b : AgentId) × (e : ℕ) × ((seat_at w n a).forward ≡ Some (b, e)) × (at ≤ e)
  -- `taken` is the greatest epoch that it took in this world, else 0
  pub taken : (a : AgentId) → ((seat_at w n a).taken ≡ 0) ⊎ Took (w.node n).base (w.node n).epoch (w.node n).went a (seat_at w n a).taken
  pub takes : (a : AgentId) (e : ℕ) → Took (w.node n).base (w.node n).epoch (w.node n).went a e → (e < (w.node n).epoch) ⊎ Owns w n (w.node n).owner → e ≤ (seat_at w n a).taken
  -- what is parked waits for the last move's handover, at its addressee; its request has no outcome and no open gather
  pub parked : (a : AgentId) → Each (λ (m : Mail). (a ≡ (w.node n).owner) × (m.epoch ≡ (w.node n).epoch) × ((seat_at w n a).taken < (w.node n).epoch)) (seat_at w n a).parked
  pub waiting : (a : AgentId) → Each (λ (m : Mail). (r : ℕ) → key m.demand ≡ request r → (r < w.requested.count) × (HasOutcome w r → ⊥) × (ServingClient w r → ⊥)) (seat_at w n a).parked

pub record GatherClauses (w : World) (a : AgentId) (g : ℕ) (x : Gather) : Type 0 where
  -- each ask is for less than its own start, and no two are at one node
  pub asks : Each (IsAskOf w.asks a g x.rank) x.pending
  pub names : Distinct (map (node_of w.asks) x.pending)
  pub parent : ParentGood w.asks x.rank x.parent
  -- a reply to an ask that is pending was not delivered
  pub waited : Each (λ (i : ℕ). w.returned i ≡ false) x.pending

pub record Clauses (w : World) : Type 0 where
  pub titles : (n : Name) → TitleClauses w n
  pub sound : (k : ℕ) → OfSome (λ (p : Post). IsSound w.node p.to p.letter) (w.posted.post k)
  pub gathers : (a : AgentId) (g : ℕ) → OfSome (GatherClauses w a g) (w.gather a g)
  -- carriers
  pub asks : (i : ℕ) → Pending w.gather i → UndeliveredMail w (ask_key i) ⊎ ((a : AgentId) × Parked w.node a (ask_key i)) ⊎ ((a : AgentId) × Serving w.gather a i) ⊎ Undelivered w (letter_to (w.asks.info i).agent (reply i))
  pub known : (i : ℕ) (a : AgentId) → Pending w.gather i → w.knows a i ≡ true → Parked w.node a (ask_key i) ⊎ Serving w.gather a i ⊎ Undelivered w (letter_to (w.asks.info i).agent (reply i))
  pub requests : (r : ℕ) → r < w.requested.count → (HasOutcome w r → ⊥) → UndeliveredMail w (request r) ⊎ ((a : AgentId) × Parked w.node a (request r)) ⊎ ServingClient w r
  -- numbers
  pub posts : (k : ℕ) → w.posted.posts ≤ k → w.posted.post k ≡ None
  pub opened : (a : AgentId) (g : ℕ) → w.gathers ≤ g → w.gather a g ≡ None
  pub places : (a b : AgentId) (g : ℕ) → (w.gather a g ≡ None → ⊥) → (w.gather b g ≡ None → ⊥) → a ≡ b
  pub pending : (i : ℕ) (a : AgentId) (g : ℕ) (b : AgentId) (h : ℕ) → Among (λ (j : ℕ). j ≡ i) (pending_at (w.gather a g)) → Among (λ (j : ℕ). j ≡ i) (pending_at (w.gather b h)) → (a ≡ b) × (g ≡ h)
  pub distinct : (a : AgentId) (g : ℕ) → Distinct (pending_at (w.gather a g))
