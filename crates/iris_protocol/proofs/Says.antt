-- What is promised in plain words follows from Good.
use Rattle.std.proofs.Common.{◌≡◌, ◌⊎◌, ℕ, ◌<◌, true, false, [], Option, Some, None, refl, sym, ◌∙◌, subst, inl, inr, arith}
use Rattle.iris_protocol.specs.Table.{Name, AgentId, names, OfSome, Among, Distinct}
use Rattle.iris_protocol.specs.World.{Demand, query, update, ask, Key, request, ask_key, key, Mail, Letter, mail, reply, handover, Post, letter_to, Gather, Status, idle, opened, done, World, seat_at}
use Rattle.iris_protocol.specs.Good.{IsHeld, IsInTransit, NodeGood, KnownDemand, IsUndelivered, IsOf, Sent, Parked, Waiting, Idle, pending_at, Pending, Serving, GatherGood, Replied, Good}
use Rattle.iris_protocol.specs.Clauses.{Undelivered, UndeliveredMail, Owns, HasOutcome, ServingClient, TitleClauses, GatherClauses, Clauses}
use Rattle.iris_protocol.proofs.Tables.{OfSome-weaker, Each-weaker, Each-both, Each-among}
use Rattle.iris_protocol.proofs.Nodes.{not_away, holder, gave_forward, took_later}
use Rattle.iris_protocol.proofs.Gathers.{pending_one, pending_distinct}

module _ (w : World) (good : Good w [] []) where
  post_of : (p : Post) → IsUndelivered w.posted [] p → Undelivered w p
  post_of p (inl f) = f
  post_of p (inr h) = absurd h

  mail_of : (k : Key) → Sent w.posted [] k → UndeliveredMail w k
  mail_of k s = go s.0 (post_of s.0 s.1) s.2
    where
      go : (p : Post) → Undelivered w p → IsOf k p.letter → UndeliveredMail w k
      go p u is = by p.letter refl is
        where
          by : (l : Letter) → p.letter ≡ l → IsOf k l → UndeliveredMail w k
          by (mail n m) e x = (p.to, n, m, (u.0, u.1 ∙ (λ i. Some (record { to = p.to; letter = e i })), u.2), x)
          by (reply i) e x = absurd x
          by (handover n e l) _ x = absurd x

  parked_of : (a : AgentId) (k : Key) → Waiting w.node [] a k → Parked w.node a k
  parked_of a k (inl p) = p
  parked_of a k (inr f) = absurd f

  owned : (n : Name) → IsHeld (w.node n) → Owns w n (w.node n).owner
  owned n h = ((w.node n).newest, h.last)

  known_request : (n : Name) (r : ℕ) (demand : Demand) → KnownDemand w.requested w.asks n demand → key demand ≡ request r → r < w.requested.count
  known_request n r (query s) h e = let same : s ≡ r = cc in let lt = h.0 in omega arith
  known_request n r (update s number) h e = let same : s ≡ r = cc in let lt = h.0 in omega arith
  known_request n r (ask i from rank) h e = absurd (cc)

  titles_of : (n : Name) → TitleClauses w n
  titles_of n = record {
    registry = node.registry;
    title = title node.title;
    forward = node.forwards;
    forwards = λ a to at h. let b = h.begun in let m = h.most in let x = h.next in let f = gave_forward (w.node n) node a h.before h.begun (omega (arith, x, m)) h.giver in let lt = f.3 in (f.0, f.1, f.2, omega (arith, x, lt));
    taken = node.took;
    takes = λ a e t h. took_later (w.node n) node a e t (held h);
    parked = λ a. Each-weaker _ _ (seat_at w n a).parked (λ (m : Mail) h. (h.0, h.1, let lt = h.2.taken in subst (λ (b : AgentId). (seat_at w n b).taken < (w.node n).epoch) (sym h.0) lt)) (node.parked a);
    waiting = λ a. Each-weaker _ _ (seat_at w n a).parked (λ (m : Mail) h r e. (known_request n r m.demand h.0 e, λ o. outcome r m e h.1 o, λ s. client_of r m e h.1 s)) (Each-both _ _ (seat_at w n a).parked (good.letters.parked n a) (good.requests.parked n a));
  }
    where
      node : NodeGood (w.node n)
      node = good.titles.nodes n

      title : IsHeld (w.node n) ⊎ IsInTransit (w.node n) → (Owns w n (w.node n).owner × ((a : AgentId) → Owns w n a → a ≡ (w.node n).owner)) ⊎ (((a : AgentId) → Owns w n a → ⊥) × ((last : ℕ) × Undelivered w (letter_to (w.node n).owner (handover n (w.node n).epoch last))))
      title (inl h) = inl (owned n h, λ a o. (holder (w.node n) a o.0 (good.titles.nodes n) o.1).0)
      title (inr h) = let t = good.titles.transit n h in inr (λ a o. not_away (w.node n) (holder (w.node n) a o.0 (good.titles.nodes n) o.1).1 h, (t.0, post_of _ t.1))

      held : {e : ℕ} → (e < (w.node n).epoch) ⊎ Owns w n (w.node n).owner → (e < (w.node n).epoch) ⊎ IsHeld (w.node n)
      held (inl lt) = inl lt
      held (inr o) = inr (holder (w.node n) (w.node n).owner o.0 (good.titles.nodes n) o.1).1

      outcome : (r : ℕ) (m : Mail) → key m.demand ≡ request r → Idle w.status (key m.demand) → HasOutcome w r → ⊥
      outcome r m e h o = let x = subst (λ (k : Key). Idle w.status k) e h in let y = o.1 in cc

      client_of : (r : ℕ) (m : Mail) → key m.demand ≡ request r → Idle w.status (key m.demand) → ServingClient w r → ⊥
      client_of r m e h s = let x = subst (λ (k : Key). Idle w.status k) e h in let y = (good.requests.clients s.0 s.1 r s.2).2 in cc

  gather_of : (a : AgentId) (g : ℕ) (o : Option Gather) → w.gather a g ≡ o → OfSome (GatherGood w.asks w.place a g) o → OfSome (GatherClauses w a g) o
  gather_of a g None e h = tt
  gather_of a g (Some x) e h = record {
    asks = h.pending;
    names = h.names;
    parent = h.parent;
    waited = Each-among (λ i. w.returned i ≡ false) x.pending (λ i m. good.returns.waited i (a, g, subst (λ (y : Option Gather). Among (λ (j : ℕ). j ≡ i) (pending_at y)) (sym e) m));
  }

  ask_of : (i : ℕ) (a : AgentId) → Waiting w.node [] a (ask_key i) ⊎ Serving w.gather a i ⊎ Replied w.posted [] w.asks i → Parked w.node a (ask_key i) ⊎ Serving w.gather a i ⊎ Undelivered w (letter_to (w.asks.info i).agent (reply i))
  ask_of i a (inl h) = inl (parked_of a (ask_key i) h)
  ask_of i a (inr (inl h)) = inr (inl h)
  ask_of i a (inr (inr h)) = inr (inr (post_of _ h))

  carrier_of : (i : ℕ) → Pending w.gather i → Sent w.posted [] (ask_key i) ⊎ ((a : AgentId) × (w.knows a i ≡ true)) → UndeliveredMail w (ask_key i) ⊎ ((a : AgentId) × Parked w.node a (ask_key i)) ⊎ ((a : AgentId) × Serving w.gather a i) ⊎ Undelivered w (letter_to (w.asks.info i).agent (reply i))
  carrier_of i p (inl s) = inl (mail_of (ask_key i) s)
  carrier_of i p (inr (a, k)) = go (ask_of i a (good.gathers.held i a p k))
    where
      go : Parked w.node a (ask_key i) ⊎ Serving w.gather a i ⊎ Undelivered w (letter_to (w.asks.info i).agent (reply i)) → UndeliveredMail w (ask_key i) ⊎ ((b : AgentId) × Parked w.node b (ask_key i)) ⊎ ((b : AgentId) × Serving w.gather b i) ⊎ Undelivered w (letter_to (w.asks.info i).agent (reply i))
      go (inl h) = inr (inl (a, h))
      go (inr (inl h)) = inr (inr (inl (a, h)))
      go (inr (inr h)) = inr (inr (inr h))

  request_of : (r : ℕ) → r < w.requested.count → (s : Status) → w.status r ≡ s → (HasOutcome w r → ⊥) → UndeliveredMail w (request r) ⊎ ((a : AgentId) × Parked w.node a (request r)) ⊎ ServingClient w r
  request_of r lt idle e none = go (good.requests.carried r lt e)
    where
      go : Sent w.posted [] (request r) ⊎ ((a : AgentId) × Waiting w.node [] a (request r)) → UndeliveredMail w (request r) ⊎ ((a : AgentId) × Parked w.node a (request r)) ⊎ ServingClient w r
      go (inl s) = inl (mail_of (request r) s)
      go (inr (a, h)) = inr (inl (a, parked_of a (request r) h))
  request_of r lt (opened a g) e none = inr (inr (a, g, good.requests.serving r a g e))
  request_of r lt (done o) e none = absurd (none (o, e))

  place_of : (a : AgentId) (g : ℕ) (o : Option Gather) → w.gather a g ≡ o → OfSome (GatherGood w.asks w.place a g) o → (w.gather a g ≡ None → ⊥) → w.place g ≡ a
  place_of a g None e h some' = absurd (some' e)
  place_of a g (Some x) e h some' = h.here

  distinct_of : (a : AgentId) (g : ℕ) (o : Option Gather) → OfSome (GatherGood w.asks w.place a g) o → Distinct (pending_at o)
  distinct_of a g None h = tt
  distinct_of a g (Some x) h = pending_distinct _ x.pending h.names

  pub clauses_of : Clauses w
  clauses_of = record {
    titles = titles_of;
    sound = λ k. OfSome-weaker _ _ (w.posted.post k) (λ p h. h.sound) (good.letters.kept k);
    gathers = λ a g. gather_of a g (w.gather a g) refl (good.gathers.kept a g);
    asks = λ i p. carrier_of i p (good.gathers.carried i p);
    known = λ i a p k. ask_of i a (good.gathers.held i a p k);
    requests = λ r lt none. request_of r lt (w.status r) refl none;
    posts = good.letters.fresh;
    opened = good.gathers.fresh;
    places = λ a b g h k. sym (place_of a g (w.gather a g) refl (good.gathers.kept a g) h) ∙ place_of b g (w.gather b g) refl (good.gathers.kept b g) k;
    pending = pending_one w.node w.asks w.gather w.gathers w.place w.knows w.posted [] [] good.gathers;
    distinct = λ a g. distinct_of a g (w.gather a g) (good.gathers.kept a g);
  }
