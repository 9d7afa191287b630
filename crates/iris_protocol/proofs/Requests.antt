-- Requests: what each part of an event leaves.
use Rattle.std.proofs.Common.{◌≡◌, ◌≢◌, ◌⊎◌, ℕ, suc, ◌<◌, Bool, false, List, [], ◌∷◌, map, Option, Some, None, refl, sym, ap, ◌∙◌, subst, inl, inr, arith}
use Rattle.iris_protocol.specs.Table.{names, agents, numbers, Name, AgentId, set_at, set_in, Each, Among, Distinct}
use Rattle.iris_protocol.specs.World.{Key, request, ask_key, key, Mail, mail, handover, Post, Opening, letter_to, opening_at, Seat, Node, client, asker, Gather, PostTable, RequestTable, noted, Outcome, Status, idle, opened, done, took, with_seat, is_parked, parking, new_gather, released, again}
use Rattle.iris_protocol.specs.Good.{IsOf, Sent, Waiting, Idle, parent_at, Requests}
use Rattle.iris_protocol.proofs.Tables.{split, at_same, at_other, at_each, in_each, in_same, in_other, Each-weaker, Each-both, Each-not, Among-one}
use Rattle.iris_protocol.proofs.Nodes.{parked_more}
use Rattle.iris_protocol.proofs.PostTable.{fly_more, sent_by, sent_rest, sent_other, waiting_on}
use Rattle.iris_protocol.proofs.Letters.{released_each}
use Rattle.iris_protocol.proofs.Carriers.{waiting_park, parked_it, waiting_take, released_distinct}

-- ---- carriers

-- other posts are under way
pub requests_sent : (node : Name → Node) (d : RequestTable) (status : ℕ → Status) (gather : AgentId → ℕ → Option Gather) (o o' : PostTable) (coming coming' : List Post) (openings : List Opening) → ((r : ℕ) → status r ≡ idle → Sent o coming (request r) → Sent o' coming' (request r)) → Requests node d status gather o coming openings → Requests node d status gather o' coming' openings
requests_sent node d status gather o o' coming coming' openings fly q = record {
  parked = q.parked;
  free = q.free;
  distinct = q.distinct;
  clients = q.clients;
  serving = q.serving;
  carried = λ r lt e. go r e (q.carried r lt e);
  unasked = q.unasked;
}
  where
    go : (r : ℕ) → status r ≡ idle → Sent o coming (request r) ⊎ ((a : AgentId) × Waiting node openings a (request r)) → Sent o' coming' (request r) ⊎ ((a : AgentId) × Waiting node openings a (request r))
    go r e (inl s) = inl (fly r e s)
    go r e (inr h) = inr h

-- a node has changed, but nothing parked
pub requests_node : (node : Name → Node) (n : Name) (s : Node) (d : RequestTable) (status : ℕ → Status) (gather : AgentId → ℕ → Option Gather) (o : PostTable) (coming : List Post) (openings : List Opening) → ((a : AgentId) → (s.seat a).parked ≡ ((node n).seat a).parked) → Requests node d status gather o coming openings → Requests (set_at names node n s) d status gather o coming openings
requests_node node n s d status gather o coming openings same q = record {
  parked = at_each names (λ m (x : Node). (a : AgentId) → Each (λ (m : Mail). Idle status (key m.demand)) (x.seat a).parked) node n s (λ a. subst (λ (ms : List Mail). Each (λ (m : Mail). Idle status (key m.demand)) ms) (sym (same a)) (q.parked n a)) (λ m _. q.parked m);
  free = q.free;
  distinct = q.distinct;
  clients = q.clients;
  serving = q.serving;
  carried = λ r lt e. go r (q.carried r lt e);
  unasked = q.unasked;
}
  where
    go : (r : ℕ) → Sent o coming (request r) ⊎ ((a : AgentId) × Waiting node openings a (request r)) → Sent o coming (request r) ⊎ ((a : AgentId) × Waiting (set_at names node n s) openings a (request r))
    go r (inl x) = inl x
    go r (inr (a, h)) = inr (a, waiting_on node n s openings a (request r) (subst (λ (ms : List Mail). Among (λ (m : Mail). key m.demand ≡ request r) ms) (sym (same a))) h)

-- gathers have changed, but not for whom they are
pub requests_gather : (node : Name → Node) (d : RequestTable) (status : ℕ → Status) (gather gather' : AgentId → ℕ → Option Gather) (o : PostTable) (coming : List Post) (openings : List Opening) → ((a : AgentId) (g : ℕ) → parent_at (gather' a g) ≡ parent_at (gather a g)) → Requests node d status gather o coming openings → Requests node d status gather' o coming openings
requests_gather node d status gather gather' o coming openings same q = record {
  parked = q.parked;
  free = q.free;
  distinct = q.distinct;
  clients = λ a g r e. q.clients a g r (sym (same a g) ∙ e);
  serving = λ r a g e. same a g ∙ q.serving r a g e;
  carried = q.carried;
  unasked = q.unasked;
}

-- ---- the message in hand

-- it is parked
pub requests_park : (node : Name → Node) (n : Name) (a : AgentId) (m : Mail) (d : RequestTable) (status : ℕ → Status) (gather : AgentId → ℕ → Option Gather) (o : PostTable) (b : AgentId) (c : Name) → Idle status (key m.demand) → Requests node d status gather o (letter_to b (mail c m) ∷ []) [] → Requests (set_at names node n (with_seat (node n) a (parking ((node n).seat a) m))) d status gather o [] []
requests_park node n a m d status gather o b c waits q = record {
  parked = at_each names (λ j (x : Node). (e : AgentId) → Each (λ (y : Mail). Idle status (key y.demand)) (x.seat e).parked) node n new
      (at_each agents (λ e (x : Seat). Each (λ (y : Mail). Idle status (key y.demand)) x.parked) (node n).seat a (parking ((node n).seat a) m)
      (parked_more (λ (y : Mail). Idle status (key y.demand)) m ((node n).seat a).parked (is_parked (key m.demand) ((node n).seat a).parked) (q.parked n a) waits) (λ e _. q.parked n e))
      (λ j _. q.parked j);
  free = tt;
  distinct = tt;
  clients = q.clients;
  serving = q.serving;
  carried = λ r lt e. go r (q.carried r lt e);
  unasked = q.unasked;
}
  where
    new : Node
    new = with_seat (node n) a (parking ((node n).seat a) m)

    sent : (r : ℕ) → (key m.demand ≡ request r) ⊎ Sent o [] (request r) → Sent o [] (request r) ⊎ ((e : AgentId) × Waiting (set_at names node n new) [] e (request r))
    sent r (inl e) = inr (a, inl (subst (λ (k : Key). (j : Name) × Among (λ (y : Mail). key y.demand ≡ k) ((set_at names node n new j).seat a).parked) e (parked_it node n a m)))
    sent r (inr s) = inl s

    go : (r : ℕ) → Sent o (letter_to b (mail c m) ∷ []) (request r) ⊎ ((e : AgentId) × Waiting node [] e (request r)) → Sent o [] (request r) ⊎ ((e : AgentId) × Waiting (set_at names node n new) [] e (request r))
    go r (inl s) = sent r (sent_rest o (letter_to b (mail c m)) [] (request r) s)
    go r (inr (e, h)) = inr (e, waiting_park node n a m [] e (request r) h)

-- a gather is to be opened for it
pub requests_admit : (node : Name → Node) (n : Name) (a : AgentId) (m : Mail) (d : RequestTable) (status : ℕ → Status) (gather : AgentId → ℕ → Option Gather) (o : PostTable) → Idle status (key m.demand) → Requests node d status gather o (letter_to a (mail n m) ∷ []) [] → Requests node d status gather o [] (opening_at a n m.demand ∷ [])
requests_admit node n a m d status gather o waits q = record {
  parked = q.parked;
  free = (waits, tt);
  distinct = (λ h. h, tt);
  clients = q.clients;
  serving = q.serving;
  carried = λ r lt e. go r (q.carried r lt e);
  unasked = q.unasked;
}
  where
    sent : (r : ℕ) → (key m.demand ≡ request r) ⊎ Sent o [] (request r) → Sent o [] (request r) ⊎ ((e : AgentId) × Waiting node (opening_at a n m.demand ∷ []) e (request r))
    sent r (inl e) = inr (a, inr (inl (refl, e)))
    sent r (inr s) = inl s

    go : (r : ℕ) → Sent o (letter_to a (mail n m) ∷ []) (request r) ⊎ ((e : AgentId) × Waiting node [] e (request r)) → Sent o [] (request r) ⊎ ((e : AgentId) × Waiting node (opening_at a n m.demand ∷ []) e (request r))
    go r (inl s) = sent r (sent_rest o (letter_to a (mail n m)) [] (request r) s)
    go r (inr (e, inl p)) = inr (e, inl p)
    go r (inr (e, inr f)) = absurd f

-- a handover is taken
pub requests_take : (node : Name → Node) (n : Name) (owner : AgentId) (epoch last at : ℕ) (d : RequestTable) (status : ℕ → Status) (gather : AgentId → ℕ → Option Gather) (o : PostTable) (b : AgentId) (c : Name) (e l : ℕ) → Distinct (map (λ (m : Mail). key m.demand) ((node n).seat owner).parked) → Requests node d status gather o (letter_to b (handover c e l) ∷ []) [] →
    Requests (set_at names node n (with_seat (node n) owner (took ((node n).seat owner) epoch last))) d status gather o (again owner n at ((node n).seat owner).parked) (released owner n ((node n).seat owner).parked)
requests_take node n owner epoch last at d status gather o b c e l distinct q = record {
  parked = at_each names (λ j (x : Node). (a : AgentId) → Each (λ (y : Mail). Idle status (key y.demand)) (x.seat a).parked) node n new
      (at_each agents (λ a (x : Seat). Each (λ (y : Mail). Idle status (key y.demand)) x.parked) (node n).seat owner (took ((node n).seat owner) epoch last) tt (λ a _. q.parked n a))
      (λ j _. q.parked j);
  free = released_each (λ (f : Opening). Idle status (key f.demand)) (λ (m : Mail). Idle status (key m.demand)) owner n ((node n).seat owner).parked (λ m h _. h) (q.parked n owner);
  distinct = released_distinct owner n ((node n).seat owner).parked distinct;
  clients = q.clients;
  serving = q.serving;
  carried = λ r lt w. go r (q.carried r lt w);
  unasked = q.unasked;
}
  where
    new : Node
    new = with_seat (node n) owner (took ((node n).seat owner) epoch last)

    coming : List Post
    coming = again owner n at ((node n).seat owner).parked

    free : List Opening
    free = released owner n ((node n).seat owner).parked

    waits : (r : ℕ) (a : AgentId) → Waiting (set_at names node n new) free a (request r) ⊎ Among (λ (p : Post). IsOf (request r) p.letter) coming → Sent o coming (request r) ⊎ ((f : AgentId) × Waiting (set_at names node n new) free f (request r))
    waits r a (inl h) = inr (a, h)
    waits r a (inr h) = let one = Among-one (λ (p : Post). IsOf (request r) p.letter) coming h in inl (one.0, inr one.2, one.1)

    go : (r : ℕ) → Sent o (letter_to b (handover c e l) ∷ []) (request r) ⊎ ((f : AgentId) × Waiting node [] f (request r)) → Sent o coming (request r) ⊎ ((f : AgentId) × Waiting (set_at names node n new) free f (request r))
    go r (inl s) = inl (sent_by o o [] coming (request r) (fly_more o coming) (sent_other o (letter_to b (handover c e l)) [] (request r) (λ x. x) s))
    go r (inr (a, h)) = waits r a (waiting_take node n owner epoch last at a (request r) h)

-- ---- a request changes

-- no parked message is of that request
abbrev pub NoneParked : (Name → Node) → ℕ → Type 0
NoneParked node r = (n : Name) (a : AgentId) → Each (λ (m : Mail). key m.demand ≡ request r → ⊥) ((node n).seat a).parked

idle_on : (status : ℕ → Status) (r : ℕ) (s : Status) (k : Key) → Idle status k → (k ≡ request r → ⊥) → Idle (set_at numbers status r s) k
idle_on status r s (ask_key i) h ne = tt
idle_on status r s (request j) h ne = at_other numbers status r s j (λ e. ne (ap request e)) ∙ h

parked_on : (node : Name → Node) (status : ℕ → Status) (r : ℕ) (s : Status) → ((n : Name) (a : AgentId) → Each (λ (m : Mail). Idle status (key m.demand)) ((node n).seat a).parked) → NoneParked node r → (n : Name) (a : AgentId) → Each (λ (m : Mail). Idle (set_at numbers status r s) (key m.demand)) ((node n).seat a).parked
parked_on node status r s h none n a = Each-weaker _ _ ((node n).seat a).parked (λ (m : Mail) x. idle_on status r s (key m.demand) x.0 x.1) (Each-both _ _ ((node n).seat a).parked (h n a) (none n a))

-- a request that is idle now and was not, or is not now
not_idle : (status : ℕ → Status) (r : ℕ) (s : Status) (j : ℕ) → (s ≡ idle → ⊥) → set_at numbers status r s j ≡ idle → (j ≢ r) × (status j ≡ idle)
not_idle status r s j ne = at_each numbers (λ k (x : Status). x ≡ idle → (k ≢ r) × (status k ≡ idle)) status r s (λ e. absurd (ne e)) (λ k apart e. (apart, e)) j

-- an update has its outcome
pub requests_done : (node : Name → Node) (d : RequestTable) (status : ℕ → Status) (gather : AgentId → ℕ → Option Gather) (o : PostTable) (a : AgentId) (n : Name) (m : Mail) (r : ℕ) (out : Outcome) → key m.demand ≡ request r → status r ≡ idle → r < d.count → NoneParked node r → Requests node d status gather o (letter_to a (mail n m) ∷ []) [] → Requests node d (set_at numbers status r (done out)) gather o [] []
requests_done node d status gather o a n m r out is was lt none q = record {
  parked = parked_on node status r (done out) q.parked none;
  free = tt;
  distinct = tt;
  clients = λ b g j e. let h = q.clients b g j e in (h.0, h.1, at_other numbers status r (done out) j (λ same. let x = subst (λ (k : ℕ). status k ≡ opened b g) same h.2 in cc) ∙ h.2);
  serving = λ j b g. at_each numbers (λ k (x : Status). x ≡ opened b g → parent_at (gather b g) ≡ Some (client k)) status r (done out) (λ e. absurd (cc)) (λ k _ e. q.serving k b g e) j;
  carried = λ j l e. let h = not_idle status r (done out) j (λ x. cc) e in go j h.0 (q.carried j l h.1);
  unasked = λ j le. at_other numbers status r (done out) j (omega arith) ∙ q.unasked j le;
}
  where
    go : (j : ℕ) → j ≢ r → Sent o (letter_to a (mail n m) ∷ []) (request j) ⊎ ((b : AgentId) × Waiting node [] b (request j)) → Sent o [] (request j) ⊎ ((b : AgentId) × Waiting node [] b (request j))
    go j ne (inl s) = inl (sent_other o (letter_to a (mail n m)) [] (request j) (λ e. let x : request j ≡ request r = sym e ∙ is in ne (let y : j ≡ r = cc in y)) s)
    go j ne (inr h) = inr h

-- ---- a gather is opened

-- for a query
pub requests_open : (node : Name → Node) (d : RequestTable) (status : ℕ → Status) (gather : AgentId → ℕ → Option Gather) (o : PostTable) (coming : List Post) (f : Opening) (fs : List Opening) (a : AgentId) (g r rank : ℕ) → key f.demand ≡ request r → gather a g ≡ None → (r < d.count) × (d.updates r ≡ false) → NoneParked node r → Requests node d status gather o coming (f ∷ fs) →
    Requests node d (set_at numbers status r (opened a g)) (set_in gather a g (Some (new_gather rank (client r)))) o coming fs
requests_open node d status gather o coming f fs a g r rank is fresh known none q = record {
  parked = parked_on node status r (opened a g) q.parked none;
  free = Each-weaker _ _ fs (λ (x : Opening) h. idle_on status r (opened a g) (key x.demand) h.0 (λ e. h.1 (e ∙ sym is)))
      (Each-both _ _ fs q.free.1 (Each-not (λ (x : Opening). key x.demand) (key f.demand) fs q.distinct.0));
  distinct = q.distinct.1;
  clients = in_each (λ b h (x : Option Gather). (j : ℕ) → parent_at x ≡ Some (client j) → (j < d.count) × (d.updates j ≡ false) × (set_at numbers status r (opened a g) j ≡ opened b h)) gather a g new
      (λ j e. let same : r ≡ j = cc in subst (λ (k : ℕ). (k < d.count) × (d.updates k ≡ false) × (set_at numbers status r (opened a g) k ≡ opened a g)) same (known.0, known.1, at_same numbers status r (opened a g)))
      (λ b h _ j e. let x = q.clients b h j e in (x.0, x.1, at_other numbers status r (opened a g) j (λ same. let y = subst (λ (k : ℕ). status k ≡ opened b h) same x.2 in let z = was in cc) ∙ x.2));
  serving = λ j b h. at_each numbers (λ k (x : Status). x ≡ opened b h → parent_at (set_in gather a g new b h) ≡ Some (client k)) status r (opened a g) (λ e. now b h e) (λ k _ e. old k b h (q.serving k b h e)) j;
  carried = λ j l e. let h = not_idle status r (opened a g) j (λ x. cc) e in go j h.0 (q.carried j l h.1);
  unasked = λ j le. at_other numbers status r (opened a g) j (let lt = known.0 in omega arith) ∙ q.unasked j le;
}
  where
    new : Option Gather
    new = Some (new_gather rank (client r))

    was : status r ≡ idle
    was = subst (λ (k : Key). Idle status k) is q.free.0

    now : (b : AgentId) (h : ℕ) → opened a g ≡ opened b h → parent_at (set_in gather a g new b h) ≡ Some (client r)
    now b h e =
        let p : a ≡ b = cc in
        let s : g ≡ h = cc in
        subst (λ (k : AgentId). parent_at (set_in gather a g new k h) ≡ Some (client r)) p (subst (λ (k : ℕ). parent_at (set_in gather a g new a k) ≡ Some (client r)) s (ap parent_at (in_same gather a g new)))

    old : (j : ℕ) (b : AgentId) (h : ℕ) → parent_at (gather b h) ≡ Some (client j) → parent_at (set_in gather a g new b h) ≡ Some (client j)
    old j b h e = ap parent_at (in_other gather a g new b h (λ p s. let x = subst (λ (k : AgentId). parent_at (gather k h) ≡ Some (client j)) p e in let y = subst (λ (k : ℕ). parent_at (gather a k) ≡ Some (client j)) s x in let z = ap parent_at fresh in cc)) ∙ e

    go : (j : ℕ) → j ≢ r → Sent o coming (request j) ⊎ ((b : AgentId) × Waiting node (f ∷ fs) b (request j)) → Sent o coming (request j) ⊎ ((b : AgentId) × Waiting node fs b (request j))
    go j ne (inl s) = inl s
    go j ne (inr (b, inl p)) = inr (b, inl p)
    go j ne (inr (b, inr (inr x))) = inr (b, inr x)
    go j ne (inr (b, inr (inl x))) = absurd (let y : request j ≡ request r = sym x.1 ∙ is in ne (let z : j ≡ r = cc in z))

-- for an ask
pub requests_open_ask : (node : Name → Node) (d : RequestTable) (status : ℕ → Status) (gather : AgentId → ℕ → Option Gather) (o : PostTable) (coming : List Post) (f : Opening) (fs : List Opening) (a : AgentId) (g i : ℕ) (from : AgentId) (rank : ℕ) → key f.demand ≡ ask_key i → gather a g ≡ None → Requests node d status gather o coming (f ∷ fs) →
    Requests node d status (set_in gather a g (Some (new_gather rank (asker i from)))) o coming fs
requests_open_ask node d status gather o coming f fs a g i from rank is fresh q = record {
  parked = q.parked;
  free = q.free.1;
  distinct = q.distinct.1;
  clients = in_each (λ b h (x : Option Gather). (j : ℕ) → parent_at x ≡ Some (client j) → (j < d.count) × (d.updates j ≡ false) × (status j ≡ opened b h)) gather a g new (λ j e. absurd (cc)) (λ b h _ j e. q.clients b h j e);
  serving = λ j b h e. old j b h (q.serving j b h e);
  carried = λ j l e. go j (q.carried j l e);
  unasked = q.unasked;
}
  where
    new : Option Gather
    new = Some (new_gather rank (asker i from))

    old : (j : ℕ) (b : AgentId) (h : ℕ) → parent_at (gather b h) ≡ Some (client j) → parent_at (set_in gather a g new b h) ≡ Some (client j)
    old j b h e = ap parent_at (in_other gather a g new b h (λ p s. let x = subst (λ (k : AgentId). parent_at (gather k h) ≡ Some (client j)) p e in let y = subst (λ (k : ℕ). parent_at (gather a k) ≡ Some (client j)) s x in let z = ap parent_at fresh in cc)) ∙ e

    go : (j : ℕ) → Sent o coming (request j) ⊎ ((b : AgentId) × Waiting node (f ∷ fs) b (request j)) → Sent o coming (request j) ⊎ ((b : AgentId) × Waiting node fs b (request j))
    go j (inl s) = inl s
    go j (inr (b, inl p)) = inr (b, inl p)
    go j (inr (b, inr (inr x))) = inr (b, inr x)
    go j (inr (b, inr (inl x))) = absurd (let y : request j ≡ ask_key i = sym x.1 ∙ is in cc)

-- ---- a gather ends

-- a client's
pub requests_close : (node : Name → Node) (d : RequestTable) (status : ℕ → Status) (gather : AgentId → ℕ → Option Gather) (o : PostTable) (a : AgentId) (g r : ℕ) (out : Outcome) → parent_at (gather a g) ≡ Some (client r) → Requests node d status gather o [] [] → Requests node d (set_at numbers status r (done out)) (set_in gather a g None) o [] []
requests_close node d status gather o a g r out is q = record {
  parked = λ n b. Each-weaker _ _ ((node n).seat b).parked (λ (m : Mail) x. idle_on status r (done out) (key m.demand) x (λ e. let y = subst (λ (k : Key). Idle status k) e x in let z = known.2 in cc)) (q.parked n b);
  free = tt;
  distinct = tt;
  clients = in_each (λ b h (x : Option Gather). (j : ℕ) → parent_at x ≡ Some (client j) → (j < d.count) × (d.updates j ≡ false) × (set_at numbers status r (done out) j ≡ opened b h)) gather a g None (λ j e. absurd (cc))
      (λ b h ne j e. let x = q.clients b h j e in (x.0, x.1, at_other numbers status r (done out) j (λ same. apart b h ne (subst (λ (k : ℕ). status k ≡ opened b h) same x.2)) ∙ x.2));
  serving = λ j b h. at_each numbers (λ k (x : Status). x ≡ opened b h → parent_at (set_in gather a g None b h) ≡ Some (client k)) status r (done out) (λ e. absurd (cc)) (λ k ne e. old k b h ne (q.serving k b h e)) j;
  carried = λ j l e. let h = not_idle status r (done out) j (λ x. cc) e in q.carried j l h.1;
  unasked = λ j le. at_other numbers status r (done out) j (let lt = known.0 in omega arith) ∙ q.unasked j le;
}
  where
    known : (r < d.count) × (d.updates r ≡ false) × (status r ≡ opened a g)
    known = q.clients a g r is

    apart : (b : AgentId) (h : ℕ) → (b ≡ a → h ≢ g) → status r ≡ opened b h → ⊥
    apart b h ne e = let x = known.2 in let p : b ≡ a = cc in let s : h ≡ g = cc in ne p s

    old : (j : ℕ) (b : AgentId) (h : ℕ) → j ≢ r → parent_at (gather b h) ≡ Some (client j) → parent_at (set_in gather a g None b h) ≡ Some (client j)
    old j b h ne e = ap parent_at (in_other gather a g None b h (λ p s. let x = subst (λ (k : AgentId). parent_at (gather k h) ≡ Some (client j)) p e in let y = subst (λ (k : ℕ). parent_at (gather a k) ≡ Some (client j)) s x in ne (let z : j ≡ r = cc in z))) ∙ e

-- one for an ask
pub requests_close_ask : (node : Name → Node) (d : RequestTable) (status : ℕ → Status) (gather : AgentId → ℕ → Option Gather) (o : PostTable) (a : AgentId) (g i : ℕ) (from : AgentId) → parent_at (gather a g) ≡ Some (asker i from) → Requests node d status gather o [] [] → Requests node d status (set_in gather a g None) o [] []
requests_close_ask node d status gather o a g i from is q = record {
  parked = q.parked;
  free = tt;
  distinct = tt;
  clients = in_each (λ b h (x : Option Gather). (j : ℕ) → parent_at x ≡ Some (client j) → (j < d.count) × (d.updates j ≡ false) × (status j ≡ opened b h)) gather a g None (λ j e. absurd (cc)) (λ b h _ j e. q.clients b h j e);
  serving = λ j b h e. old j b h (q.serving j b h e);
  carried = q.carried;
  unasked = q.unasked;
}
  where
    old : (j : ℕ) (b : AgentId) (h : ℕ) → parent_at (gather b h) ≡ Some (client j) → parent_at (set_in gather a g None b h) ≡ Some (client j)
    old j b h e = ap parent_at (in_other gather a g None b h (λ p s. let x = subst (λ (k : AgentId). parent_at (gather k h) ≡ Some (client j)) p e in let y = subst (λ (k : ℕ). parent_at (gather a k) ≡ Some (client j)) s x in cc)) ∙ e

-- ---- a request is posted

pub requests_post : (node : Name → Node) (d : RequestTable) (status : ℕ → Status) (gather : AgentId → ℕ → Option Gather) (o : PostTable) (n : Name) (b : Bool) (a : AgentId) (c : Name) (m : Mail) → key m.demand ≡ request d.count → Requests node d status gather o [] [] → Requests node (noted d n b) status gather o (letter_to a (mail c m) ∷ []) []
requests_post node d status gather o n b a c m is q = record {
  parked = q.parked;
  free = tt;
  distinct = tt;
  clients = λ e g r x. let h = q.clients e g r x in let lt = h.0 in (omega arith, at_other numbers d.updates d.count b r (omega arith) ∙ h.1, h.2);
  serving = q.serving;
  carried = λ r lt e. carried r lt e (split numbers r d.count);
  unasked = λ r le. q.unasked r (omega arith);
}
  where
    coming : List Post
    coming = letter_to a (mail c m) ∷ []

    go : (r : ℕ) → Sent o [] (request r) ⊎ ((e : AgentId) × Waiting node [] e (request r)) → Sent o coming (request r) ⊎ ((e : AgentId) × Waiting node [] e (request r))
    go r (inl s) = inl (sent_by o o [] coming (request r) (fly_more o coming) s)
    go r (inr h) = inr h

    carried : (r : ℕ) → r < suc d.count → status r ≡ idle → (r ≡ d.count) ⊎ (r ≢ d.count) → Sent o coming (request r) ⊎ ((e : AgentId) × Waiting node [] e (request r))
    carried r lt e (inl same) = inl (letter_to a (mail c m), inr (inl refl), is ∙ ap request (sym same))
    carried r lt e (inr ne) = go r (q.carried r (omega arith) e)
