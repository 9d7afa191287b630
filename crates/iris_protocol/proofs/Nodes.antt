-- One node alone: what a move, a handover, an update that is accepted and a message that is parked leave.
use Rattle.std.proofs.Common.{◌≡◌, ◌≢◌, ◌⊎◌, ℕ, ◌+◌, ◌<◌, ◌≤◌, Bool, true, false, nat_lt, if◌then◌else◌, List, [], ◌∷◌, ◌++◌, map, Option, Some, None, refl, sym, ap, ◌∙◌, subst, inl, inr, arith}
use Rattle.iris_protocol.specs.Table.{agents, numbers, AgentId, set_at, Each, Among, Distinct}
use Rattle.iris_protocol.specs.World.{Key, request, ask_key, key, key_eq, Mail, Seat, Node, serve, pass_on, park, direct_by, direct, given, took, with_last, is_parked, parking, with_seat, accept_at, moved}
use Rattle.iris_protocol.specs.Good.{IsHeld, IsInTransit, Past, Gave, Took, IsWaiting, NodeGood}
use Rattle.iris_protocol.proofs.Tables.{eq_of, same_self, split, at_same, at_other, at_each, ge_of, Each-weaker, Each-append, Among-map, Distinct-append, map_append}

-- ---- keys

pub key_eq-same : (k : Key) → key_eq k k ≡ true
key_eq-same (request r) = same_self numbers r
key_eq-same (ask_key i) = same_self numbers i

pub key_eq_of : (k l : Key) → key_eq k l ≡ true → k ≡ l
key_eq_of (request r) (request s) e = ap request (eq_of numbers r s e)
key_eq_of (request r) (ask_key j) e = absurd (cc)
key_eq_of (ask_key i) (request s) e = absurd (cc)
key_eq_of (ask_key i) (ask_key j) e = ap ask_key (eq_of numbers i j e)

pub is_parked_Among : (k : Key) (ms : List Mail) → is_parked k ms ≡ true → Among (λ (m : Mail). key m.demand ≡ k) ms
is_parked_Among k [] e = absurd (cc)
is_parked_Among k (m ∷ ms) e = go (key_eq k (key m.demand)) refl (is_parked_Among k ms) e
  where
    go : (b : Bool) → key_eq k (key m.demand) ≡ b → (is_parked k ms ≡ true → Among (λ (n : Mail). key n.demand ≡ k) ms) → (if b then true else is_parked k ms) ≡ true → Among (λ (n : Mail). key n.demand ≡ k) (m ∷ ms)
    go true x ih y = inl (sym (key_eq_of k (key m.demand) x))
    go false x ih y = inr (ih y)

not_parked : (k : Key) (ms : List Mail) → is_parked k ms ≡ false → Among (λ (m : Mail). key m.demand ≡ k) ms → ⊥
not_parked k [] e h = h
not_parked k (m ∷ ms) e h = go (key_eq k (key m.demand)) refl (not_parked k ms) e h
  where
    go : (b : Bool) → key_eq k (key m.demand) ≡ b → (is_parked k ms ≡ false → Among (λ (n : Mail). key n.demand ≡ k) ms → ⊥) → (if b then true else is_parked k ms) ≡ false → Among (λ (n : Mail). key n.demand ≡ k) (m ∷ ms) → ⊥
    go true x ih y h = absurd (cc)
    go false x ih y (inr h) = ih y h
    go false x ih y (inl h) = let e : key_eq k (key m.demand) ≡ true = subst (λ (l : Key). key_eq k l ≡ true) (sym h) (key_eq-same k) in cc

-- ---- directions

serve_by : (l : Option ℕ) (f : Option (AgentId × ℕ)) (e : ℕ) → direct_by l f e ≡ serve → (last : ℕ) × (l ≡ Some last)
serve_by (Some last) f e h = (last, refl)
serve_by None None e h = absurd (cc)
serve_by None (Some f) e h = absurd (go (nat_lt e f.1) h)
  where
    go : (b : Bool) → (if b then pass_on f.0 f.1 else park) ≡ serve → ⊥
    go true x = cc
    go false x = cc

pub serve_is : (s : Seat) (e : ℕ) → direct s e ≡ serve → (last : ℕ) × (s.last ≡ Some last)
serve_is s e h = serve_by s.last s.forward e h

pass_by : (l : Option ℕ) (f : Option (AgentId × ℕ)) (e : ℕ) (to : AgentId) (at : ℕ) → direct_by l f e ≡ pass_on to at → f ≡ Some (to, at)
pass_by (Some last) f e to at h = absurd (cc)
pass_by None None e to at h = absurd (cc)
pass_by None (Some f) e to at h = go (nat_lt e f.1) h
  where
    go : (b : Bool) → (if b then pass_on f.0 f.1 else park) ≡ pass_on to at → Some f ≡ Some (to, at)
    go true x = let p : f.0 ≡ to = cc in let q : f.1 ≡ at = cc in λ i. Some (p i, q i)
    go false x = absurd (cc)

pub pass_is : (s : Seat) (e : ℕ) (to : AgentId) (at : ℕ) → direct s e ≡ pass_on to at → s.forward ≡ Some (to, at)
pass_is s e to at h = pass_by s.last s.forward e to at h

park_by : (l : Option ℕ) (f : Option (AgentId × ℕ)) (e : ℕ) → direct_by l f e ≡ park → (l ≡ None) × ((to : AgentId) (at : ℕ) → f ≡ Some (to, at) → at ≤ e)
park_by (Some last) f e h = absurd (cc)
park_by None None e h = (refl, λ to at x. absurd (cc))
park_by None (Some f) e h = (refl, λ to at x. go to at x (nat_lt e f.1) refl h)
  where
    go : (to : AgentId) (at : ℕ) → Some f ≡ Some (to, at) → (b : Bool) → nat_lt e f.1 ≡ b → (if b then pass_on f.0 f.1 else park) ≡ park → at ≤ e
    go to at x true c y = absurd (cc)
    go to at x false c y = let p : f ≡ (to, at) = cc in let q : f.1 ≡ at = ap (λ (t : AgentId × ℕ). t.1) p in let r = ge_of e f.1 c in omega arith

pub park_is : (s : Seat) (e : ℕ) → direct s e ≡ park → (s.last ≡ None) × ((to : AgentId) (at : ℕ) → s.forward ≡ Some (to, at) → at ≤ e)
park_is s e h = park_by s.last s.forward e h

-- ---- facts of one node

pub not_away : (s : Node) → IsHeld s → IsInTransit s → ⊥
not_away s held away = let x = held.last in let y = away.last in cc

pub taken_most : (s : Node) → NodeGood s → (a : AgentId) → (s.seat a).taken ≤ s.epoch
taken_most s g a = go (g.took a)
  where
    go : ((s.seat a).taken ≡ 0) ⊎ Took s.base s.epoch s.went a (s.seat a).taken → (s.seat a).taken ≤ s.epoch
    go (inl e) = omega arith
    go (inr t) = t.most

-- who holds a node is its owner
pub holder : (s : Node) (a : AgentId) (last : ℕ) → NodeGood s → (s.seat a).last ≡ Some last → (a ≡ s.owner) × IsHeld s
holder s a last g is = go (split agents a s.owner)
  where
    held : a ≡ s.owner → IsHeld s ⊎ IsInTransit s → IsHeld s
    held same (inl h) = h
    held same (inr h) = let x = subst (λ (b : AgentId). (s.seat b).last ≡ Some last) same is in let y = h.last in absurd (cc)

    go : (a ≡ s.owner) ⊎ (a ≢ s.owner) → (a ≡ s.owner) × IsHeld s
    go (inl same) = (same, held same g.title)
    go (inr apart) = let y = g.alone a apart in absurd (cc)

pub serves_at : (s : Node) (a : AgentId) (e : ℕ) → NodeGood s → direct (s.seat a) e ≡ serve → (a ≡ s.owner) × IsHeld s
serves_at s a e g is = let l = serve_is (s.seat a) e is in holder s a l.0 g l.1

-- nothing is parked where the node is held
pub held_none : (s : Node) → NodeGood s → IsHeld s → (a : AgentId) → Each (λ (m : Mail). ⊥) (s.seat a).parked
held_none s g held a = Each-weaker _ _ (s.seat a).parked (λ m h. not_away s held h.2) (g.parked a)

-- a handover that is not taken is the present one
pub handover_is : (s : Node) (a : AgentId) (epoch last : ℕ) → NodeGood s → (s.base < epoch) × (epoch ≤ s.epoch) × (a ≡ s.went epoch) × ((s.seat a).taken < epoch → last ≡ s.newest) → (s.seat a).taken < epoch → (epoch ≡ s.epoch) × (a ≡ s.owner) × (last ≡ s.newest) × IsInTransit s
handover_is s a epoch last g sound less = (same, owner, sound.3 less, away g.title)
  where
    not_past : (epoch < s.epoch → ⊥)
    not_past lt = go p.taken
      where
        begun : s.base < epoch
        begun = sound.0

        p : Past s.base (s.seat (s.went epoch)) epoch
        p = g.past epoch (omega (arith, begun)) lt

        go : (epoch ≤ (s.seat (s.went epoch)).taken) ⊎ (epoch ≡ s.base) → ⊥
        go (inl t) = let q = subst (λ (b : AgentId). epoch ≤ (s.seat b).taken) (sym sound.2) t in omega arith
        go (inr e) = omega (arith, begun)

    same : epoch ≡ s.epoch
    same = let le = sound.1 in grind (arith, not_past)

    owner : a ≡ s.owner
    owner = sound.2 ∙ ap s.went same ∙ sym g.registry

    away : IsHeld s ⊎ IsInTransit s → IsInTransit s
    away (inl h) = absurd (go h.taken)
      where
        go : ((s.seat s.owner).taken ≡ s.epoch) ⊎ (s.epoch ≡ s.base) → ⊥
        go (inl t) = let q = subst (λ (b : AgentId). (s.seat b).taken < epoch) owner less in omega (arith, same)
        go (inr e) = let b = sound.0 in omega (arith, same)
    away (inr h) = h

-- a message that is parked has the present epoch, and is with the owner to come
pub park_facts : (s : Node) (a : AgentId) (m : Mail) → NodeGood s → (s.base ≤ m.epoch) × (m.epoch ≤ s.epoch) × (a ≡ s.went m.epoch) → direct (s.seat a) m.epoch ≡ park → IsWaiting s a m
park_facts s a m g sound h = (owner, same, away g.title)
  where
    d : ((s.seat a).last ≡ None) × ((to : AgentId) (at : ℕ) → (s.seat a).forward ≡ Some (to, at) → at ≤ m.epoch)
    d = park_is (s.seat a) m.epoch h

    not_past : m.epoch < s.epoch → ⊥
    not_past lt =
        let p = g.past m.epoch sound.0 lt in
        let f = subst (λ (b : AgentId). (s.seat b).forward ≡ Some (p.to, p.at)) (sym sound.2) p.forward in
        let le = d.1 p.to p.at f in
        let later = p.later in
        omega arith

    same : m.epoch ≡ s.epoch
    same = let le = sound.1 in grind (arith, not_past)

    owner : a ≡ s.owner
    owner = sound.2 ∙ ap s.went same ∙ sym g.registry

    away : IsHeld s ⊎ IsInTransit s → IsInTransit s
    away (inl x) = let y = d.0 in let z = subst (λ (b : AgentId). (s.seat b).last ≡ Some s.newest) (sym owner) x.last in absurd (cc)
    away (inr x) = x

-- ---- what events leave

pub move_good : (s : Node) (to : AgentId) → NodeGood s → IsHeld s → to ≢ s.owner → NodeGood (moved s to)
move_good s to g held apart = record {
  begun = let le = g.begun in omega arith;
  registry = sym (at_same numbers s.went (s.epoch + 1) to);
  title = inr (record {
    last = rw (at_other agents s.seat s.owner new to apart) (g.alone to apart);
    taken = rw (at_other agents s.seat s.owner new to apart) (let t = taken_most s g to in omega arith);
    later = let le = g.begun in omega arith;
  });
  alone = at_each agents (λ a (x : Seat). a ≢ to → x.last ≡ None) s.seat s.owner new (λ _. refl) (λ a ne _. g.alone a ne);
  past = λ e ge lt. subst (λ (a : AgentId). Past s.base (seats a) e) (sym (at_other numbers s.went (s.epoch + 1) to e (omega arith))) (past e ge lt (split numbers e s.epoch));
  took = at_each agents (λ a (x : Seat). (x.taken ≡ 0) ⊎ Took s.base (s.epoch + 1) went' a x.taken) s.seat s.owner new (took s.owner (s.seat s.owner).taken (g.took s.owner)) (λ a _. took a (s.seat a).taken (g.took a));
  forwards = at_each agents (λ a (x : Seat). (to' : AgentId) (at : ℕ) → x.forward ≡ Some (to', at) → Gave s.base (s.epoch + 1) went' a to' at) s.seat s.owner new
      (λ to' at e. let p : ◌≡◌ {A = AgentId × ℕ} (to, s.epoch + 1) (to', at) = cc in subst (λ (t : AgentId × ℕ). Gave s.base (s.epoch + 1) went' s.owner t.0 t.1) p mine)
      (λ a _ to' at e. more a to' at (g.forwards a to' at e));
  parked = at_each agents (λ a (x : Seat). Each (IsWaiting (moved s to) a) x.parked) s.seat s.owner new
      (Each-weaker _ _ (s.seat s.owner).parked (λ m h. absurd h) (held_none s g held s.owner))
      (λ a ne. Each-weaker _ _ (s.seat a).parked (λ m h. absurd h) (held_none s g held a));
  distinct = at_each agents (λ a (x : Seat). Distinct (map (λ (m : Mail). key m.demand) x.parked)) s.seat s.owner new (g.distinct s.owner) (λ a _. g.distinct a);
}
  where
    new : Seat
    new = given (s.seat s.owner) to (s.epoch + 1)

    seats : AgentId → Seat
    seats = set_at agents s.seat s.owner new

    went' : ℕ → AgentId
    went' = set_at numbers s.went (s.epoch + 1) to

    older : (e : ℕ) → e ≤ s.epoch → s.went e ≡ went' e
    older e le = sym (at_other numbers s.went (s.epoch + 1) to e (omega arith))

    -- the owner until now has given it away
    owners : (e : ℕ) → e ≡ s.epoch → ((s.seat s.owner).taken ≡ s.epoch) ⊎ (s.epoch ≡ s.base) → (e ≤ (s.seat s.owner).taken) ⊎ (e ≡ s.base)
    owners e same (inl t) = inl (omega arith)
    owners e same (inr b) = inr (same ∙ b)

    past : (e : ℕ) → s.base ≤ e → e < s.epoch + 1 → (e ≡ s.epoch) ⊎ (e ≢ s.epoch) → Past s.base (seats (s.went e)) e
    past e ge lt (inl same) = subst (λ (a : AgentId). Past s.base (seats a) e) (g.registry ∙ ap s.went (sym same)) (rw (at_same agents s.seat s.owner new) (record { to = to; at = s.epoch + 1; forward = refl; later = lt; taken = owners e same held.taken }))
    past e ge lt (inr ne) = at_each agents (λ a (x : Seat). Past s.base (s.seat a) e → Past s.base x e) s.seat s.owner new (λ h. record { to = to; at = s.epoch + 1; forward = refl; later = lt; taken = h.taken }) (λ a _ h. h) (s.went e) (g.past e ge (omega arith))

    took : (a : AgentId) (e : ℕ) → (e ≡ 0) ⊎ Took s.base s.epoch s.went a e → (e ≡ 0) ⊎ Took s.base (s.epoch + 1) went' a e
    took a e (inl z) = inl z
    took a e (inr t) = let le = t.most in inr (record { begun = t.begun; most = omega arith; taker = t.taker ∙ older e le })

    mine : Gave s.base (s.epoch + 1) went' s.owner to (s.epoch + 1)
    mine = record { before = s.epoch; next = omega arith; begun = g.begun; most = omega arith; giver = g.registry ∙ older s.epoch (omega arith); taker = sym (at_same numbers s.went (s.epoch + 1) to) }

    more : (a b : AgentId) (at : ℕ) → Gave s.base s.epoch s.went a b at → Gave s.base (s.epoch + 1) went' a b at
    more a b at h = let le = h.most in let n = h.next in record { before = h.before; next = h.next; begun = h.begun; most = omega arith; giver = h.giver ∙ older h.before (omega arith); taker = h.taker ∙ older at le }

pub take_good : (s : Node) → NodeGood s → IsInTransit s → NodeGood (with_seat s s.owner (took (s.seat s.owner) s.epoch s.newest))
take_good s g away = record {
  begun = g.begun;
  registry = g.registry;
  title = inl (record { last = rw (at_same agents s.seat s.owner new) refl; taken = inl (rw (at_same agents s.seat s.owner new) refl) });
  alone = λ a ne. rw (at_other agents s.seat s.owner new a ne) (g.alone a ne);
  past = λ e ge lt. at_each agents (λ a (x : Seat). Past s.base (s.seat a) e → Past s.base x e) s.seat s.owner new (λ h. record { to = h.to; at = h.at; forward = h.forward; later = h.later; taken = inl (omega arith) }) (λ a _ h. h) (s.went e) (g.past e ge lt);
  took = at_each agents (λ a (x : Seat). (x.taken ≡ 0) ⊎ Took s.base s.epoch s.went a x.taken) s.seat s.owner new (inr (record { begun = away.later; most = omega arith; taker = g.registry })) (λ a _. g.took a);
  forwards = at_each agents (λ a (x : Seat). (to : AgentId) (at : ℕ) → x.forward ≡ Some (to, at) → Gave s.base s.epoch s.went a to at) s.seat s.owner new (g.forwards s.owner) (λ a _. g.forwards a);
  parked = at_each agents (λ a (x : Seat). Each (IsWaiting (with_seat s s.owner new) a) x.parked) s.seat s.owner new tt (λ a ne. Each-weaker _ _ (s.seat a).parked (λ m h. absurd (ne h.0)) (g.parked a));
  distinct = at_each agents (λ a (x : Seat). Distinct (map (λ (m : Mail). key m.demand) x.parked)) s.seat s.owner new tt (λ a _. g.distinct a);
}
  where
    new : Seat
    new = took (s.seat s.owner) s.epoch s.newest

pub accept_good : (s : Node) (number : ℕ) → NodeGood s → IsHeld s → NodeGood (accept_at s s.owner number)
accept_good s number g held = record {
  begun = g.begun;
  registry = g.registry;
  title = inl (record { last = rw (at_same agents s.seat s.owner new) refl; taken = rw (at_same agents s.seat s.owner new) held.taken });
  alone = λ a ne. rw (at_other agents s.seat s.owner new a ne) (g.alone a ne);
  past = λ e ge lt. at_each agents (λ a (x : Seat). Past s.base (s.seat a) e → Past s.base x e) s.seat s.owner new (λ h. record { to = h.to; at = h.at; forward = h.forward; later = h.later; taken = h.taken }) (λ a _ h. h) (s.went e) (g.past e ge lt);
  took = at_each agents (λ a (x : Seat). (x.taken ≡ 0) ⊎ Took s.base s.epoch s.went a x.taken) s.seat s.owner new (g.took s.owner) (λ a _. g.took a);
  forwards = at_each agents (λ a (x : Seat). (to : AgentId) (at : ℕ) → x.forward ≡ Some (to, at) → Gave s.base s.epoch s.went a to at) s.seat s.owner new (g.forwards s.owner) (λ a _. g.forwards a);
  parked = at_each agents (λ a (x : Seat). Each (IsWaiting (accept_at s s.owner number) a) x.parked) s.seat s.owner new (none s.owner) (λ a _. none a);
  distinct = at_each agents (λ a (x : Seat). Distinct (map (λ (m : Mail). key m.demand) x.parked)) s.seat s.owner new (g.distinct s.owner) (λ a _. g.distinct a);
}
  where
    new : Seat
    new = with_last (s.seat s.owner) number

    none : (a : AgentId) → Each (IsWaiting (accept_at s s.owner number) a) (s.seat a).parked
    none a = Each-weaker _ _ (s.seat a).parked (λ m h. absurd h) (held_none s g held a)

-- what holds of each parked message, and of the new one, holds of each after parking
pub parked_more : (P : Mail → Type 0) (m : Mail) (ms : List Mail) (b : Bool) → Each P ms → P m → Each P (if b then ms else ms ++ m ∷ [])
parked_more P m ms true h p = h
parked_more P m ms false h p = Each-append P ms m h p

parked_distinct : (m : Mail) (ms : List Mail) (b : Bool) → is_parked (key m.demand) ms ≡ b → Distinct (map (λ (x : Mail). key x.demand) ms) → Distinct (map (λ (x : Mail). key x.demand) (if b then ms else ms ++ m ∷ []))
parked_distinct m ms true e h = h
parked_distinct m ms false e h = subst (λ (ks : List Key). Distinct ks) (sym (map_append (λ (x : Mail). key x.demand) ms m))
    (Distinct-append (map (λ (x : Mail). key x.demand) ms) (key m.demand) h (λ k. not_parked (key m.demand) ms e (Among-map (λ (l : Key). l ≡ key m.demand) (λ (x : Mail). key x.demand) ms k)))

pub park_good : (s : Node) (a : AgentId) (m : Mail) → NodeGood s → IsWaiting s a m → NodeGood (with_seat s a (parking (s.seat a) m))
park_good s a m g waits = record {
  begun = g.begun;
  registry = g.registry;
  title = inr away;
  alone = at_each agents (λ b (x : Seat). b ≢ s.owner → x.last ≡ None) s.seat a new (g.alone a) (λ b _. g.alone b);
  past = λ e ge lt. at_each agents (λ b (x : Seat). Past s.base (s.seat b) e → Past s.base x e) s.seat a new (λ p. record { to = p.to; at = p.at; forward = p.forward; later = p.later; taken = p.taken }) (λ b _ p. p) (s.went e) (g.past e ge lt);
  took = at_each agents (λ b (x : Seat). (x.taken ≡ 0) ⊎ Took s.base s.epoch s.went b x.taken) s.seat a new (g.took a) (λ b _. g.took b);
  forwards = at_each agents (λ b (x : Seat). (to : AgentId) (at : ℕ) → x.forward ≡ Some (to, at) → Gave s.base s.epoch s.went b to at) s.seat a new (g.forwards a) (λ b _. g.forwards b);
  parked = at_each agents (λ b (x : Seat). Each (IsWaiting (with_seat s a new) b) x.parked) s.seat a new
      (parked_more (IsWaiting (with_seat s a new) a) m (s.seat a).parked (is_parked (key m.demand) (s.seat a).parked) (waiting a) (waits.0, waits.1, away))
      (λ b _. waiting b);
  distinct = at_each agents (λ b (x : Seat). Distinct (map (λ (y : Mail). key y.demand) x.parked)) s.seat a new
      (parked_distinct m (s.seat a).parked (is_parked (key m.demand) (s.seat a).parked) refl (g.distinct a)) (λ b _. g.distinct b);
}
  where
    new : Seat
    new = parking (s.seat a) m

    away : IsInTransit (with_seat s a new)
    away = record {
      last = at_each agents (λ b (y : Seat). (s.seat b).last ≡ None → y.last ≡ None) s.seat a new (λ p. p) (λ b _ p. p) s.owner waits.2.last;
      taken = at_each agents (λ b (y : Seat). (s.seat b).taken < s.epoch → y.taken < s.epoch) s.seat a new (λ p. p) (λ b _ p. p) s.owner waits.2.taken;
      later = waits.2.later;
    }

    waiting : (b : AgentId) → Each (IsWaiting (with_seat s a new) b) (s.seat b).parked
    waiting b = Each-weaker _ _ (s.seat b).parked (λ x h. (h.0, h.1, away)) (g.parked b)

-- ---- what good says of forwards and handovers

-- an agent that gave the node in this world has a forward, of that move or a later one of its own
pub gave_forward : (s : Node) → NodeGood s → (a : AgentId) (e : ℕ) → s.base ≤ e → e < s.epoch → a ≡ s.went e → (to : AgentId) × (at : ℕ) × ((s.seat a).forward ≡ Some (to, at)) × (e < at) × Gave s.base s.epoch s.went a to at
gave_forward s g a e ge lt is =
    let p = g.past e ge lt in
    let f = subst (λ (b : AgentId). (s.seat b).forward ≡ Some (p.to, p.at)) (sym is) p.forward in
    (p.to, p.at, f, p.later, g.forwards a p.to p.at f)

-- an agent to which the node went in this world, and which gave it since, took that handover, or a later one
took_before : (s : Node) → NodeGood s → (a : AgentId) (e : ℕ) → Took s.base s.epoch s.went a e → e < s.epoch → e ≤ (s.seat a).taken
took_before s g a e t lt = go p.taken
  where
    begun : s.base < e
    begun = t.begun

    p : Past s.base (s.seat (s.went e)) e
    p = g.past e (omega (arith, begun)) lt

    go : (e ≤ (s.seat (s.went e)).taken) ⊎ (e ≡ s.base) → e ≤ (s.seat a).taken
    go (inl le) = subst (λ (b : AgentId). e ≤ (s.seat b).taken) (sym t.taker) le
    go (inr same) = absurd (omega (arith, begun))

-- also where it holds the node
pub took_later : (s : Node) → NodeGood s → (a : AgentId) (e : ℕ) → Took s.base s.epoch s.went a e → (e < s.epoch) ⊎ IsHeld s → e ≤ (s.seat a).taken
took_later s g a e t (inl lt) = took_before s g a e t lt
took_later s g a e t (inr held) = near (split numbers e s.epoch)
  where
    begun : s.base < e
    begun = t.begun

    most : e ≤ s.epoch
    most = t.most

    go : e ≡ s.epoch → ((s.seat s.owner).taken ≡ s.epoch) ⊎ (s.epoch ≡ s.base) → e ≤ (s.seat a).taken
    go same (inl k) = let o : a ≡ s.owner = t.taker ∙ ap s.went same ∙ sym g.registry in subst (λ (b : AgentId). e ≤ (s.seat b).taken) (sym o) (omega (arith, same))
    go same (inr b) = absurd (omega (arith, begun, same))

    near : (e ≡ s.epoch) ⊎ (e ≢ s.epoch) → e ≤ (s.seat a).taken
    near (inl same) = go same held.taken
    near (inr ne) = took_before s g a e t (grind (arith, most))
