-- Letters: what each part of an event leaves.
use Rattle.std.proofs.Common.{◌≡◌, ℕ, ◌+◌, ◌<◌, ◌≤◌, Bool, true, false, if◌then◌else◌, List, [], ◌∷◌, Option, Some, None, refl, sym, ◌∙◌, subst, inl, arith}
use Rattle.iris_protocol.specs.Table.{names, agents, numbers, Name, AgentId, set_at, OfSome, Each}
use Rattle.iris_protocol.specs.World.{Demand, query, update, ask, key, is_update, Mail, Letter, mail, reply, handover, Post, Opening, letter_to, mail_to, opening_at, Seat, Node, PostTable, posting, marked, RequestTable, noted, Info, AskTable, Need, asking, given, took, with_last, with_seat, is_parked, parking, accept_at, moved, released, again}
use Rattle.iris_protocol.specs.Good.{IsHeld, NodeGood, IsSound, KnownDemand, KnownLetter, PostGood, OpeningGood, Letters}
use Rattle.iris_protocol.proofs.Tables.{at_same, at_other, put_at, at_each, of_some, OfSome-weaker, Each-weaker}
use Rattle.iris_protocol.proofs.Nodes.{not_away, handover_is, parked_more}

-- ---- posts

pub letters_put : (node : Name → Node) (d : RequestTable) (q : AskTable) (o : PostTable) (p : Post) (coming : List Post) (openings : List Opening) → Letters node d q o (p ∷ coming) openings → Letters node d q (posting o p) coming openings
letters_put node d q o p coming openings l = record {
  fresh = λ k le. at_other numbers o.post o.posts (Some p) k (omega arith) ∙ l.fresh k (omega arith);
  kept = at_each numbers (λ k (x : Option Post). OfSome (PostGood node d q) x) o.post o.posts (Some p) l.comes.0 (λ k _. l.kept k);
  comes = l.comes.1;
  parked = l.parked;
  free = l.free;
}

pub letters_mark : (node : Name → Node) (d : RequestTable) (q : AskTable) (o : PostTable) (k : ℕ) (p : Post) → o.post k ≡ Some p → Letters node d q o [] [] → Letters node d q (marked o k) (p ∷ []) []
letters_mark node d q o k p is l = record { fresh = l.fresh; kept = l.kept; comes = (of_some (PostGood node d q) (o.post k) p is (l.kept k), tt); parked = l.parked; free = l.free }

pub letters_forget : (node : Name → Node) (d : RequestTable) (q : AskTable) (o : PostTable) → Letters node d q o [] [] → Letters node d q (record o { post = λ k. if o.seen k then None else o.post k }) [] []
letters_forget node d q o l = record {
  fresh = λ k le. none (o.seen k) (o.post k) (l.fresh k le);
  kept = λ k. some (o.seen k) (o.post k) (l.kept k);
  comes = tt;
  parked = l.parked;
  free = tt;
}
  where
    none : (b : Bool) (x : Option Post) → x ≡ None → (if b then None else x) ≡ None
    none true x e = refl
    none false x e = e

    some : (b : Bool) (x : Option Post) → OfSome (PostGood node d q) x → OfSome (PostGood node d q) (if b then None else x)
    some true x h = tt
    some false x h = h

-- with others in coming, and others to open
pub letters_hand : (node : Name → Node) (d : RequestTable) (q : AskTable) (o : PostTable) (coming coming' : List Post) (openings openings' : List Opening) → Each (PostGood node d q) coming' → Each (OpeningGood node d q) openings' → Letters node d q o coming openings → Letters node d q o coming' openings'
letters_hand node d q o coming coming' openings openings' h f l = record { fresh = l.fresh; kept = l.kept; comes = h; parked = l.parked; free = f }

-- ---- a node has changed

-- what is said of a node's moves stays so as they grow, and of its handovers where that is shown
pub sound_on : (node : Name → Node) (n : Name) (s : Node) → s.base ≡ (node n).base → (node n).epoch ≤ s.epoch → ((e : ℕ) → e ≤ (node n).epoch → s.went e ≡ (node n).went e) →
    ((to : AgentId) (e l : ℕ) → ((node n).base < e) × (e ≤ (node n).epoch) × (to ≡ (node n).went e) × (((node n).seat to).taken < e → l ≡ (node n).newest) → (s.seat to).taken < e → l ≡ s.newest) → (to : AgentId) (l : Letter) → IsSound node to l → IsSound (set_at names node n s) to l
sound_on node n s base le went taken to (mail m x) h = at_each names (λ j (y : Node). ((node j).base ≤ x.epoch) × (x.epoch ≤ (node j).epoch) × (to ≡ (node j).went x.epoch) → (y.base ≤ x.epoch) × (x.epoch ≤ y.epoch) × (to ≡ y.went x.epoch)) node n s (λ p. let b = p.0 in let a = p.1 in (omega (arith, base), omega arith, p.2 ∙ sym (went x.epoch p.1))) (λ j _ p. p) m h
sound_on node n s base le went taken to (reply i) h = tt
sound_on node n s base le went taken to (handover m e l) h = at_each names (λ j (y : Node). ((node j).base < e) × (e ≤ (node j).epoch) × (to ≡ (node j).went e) × (((node j).seat to).taken < e → l ≡ (node j).newest) → (y.base < e) × (e ≤ y.epoch) × (to ≡ y.went e) × ((y.seat to).taken < e → l ≡ y.newest)) node n s
    (λ p. let b = p.0 in let a = p.1 in (omega (arith, base), omega arith, p.2 ∙ sym (went e p.1), taken to e l p)) (λ j _ p. p) m h

pub post_on : (node node' : Name → Node) (d : RequestTable) (q : AskTable) → ((to : AgentId) (l : Letter) → IsSound node to l → IsSound node' to l) → (p : Post) → PostGood node d q p → PostGood node' d q p
post_on node node' d q mono p h = record { sound = mono p.to p.letter h.sound; known = h.known }

letters_node : (node : Name → Node) (n : Name) (s : Node) (d : RequestTable) (q : AskTable) (o : PostTable) (coming : List Post) → ((to : AgentId) (l : Letter) → IsSound node to l → IsSound (set_at names node n s) to l) → ((a : AgentId) → Each (λ (m : Mail). KnownDemand d q n m.demand) (s.seat a).parked) → Letters node d q o coming [] → Letters (set_at names node n s) d q o coming []
letters_node node n s d q o coming mono parked l = record {
  fresh = l.fresh;
  kept = λ k. OfSome-weaker _ _ (o.post k) (post_on node (set_at names node n s) d q mono) (l.kept k);
  comes = Each-weaker _ _ coming (post_on node (set_at names node n s) d q mono) l.comes;
  parked = at_each names (λ j (x : Node). (a : AgentId) → Each (λ (m : Mail). KnownDemand d q j m.demand) (x.seat a).parked) node n s parked (λ j _. l.parked j);
  free = tt;
}

pub letters_park : (node : Name → Node) (n : Name) (a : AgentId) (m : Mail) (d : RequestTable) (q : AskTable) (o : PostTable) (coming : List Post) → KnownDemand d q n m.demand → Letters node d q o coming [] → Letters (set_at names node n (with_seat (node n) a (parking ((node n).seat a) m))) d q o coming []
letters_park node n a m d q o coming known l = letters_node node n (with_seat s a seat) d q o coming
    (sound_on node n (with_seat s a seat) refl (omega arith) (λ e _. refl) (λ to e k h. at_each agents (λ b (y : Seat). ((s.seat b).taken < e → k ≡ s.newest) → y.taken < e → k ≡ s.newest) s.seat a seat (λ p. p) (λ b _ p. p) to h.3))
    (at_each agents (λ b (y : Seat). Each (λ (x : Mail). KnownDemand d q n x.demand) y.parked) s.seat a seat (parked_more (λ (x : Mail). KnownDemand d q n x.demand) m (s.seat a).parked (is_parked (key m.demand) (s.seat a).parked) (l.parked n a) known) (λ b _. l.parked n b))
    l
  where
    s : Node
    s = node n

    seat : Seat
    seat = parking (s.seat a) m

pub letters_accept : (node : Name → Node) (n : Name) (number : ℕ) (d : RequestTable) (q : AskTable) (o : PostTable) (coming : List Post) → NodeGood (node n) → IsHeld (node n) → Letters node d q o coming [] → Letters (set_at names node n (accept_at (node n) (node n).owner number)) d q o coming []
letters_accept node n number d q o coming good held l = letters_node node n (accept_at s s.owner number) d q o coming
    (sound_on node n (accept_at s s.owner number) refl (omega arith) (λ e _. refl) (λ to e k h lt. absurd (taken to e k h (at_each agents (λ b (y : Seat). y.taken < e → (s.seat b).taken < e) s.seat s.owner seat (λ p. p) (λ b _ p. p) to lt))))
    (at_each agents (λ b (y : Seat). Each (λ (x : Mail). KnownDemand d q n x.demand) y.parked) s.seat s.owner seat (l.parked n s.owner) (λ b _. l.parked n b))
    l
  where
    s : Node
    s = node n

    seat : Seat
    seat = with_last (s.seat s.owner) number

    -- a handover of this node is taken
    taken : (to : AgentId) (e k : ℕ) → (s.base < e) × (e ≤ s.epoch) × (to ≡ s.went e) × ((s.seat to).taken < e → k ≡ s.newest) → (s.seat to).taken < e → ⊥
    taken to e k h lt = not_away s held (handover_is s to e k good h lt).3

pub letters_give : (node : Name → Node) (n : Name) (to : AgentId) (d : RequestTable) (q : AskTable) (o : PostTable) (coming : List Post) → Letters node d q o coming [] → Letters (set_at names node n (moved (node n) to)) d q o coming []
letters_give node n to d q o coming l = letters_node node n (moved s to) d q o coming
    (sound_on node n (moved s to) refl (omega arith) (λ e le. at_other numbers s.went (s.epoch + 1) to e (omega arith)) (λ b e k h. at_each agents (λ c (y : Seat). ((s.seat c).taken < e → k ≡ s.newest) → y.taken < e → k ≡ s.newest) s.seat s.owner seat (λ p. p) (λ c _ p. p) b h.3))
    (at_each agents (λ b (y : Seat). Each (λ (x : Mail). KnownDemand d q n x.demand) y.parked) s.seat s.owner seat (l.parked n s.owner) (λ b _. l.parked n b))
    l
  where
    s : Node
    s = node n

    seat : Seat
    seat = given (s.seat s.owner) to (s.epoch + 1)

-- the handover of a move says so
pub gift_good : (node : Name → Node) (n : Name) (to : AgentId) (last : ℕ) (d : RequestTable) (q : AskTable) → (node n).base ≤ (node n).epoch → last ≡ (node n).newest → PostGood (set_at names node n (moved (node n) to)) d q (letter_to to (handover n ((node n).epoch + 1) last))
gift_good node n to last d q begun is = record { sound = put_at names (λ (x : Node). (x.base < (node n).epoch + 1) × ((node n).epoch + 1 ≤ x.epoch) × (to ≡ x.went ((node n).epoch + 1)) × ((x.seat to).taken < (node n).epoch + 1 → last ≡ x.newest)) node n (moved (node n) to) (omega arith, omega arith, sym (at_same numbers (node n).went ((node n).epoch + 1) to), λ _. is); known = tt }

-- ---- what a handover releases

pub again_each : (P : Post → Type 0) (Q : Mail → Type 0) (a : AgentId) (n : Name) (epoch : ℕ) (ms : List Mail) → ((m : Mail) → Q m → P (mail_to a n epoch m.demand)) → Each Q ms → Each P (again a n epoch ms)
again_each P Q a n epoch [] f h = tt
again_each P Q a n epoch (m ∷ ms) f h = go (is_update m.demand) (again_each P Q a n epoch ms f h.1)
  where
    go : (b : Bool) → Each P (again a n epoch ms) → Each P (if b then mail_to a n epoch m.demand ∷ again a n epoch ms else again a n epoch ms)
    go true r = (f m h.0, r)
    go false r = r

pub released_each : (P : Opening → Type 0) (Q : Mail → Type 0) (a : AgentId) (n : Name) (ms : List Mail) → ((m : Mail) → Q m → is_update m.demand ≡ false → P (opening_at a n m.demand)) → Each Q ms → Each P (released a n ms)
released_each P Q a n [] f h = tt
released_each P Q a n (m ∷ ms) f h = go (is_update m.demand) refl (released_each P Q a n ms f h.1)
  where
    go : (b : Bool) → is_update m.demand ≡ b → Each P (released a n ms) → Each P (if b then released a n ms else opening_at a n m.demand ∷ released a n ms)
    go true e r = r
    go false e r = (f m h.0 e, r)

-- a handover is taken, at the owner
pub letters_take : (node : Name → Node) (n : Name) (d : RequestTable) (q : AskTable) (o : PostTable) (p : Post) → NodeGood (node n) → Letters node d q o (p ∷ []) [] →
    Letters (set_at names node n (with_seat (node n) (node n).owner (took ((node n).seat (node n).owner) (node n).epoch (node n).newest))) d q o (again (node n).owner n (node n).epoch ((node n).seat (node n).owner).parked) (released (node n).owner n ((node n).seat (node n).owner).parked)
letters_take node n d q o p good l = letters_hand node' d q o (p ∷ []) _ [] _
    (again_each (PostGood node' d q) (λ (m : Mail). KnownDemand d q n m.demand) s.owner n s.epoch parked (λ m h. record { sound = put_at names (λ (x : Node). (x.base ≤ s.epoch) × (s.epoch ≤ x.epoch) × (s.owner ≡ x.went s.epoch)) node n new (good.begun, omega arith, good.registry); known = h }) (l.parked n s.owner))
    (released_each (OpeningGood node' d q) (λ (m : Mail). KnownDemand d q n m.demand) s.owner n parked (λ m h e. record { held = put_at names IsHeld node n new held; known = h; opens = e }) (l.parked n s.owner))
    (letters_node node n new d q o (p ∷ [])
    (sound_on node n new refl (omega arith) (λ e _. refl) (λ to e k h. at_each agents (λ b (y : Seat). ((s.seat b).taken < e → k ≡ s.newest) → y.taken < e → k ≡ s.newest) s.seat s.owner seat (λ _ lt. let le = h.1 in absurd (omega arith)) (λ b _ f. f) to h.3))
    (at_each agents (λ b (y : Seat). Each (λ (x : Mail). KnownDemand d q n x.demand) y.parked) s.seat s.owner seat tt (λ b _. l.parked n b))
    l)
  where
    s : Node
    s = node n

    parked : List Mail
    parked = (s.seat s.owner).parked

    seat : Seat
    seat = took (s.seat s.owner) s.epoch s.newest

    new : Node
    new = with_seat s s.owner seat

    node' : Name → Node
    node' = set_at names node n new

    held : IsHeld new
    held = record { last = rw (at_same agents s.seat s.owner seat) refl; taken = inl (rw (at_same agents s.seat s.owner seat) refl) }

-- ---- more requests and asks

known_noted : (d : RequestTable) (q : AskTable) (m : Name) (b : Bool) (n : Name) (demand : Demand) → KnownDemand d q n demand → KnownDemand (noted d m b) q n demand
known_noted d q m b n (query r) h = let lt = h.0 in (omega arith, at_other numbers d.target d.count m r (omega arith) ∙ h.1, at_other numbers d.updates d.count b r (omega arith) ∙ h.2)
known_noted d q m b n (update r number) h = let lt = h.0 in (omega arith, at_other numbers d.target d.count m r (omega arith) ∙ h.1, at_other numbers d.updates d.count b r (omega arith) ∙ h.2)
known_noted d q m b n (ask i from rank) h = h

pub info_older : (q : AskTable) (a : AgentId) (g : ℕ) (need : Need) (i : ℕ) → i < q.count → (asking q a g need).info i ≡ q.info i
info_older q a g need i lt = at_other numbers q.info q.count (record { agent = a; gather = g; node = need.node; rank = need.rank }) i (omega arith)

known_asking : (d : RequestTable) (q : AskTable) (a : AgentId) (g : ℕ) (need : Need) (n : Name) (demand : Demand) → KnownDemand d q n demand → KnownDemand d (asking q a g need) n demand
known_asking d q a g need n (query r) h = h
known_asking d q a g need n (update r number) h = h
known_asking d q a g need n (ask i from rank) h =
    let lt = h.0 in
    let v = subst (λ (v : Info). (v.agent ≡ from) × (v.node ≡ n) × (v.rank ≡ rank)) (sym (info_older q a g need i lt)) (h.1, h.2, h.3) in
    (omega arith, v.0, v.1, v.2)

letters_grow : (node : Name → Node) (d d' : RequestTable) (q q' : AskTable) (o : PostTable) → ((n : Name) (demand : Demand) → KnownDemand d q n demand → KnownDemand d' q' n demand) → ((to : AgentId) (i : ℕ) → (i < q.count) × (to ≡ (q.info i).agent) → (i < q'.count) × (to ≡ (q'.info i).agent)) → Letters node d q o [] [] → Letters node d' q' o [] []
letters_grow node d d' q q' o known replies l = record {
  fresh = l.fresh;
  kept = λ k. OfSome-weaker _ _ (o.post k) (λ p h. record { sound = h.sound; known = letter p.to p.letter h.known }) (l.kept k);
  comes = tt;
  parked = λ n a. Each-weaker _ _ ((node n).seat a).parked (λ (m : Mail) h. known n m.demand h) (l.parked n a);
  free = tt;
}
  where
    letter : (to : AgentId) (x : Letter) → KnownLetter d q to x → KnownLetter d' q' to x
    letter to (mail n m) h = known n m.demand h
    letter to (reply i) h = replies to i h
    letter to (handover n e k) h = tt

pub letters_noted : (node : Name → Node) (d : RequestTable) (q : AskTable) (o : PostTable) (n : Name) (b : Bool) → Letters node d q o [] [] → Letters node (noted d n b) q o [] []
letters_noted node d q o n b = letters_grow node d (noted d n b) q q o (known_noted d q n b) (λ to i h. h)

pub letters_asking : (node : Name → Node) (d : RequestTable) (q : AskTable) (o : PostTable) (a : AgentId) (g : ℕ) (need : Need) → Letters node d q o [] [] → Letters node d (asking q a g need) o [] []
letters_asking node d q o a g need = letters_grow node d d q (asking q a g need) o (known_asking d q a g need)
    (λ to i h. let lt = h.0 in (omega arith, subst (λ (v : Info). to ≡ v.agent) (sym (info_older q a g need i lt)) h.1))
