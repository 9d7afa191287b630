-- Gathers: what each part of an event leaves.
use Rattle.std.proofs.Common.{◌≡◌, ◌≢◌, ◌⊎◌, ℕ, suc, ◌<◌, ◌≤◌, Bool, true, false, nat_eq, if◌then◌else◌, List, [], ◌∷◌, ◌++◌, map, Option, Some, None, refl, sym, ap, ◌∙◌, subst, inl, inr, arith}
use Rattle.iris_protocol.specs.Table.{agents, numbers, Name, AgentId, names, set_at, set_in, OfSome, Each, Among, Distinct}
use Rattle.iris_protocol.specs.World.{ask, ask_key, key, Mail, mail, reply, Post, Opening, letter_to, mail_to, Node, Parent, client, asker, Gather, new_gather, with_lent, with_ask, without, answered_of, PostTable, Info, AskTable, Need, asking}
use Rattle.iris_protocol.specs.Good.{IsUndelivered, Sent, Waiting, parent_at, pending_at, Pending, Serving, IsAskOf, ParentGood, node_of, GatherGood, Replied, Gathers}
use Rattle.iris_protocol.proofs.Tables.{ne_of, split, at_same, at_other, at_each, in_each, in_same, in_other, of_some, OfSome-weaker, Each-weaker, Each-append, Each-at, Among-append, map_append, map_same}
use Rattle.iris_protocol.proofs.PostTable.{fly_more, fly_other, sent_by, sent_rest, sent_other, mail_not_reply, same_reply}
use Rattle.iris_protocol.proofs.Letters.{info_older}

-- where an ask is that is known to an agent
abbrev pub Answering : (Name → Node) → (AgentId → ℕ → Option Gather) → PostTable → List Post → List Opening → AskTable → ℕ → AgentId → Type 0
Answering node gather o coming openings q i a = Waiting node openings a (ask_key i) ⊎ Serving gather a i ⊎ Replied o coming q i

-- the gathers change, and where their asks are
pub gathers_by : (node node' : Name → Node) (q : AskTable) (gather gather' : AgentId → ℕ → Option Gather) (count count' : ℕ) (place place' : ℕ → AgentId) (knows : AgentId → ℕ → Bool) (o o' : PostTable) (coming coming' : List Post) (openings openings' : List Opening) →
    ((a : AgentId) (g : ℕ) → count' ≤ g → gather' a g ≡ None) → ((a : AgentId) (g : ℕ) → OfSome (GatherGood q place' a g) (gather' a g)) →
    ((i : ℕ) → Pending gather' i → Pending gather i) →
    ((i : ℕ) → Pending gather' i → Sent o coming (ask_key i) → Sent o' coming' (ask_key i) ⊎ ((a : AgentId) × (knows a i ≡ true))) →
    ((i : ℕ) (a : AgentId) → Pending gather' i → Answering node gather o coming openings q i a → Answering node' gather' o' coming' openings' q i a) →
    Gathers node q gather count place knows o coming openings → Gathers node' q gather' count' place' knows o' coming' openings'
gathers_by node node' q gather gather' count count' place place' knows o o' coming coming' openings openings' fresh kept pend sent answer g = record {
  fresh = fresh;
  kept = kept;
  known = g.known;
  carried = λ i p. go i p (g.carried i (pend i p));
  held = λ i a p k. answer i a p (g.held i a (pend i p) k);
}
  where
    go : (i : ℕ) → Pending gather' i → Sent o coming (ask_key i) ⊎ ((a : AgentId) × (knows a i ≡ true)) → Sent o' coming' (ask_key i) ⊎ ((a : AgentId) × (knows a i ≡ true))
    go i p (inl s) = sent i p s
    go i p (inr k) = inr k

-- the gathers stay
pub gathers_sent : (node node' : Name → Node) (q : AskTable) (gather : AgentId → ℕ → Option Gather) (count : ℕ) (place : ℕ → AgentId) (knows : AgentId → ℕ → Bool) (o o' : PostTable) (coming coming' : List Post) (openings openings' : List Opening) →
    ((i : ℕ) → Sent o coming (ask_key i) → Sent o' coming' (ask_key i) ⊎ ((a : AgentId) × (knows a i ≡ true))) →
    ((i : ℕ) (a : AgentId) → Waiting node openings a (ask_key i) → Waiting node' openings' a (ask_key i)) →
    ((i : ℕ) → Replied o coming q i → Replied o' coming' q i) →
    Gathers node q gather count place knows o coming openings → Gathers node' q gather count place knows o' coming' openings'
gathers_sent node node' q gather count place knows o o' coming coming' openings openings' sent wait replied g = gathers_by node node' q gather gather count count place place knows o o' coming coming' openings openings' g.fresh g.kept (λ i p. p) (λ i p. sent i) answer g
  where
    answer : (i : ℕ) (a : AgentId) → Pending gather i → Answering node gather o coming openings q i a → Answering node' gather o' coming' openings' q i a
    answer i a p (inl h) = inl (wait i a h)
    answer i a p (inr (inl h)) = inr (inl h)
    answer i a p (inr (inr h)) = inr (inr (replied i h))

-- other posts are under way, all that were among them
pub gathers_fly : (node : Name → Node) (q : AskTable) (gather : AgentId → ℕ → Option Gather) (count : ℕ) (place : ℕ → AgentId) (knows : AgentId → ℕ → Bool) (o o' : PostTable) (coming coming' : List Post) (openings : List Opening) → ((p : Post) → IsUndelivered o coming p → IsUndelivered o' coming' p) →
    Gathers node q gather count place knows o coming openings → Gathers node q gather count place knows o' coming' openings
gathers_fly node q gather count place knows o o' coming coming' openings fly = gathers_sent node node q gather count place knows o o' coming coming' openings openings (λ i s. inl (sent_by o o' coming coming' (ask_key i) fly s)) (λ i a h. h) (λ i. fly _)

-- ---- a message in hand

-- a query or an update, or an ask that is known somewhere, is dropped, parked or served
pub gathers_drop : (node node' : Name → Node) (q : AskTable) (gather : AgentId → ℕ → Option Gather) (count : ℕ) (place : ℕ → AgentId) (knows : AgentId → ℕ → Bool) (o : PostTable) (a : AgentId) (n : Name) (m : Mail) (openings openings' : List Opening) →
    ((i : ℕ) → key m.demand ≡ ask_key i → (b : AgentId) × (knows b i ≡ true)) → ((i : ℕ) (b : AgentId) → Waiting node openings b (ask_key i) → Waiting node' openings' b (ask_key i)) →
    Gathers node q gather count place knows o (letter_to a (mail n m) ∷ []) openings → Gathers node' q gather count place knows o [] openings'
gathers_drop node node' q gather count place knows o a n m openings openings' known wait = gathers_sent node node' q gather count place knows o o (letter_to a (mail n m) ∷ []) [] openings openings' (λ i s. go i (sent_rest o (letter_to a (mail n m)) [] (ask_key i) s)) wait (λ i. fly_other o (letter_to a (mail n m)) [] _ (mail_not_reply a n m _ i))
  where
    go : (i : ℕ) → (key m.demand ≡ ask_key i) ⊎ Sent o [] (ask_key i) → Sent o [] (ask_key i) ⊎ ((b : AgentId) × (knows b i ≡ true))
    go i (inl e) = inr (known i e)
    go i (inr s) = inl s

-- what an agent knows after it has learnt of one more ask
learnt : (f : AgentId → ℕ → Bool) (a : AgentId) (i : ℕ) (b : AgentId) (j : ℕ) → set_in f a i true b j ≡ true → ((b ≡ a) × (j ≡ i)) ⊎ (f b j ≡ true)
learnt f a i b j = in_each (λ c k (v : Bool). v ≡ true → ((c ≡ a) × (k ≡ i)) ⊎ (f c k ≡ true)) f a i true (λ _. inl (refl, refl)) (λ c k _ e. inr e) b j

knows_more : (f : AgentId → ℕ → Bool) (a : AgentId) (i : ℕ) (b : AgentId) (j : ℕ) → f b j ≡ true → set_in f a i true b j ≡ true
knows_more f a i b j = in_each (λ c k (v : Bool). f c k ≡ true → v ≡ true) f a i true (λ _. refl) (λ c k _ e. e) b j

-- an agent learns of an ask, which waits there
pub gathers_learn : (node node' : Name → Node) (q : AskTable) (gather : AgentId → ℕ → Option Gather) (count : ℕ) (place : ℕ → AgentId) (knows : AgentId → ℕ → Bool) (o : PostTable) (a : AgentId) (n : Name) (i : ℕ) (m : Mail) (openings openings' : List Opening) →
    key m.demand ≡ ask_key i → i < q.count → Waiting node' openings' a (ask_key i) → ((j : ℕ) (b : AgentId) → Waiting node openings b (ask_key j) → Waiting node' openings' b (ask_key j)) →
    Gathers node q gather count place knows o (letter_to a (mail n m) ∷ []) openings → Gathers node' q gather count place (set_in knows a i true) o [] openings'
gathers_learn node node' q gather count place knows o a n i m openings openings' is lt it wait g = record {
  fresh = g.fresh;
  kept = g.kept;
  known = λ b j e. known b j (learnt knows a i b j e);
  carried = λ j p. carried j (g.carried j p);
  held = λ j b p k. held j b p (learnt knows a i b j k);
}
  where
    p0 : Post
    p0 = letter_to a (mail n m)

    known : (b : AgentId) (j : ℕ) → ((b ≡ a) × (j ≡ i)) ⊎ (knows b j ≡ true) → j < q.count
    known b j (inl s) = let same = s.1 in omega arith
    known b j (inr k) = g.known b j k

    sent : (j : ℕ) → (key m.demand ≡ ask_key j) ⊎ Sent o [] (ask_key j) → Sent o [] (ask_key j) ⊎ ((b : AgentId) × (set_in knows a i true b j ≡ true))
    sent j (inl e) = inr (a, let x : ask_key i ≡ ask_key j = sym is ∙ e in let y : i ≡ j = cc in subst (λ (k : ℕ). set_in knows a i true a k ≡ true) y (in_same knows a i true))
    sent j (inr s) = inl s

    carried : (j : ℕ) → Sent o (p0 ∷ []) (ask_key j) ⊎ ((b : AgentId) × (knows b j ≡ true)) → Sent o [] (ask_key j) ⊎ ((b : AgentId) × (set_in knows a i true b j ≡ true))
    carried j (inl s) = sent j (sent_rest o p0 [] (ask_key j) s)
    carried j (inr (b, k)) = inr (b, knows_more knows a i b j k)

    older : (j : ℕ) (b : AgentId) → Answering node gather o (p0 ∷ []) openings q j b → Answering node' gather o [] openings' q j b
    older j b (inl h) = inl (wait j b h)
    older j b (inr (inl h)) = inr (inl h)
    older j b (inr (inr h)) = inr (inr (fly_other o p0 [] _ (mail_not_reply a n m _ j) h))

    held : (j : ℕ) (b : AgentId) → Pending gather j → ((b ≡ a) × (j ≡ i)) ⊎ (knows b j ≡ true) → Answering node' gather o [] openings' q j b
    held j b p (inl same) = inl (subst (λ (c : AgentId). Waiting node' openings' c (ask_key j)) (sym same.0) (subst (λ (k : ℕ). Waiting node' openings' a (ask_key k)) (sym same.1) it))
    held j b p (inr k) = older j b (g.held j b p k)

-- ---- gathers open and end

-- what is pending in a table where one gather is another
pub pending_set : (gather : AgentId → ℕ → Option Gather) (a : AgentId) (g : ℕ) (x : Option Gather) (i : ℕ) → Pending (set_in gather a g x) i → Among (λ (j : ℕ). j ≡ i) (pending_at x) ⊎ Pending gather i
pending_set gather a g x i p = in_each (λ b h (y : Option Gather). Among (λ (j : ℕ). j ≡ i) (pending_at y) → Among (λ (j : ℕ). j ≡ i) (pending_at x) ⊎ Pending gather i) gather a g x (λ m. inl m) (λ b h _ m. inr (b, h, m)) p.0 p.1 p.2

-- the others serve on
serving_on : (gather : AgentId → ℕ → Option Gather) (a : AgentId) (g : ℕ) (x : Option Gather) (b : AgentId) (i : ℕ) → ((from : AgentId) → parent_at (gather a g) ≡ Some (asker i from) → parent_at x ≡ Some (asker i from)) → Serving gather b i → Serving (set_in gather a g x) b i
serving_on gather a g x b i same s = (s.0, s.1, in_each (λ c h (y : Option Gather). parent_at (gather c h) ≡ Some (asker i s.1) → parent_at y ≡ Some (asker i s.1)) gather a g x (same s.1) (λ c h _ e. e) b s.0 s.2)

-- a gather is opened
pub gathers_open : (node : Name → Node) (q : AskTable) (gather : AgentId → ℕ → Option Gather) (count : ℕ) (place : ℕ → AgentId) (knows : AgentId → ℕ → Bool) (o : PostTable) (coming : List Post) (f : Opening) (fs : List Opening) (rank : ℕ) (parent : Parent) →
    ParentGood q rank parent → ((i : ℕ) → key f.demand ≡ ask_key i → (from : AgentId) × (parent ≡ asker i from)) →
    Gathers node q gather count place knows o coming (f ∷ fs) → Gathers node q (set_in gather f.agent count (Some (new_gather rank parent))) (suc count) (set_at numbers place count f.agent) knows o coming fs
gathers_open node q gather count place knows o coming f fs rank parent good is g = gathers_by node node q gather gather' count (suc count) place (set_at numbers place count f.agent) knows o o coming coming (f ∷ fs) fs
    (in_each (λ b h (x : Option Gather). suc count ≤ h → x ≡ None) gather f.agent count new (λ le. absurd (omega arith)) (λ b h _ le. g.fresh b h (omega arith)))
    (in_each (λ b h (x : Option Gather). OfSome (GatherGood q (set_at numbers place count f.agent) b h) x) gather f.agent count new
    (record { here = at_same numbers place count f.agent; pending = tt; names = tt; parent = good; lent = λ e. refl })
    (λ b h _. old b h (gather b h) refl (g.kept b h)))
    (λ i p. was i (pending_set gather f.agent count new i p))
    (λ i p s. inl s)
    (λ i b p. answer i b)
    g
  where
    new : Option Gather
    new = Some (new_gather rank parent)

    gather' : AgentId → ℕ → Option Gather
    gather' = set_in gather f.agent count new

    old : (b : AgentId) (h : ℕ) (x : Option Gather) → gather b h ≡ x → OfSome (GatherGood q place b h) x → OfSome (GatherGood q (set_at numbers place count f.agent) b h) x
    old b h None e k = tt
    old b h (Some x) e k = record { here = at_other numbers place count f.agent h (λ same. let y = g.fresh b h (omega arith) in cc) ∙ k.here; pending = k.pending; names = k.names; parent = k.parent; lent = k.lent }

    was : (i : ℕ) → ⊥ ⊎ Pending gather i → Pending gather i
    was i (inl m) = absurd m
    was i (inr p) = p

    serves : (i : ℕ) (b : AgentId) → Serving gather b i → Serving gather' b i
    serves i b = serving_on gather f.agent count new b i (λ from e. absurd (let x = ap parent_at (g.fresh f.agent count (omega arith)) in cc))

    it : (i : ℕ) (b : AgentId) → f.agent ≡ b → (from : AgentId) × (parent ≡ asker i from) → Serving gather' b i
    it i b same h = subst (λ (c : AgentId). Serving gather' c i) same (count, h.0, ap parent_at (in_same gather f.agent count new) ∙ ap Some h.1)

    answer : (i : ℕ) (b : AgentId) → Answering node gather o coming (f ∷ fs) q i b → Answering node gather' o coming fs q i b
    answer i b (inl (inl p)) = inl (inl p)
    answer i b (inl (inr (inl e))) = inr (inl (it i b e.0 (is i e.1)))
    answer i b (inl (inr (inr p))) = inl (inr p)
    answer i b (inr (inl s)) = inr (inl (serves i b s))
    answer i b (inr (inr r)) = inr (inr r)

-- a gather ends
pub gathers_close : (node : Name → Node) (q : AskTable) (gather : AgentId → ℕ → Option Gather) (count : ℕ) (place : ℕ → AgentId) (knows : AgentId → ℕ → Bool) (o : PostTable) (coming : List Post) (a : AgentId) (g : ℕ) →
    ((i : ℕ) (from : AgentId) → parent_at (gather a g) ≡ Some (asker i from) → Replied o coming q i) →
    Gathers node q gather count place knows o [] [] → Gathers node q (set_in gather a g None) count place knows o coming []
gathers_close node q gather count place knows o coming a g reply_of k = gathers_by node node q gather gather' count count place place knows o o [] coming [] []
    (in_each (λ b h (x : Option Gather). count ≤ h → x ≡ None) gather a g None (λ _. refl) (λ b h _. k.fresh b h))
    (in_each (λ b h (x : Option Gather). OfSome (GatherGood q place b h) x) gather a g None tt (λ b h _. k.kept b h))
    (λ i p. was i (pending_set gather a g None i p))
    (λ i p s. inl (sent_by o o [] coming (ask_key i) (fly_more o coming) s))
    (λ i b p. answer i b)
    k
  where
    gather' : AgentId → ℕ → Option Gather
    gather' = set_in gather a g None

    was : (i : ℕ) → ⊥ ⊎ Pending gather i → Pending gather i
    was i (inl m) = absurd m
    was i (inr p) = p

    serves : (i : ℕ) (b : AgentId) (s : Serving gather b i) → (b ≡ a) ⊎ (b ≢ a) → (s.0 ≡ g) ⊎ (s.0 ≢ g) → Answering node gather' o coming [] q i b
    serves i b s (inr ne) _ = inr (inl (s.0, s.1, ap parent_at (in_other gather a g None b s.0 (λ e. absurd (ne e))) ∙ s.2))
    serves i b s (inl same) (inr ne) = inr (inl (s.0, s.1, ap parent_at (in_other gather a g None b s.0 (λ _. ne)) ∙ s.2))
    serves i b s (inl same) (inl at) = inr (inr (reply_of i s.1 (subst (λ (h : ℕ). parent_at (gather a h) ≡ Some (asker i s.1)) at (subst (λ (c : AgentId). parent_at (gather c s.0) ≡ Some (asker i s.1)) same s.2))))

    answer : (i : ℕ) (b : AgentId) → Answering node gather o [] [] q i b → Answering node gather' o coming [] q i b
    answer i b (inl h) = inl h
    answer i b (inr (inl s)) = serves i b s (split agents b a) (split numbers s.0 g)
    answer i b (inr (inr r)) = inr (inr (fly_more o coming _ r))

-- ---- a gather changes

-- it is lent, or is so no more
pub gathers_lent : (node : Name → Node) (q : AskTable) (gather : AgentId → ℕ → Option Gather) (count : ℕ) (place : ℕ → AgentId) (knows : AgentId → ℕ → Bool) (o : PostTable) (a : AgentId) (g : ℕ) (x : Gather) (b : Bool) →
    gather a g ≡ Some x → x.pending ≡ [] → Gathers node q gather count place knows o [] [] → Gathers node q (set_in gather a g (Some (with_lent x b))) count place knows o [] []
gathers_lent node q gather count place knows o a g x b is none k = gathers_by node node q gather gather' count count place place knows o o [] [] [] []
    (in_each (λ c h (y : Option Gather). count ≤ h → y ≡ None) gather a g (Some (with_lent x b)) (λ le. absurd (let y = k.fresh a g le in cc)) (λ c h _. k.fresh c h))
    (in_each (λ c h (y : Option Gather). OfSome (GatherGood q place c h) y) gather a g (Some (with_lent x b)) (let old = of_some (GatherGood q place a g) (gather a g) x is (k.kept a g) in record { here = old.here; pending = old.pending; names = old.names; parent = old.parent; lent = λ _. none }) (λ c h _. k.kept c h))
    (λ i p. was i (pending_set gather a g (Some (with_lent x b)) i p))
    (λ i p s. inl s)
    (λ i c p. answer i c)
    k
  where
    gather' : AgentId → ℕ → Option Gather
    gather' = set_in gather a g (Some (with_lent x b))

    was : (i : ℕ) → Among (λ (j : ℕ). j ≡ i) x.pending ⊎ Pending gather i → Pending gather i
    was i (inl m) = absurd (subst (λ (js : List ℕ). Among (λ (j : ℕ). j ≡ i) js) none m)
    was i (inr p) = p

    answer : (i : ℕ) (c : AgentId) → Answering node gather o [] [] q i c → Answering node gather' o [] [] q i c
    answer i c (inl h) = inl h
    answer i c (inr (inl s)) = inr (inl (serving_on gather a g (Some (with_lent x b)) c i (λ from e. sym (ap parent_at is) ∙ e) s))
    answer i c (inr (inr r)) = inr (inr r)

-- ---- a reply

without_each : (P : ℕ → Type 0) (i : ℕ) (js : List ℕ) → Each P js → Each P (without i js)
without_each P i [] h = tt
without_each P i (j ∷ js) h = go (nat_eq j i) (without_each P i js h.1)
  where
    go : (b : Bool) → Each P (without i js) → Each P (if b then without i js else j ∷ without i js)
    go true r = r
    go false r = (h.0, r)

without_map : {A : Type 0} (P : A → Type 0) (f : ℕ → A) (i : ℕ) (js : List ℕ) → Among P (map f (without i js)) → Among P (map f js)
without_map P f i [] h = h
without_map P f i (j ∷ js) h = go (nat_eq j i) h (without_map P f i js)
  where
    go : (b : Bool) → Among P (map f (if b then without i js else j ∷ without i js)) → (Among P (map f (without i js)) → Among P (map f js)) → Among P (map f (j ∷ js))
    go true m ih = inr (ih m)
    go false (inl e) ih = inl e
    go false (inr m) ih = inr (ih m)

without_distinct : {A : Type 0} (f : ℕ → A) (i : ℕ) (js : List ℕ) → Distinct (map f js) → Distinct (map f (without i js))
without_distinct f i [] h = tt
without_distinct f i (j ∷ js) h = go (nat_eq j i) (without_distinct f i js h.1)
  where
    go : (b : Bool) → Distinct (map f (without i js)) → Distinct (map f (if b then without i js else j ∷ without i js))
    go true r = r
    go false r = (λ m. h.0 (without_map (λ y. y ≡ f j) f i js m), r)

without_among : (i k : ℕ) (js : List ℕ) → Among (λ (j : ℕ). j ≡ k) (without i js) → Among (λ (j : ℕ). j ≡ k) js × (k ≢ i)
without_among i k [] h = absurd h
without_among i k (j ∷ js) h = go (nat_eq j i) refl (without_among i k js) h
  where
    go : (b : Bool) → nat_eq j i ≡ b → (Among (λ (j : ℕ). j ≡ k) (without i js) → Among (λ (j : ℕ). j ≡ k) js × (k ≢ i)) → Among (λ (j : ℕ). j ≡ k) (if b then without i js else j ∷ without i js) → Among (λ (j : ℕ). j ≡ k) (j ∷ js) × (k ≢ i)
    go true e ih r = let t = ih r in (inr t.0, t.1)
    go false e ih (inr r) = let t = ih r in (inr t.0, t.1)
    go false e ih (inl same) = (inl same, λ k_is. ne_of numbers j i e (same ∙ k_is))

-- the gather that a pending ask is of
pub pending_of : (q : AskTable) (place : ℕ → AgentId) (a : AgentId) (g : ℕ) (x : Option Gather) (i : ℕ) → OfSome (GatherGood q place a g) x → Among (λ (j : ℕ). j ≡ i) (pending_at x) → (y : Gather) × (x ≡ Some y) × IsAskOf q a g y.rank i
pending_of q place a g None i h m = absurd m
pending_of q place a g (Some y) i h m = (y, refl, Each-at (IsAskOf q a g y.rank) y.pending i h.pending m)

pub answered_parent : (i : ℕ) (x : Option Gather) → parent_at (answered_of i x) ≡ parent_at x
answered_parent i None = refl
answered_parent i (Some x) = refl

-- after a reply to it, an ask is pending no more: the agent that asked alone has it pending
pub replied_less : (q : AskTable) (place : ℕ → AgentId) (gather : AgentId → ℕ → Option Gather) (a : AgentId) (i : ℕ) → a ≡ (q.info i).agent → ((b : AgentId) (g : ℕ) → OfSome (GatherGood q place b g) (gather b g)) → (j : ℕ) → Pending (set_at agents gather a (λ g. answered_of i (gather a g))) j → Pending gather j × (j ≢ i)
replied_less q place gather a i is kept j p = at_each agents (λ b (s : ℕ → Option Gather). Among (λ (l : ℕ). l ≡ j) (pending_at (s p.1)) → Pending gather j × (j ≢ i)) gather a (λ g. answered_of i (gather a g))
    (λ m. let t = less (gather a p.1) m in ((a, p.1, t.0), t.1))
    (λ b ne m. ((b, p.1, m), apart b ne m)) p.0 p.2
  where
    less : (x : Option Gather) → Among (λ (l : ℕ). l ≡ j) (pending_at (answered_of i x)) → Among (λ (l : ℕ). l ≡ j) (pending_at x) × (j ≢ i)
    less None m = absurd m
    less (Some x) m = without_among i j x.pending m

    apart : (b : AgentId) → b ≢ a → Among (λ (l : ℕ). l ≡ j) (pending_at (gather b p.1)) → j ≢ i
    apart b ne m same = let t = (pending_of q place b p.1 (gather b p.1) j (kept b p.1) m).2 in ne (sym t.1 ∙ ap (λ (l : ℕ). (q.info l).agent) same ∙ sym is)

-- a reply in coming is taken, or is not waited for
pub gathers_reply : (node : Name → Node) (q : AskTable) (gather : AgentId → ℕ → Option Gather) (count : ℕ) (place : ℕ → AgentId) (knows : AgentId → ℕ → Bool) (o : PostTable) (a : AgentId) (i : ℕ) → a ≡ (q.info i).agent →
    Gathers node q gather count place knows o (letter_to a (reply i) ∷ []) [] → Gathers node q (set_at agents gather a (λ g. answered_of i (gather a g))) count place knows o [] []
gathers_reply node q gather count place knows o a i is k = gathers_by node node q gather gather' count count place place knows o o (letter_to a (reply i) ∷ []) [] [] []
    (at_each agents (λ b (row : ℕ → Option Gather). (h : ℕ) → count ≤ h → row h ≡ None) gather a row (λ h le. ap (answered_of i) (k.fresh a h le)) (λ b _. k.fresh b))
    (at_each agents (λ b (row : ℕ → Option Gather). (h : ℕ) → OfSome (GatherGood q place b h) (row h)) gather a row (λ h. good h (gather a h) (k.kept a h)) (λ b _. k.kept b))
    (λ j p. (was j p).0)
    (λ j p s. inl (sent_other o (letter_to a (reply i)) [] (ask_key j) (λ x. x) s))
    (λ j b p. answer j b (was j p).1)
    k
  where
    row : ℕ → Option Gather
    row g = answered_of i (gather a g)

    gather' : AgentId → ℕ → Option Gather
    gather' = set_at agents gather a row

    good : (h : ℕ) (x : Option Gather) → OfSome (GatherGood q place a h) x → OfSome (GatherGood q place a h) (answered_of i x)
    good h None old = tt
    good h (Some x) old = record { here = old.here; pending = without_each (IsAskOf q a h x.rank) i x.pending old.pending; names = without_distinct (node_of q) i x.pending old.names; parent = old.parent; lent = λ e. ap (without i) (old.lent e) }

    was : (j : ℕ) → Pending gather' j → Pending gather j × (j ≢ i)
    was = replied_less q place gather a i is k.kept

    answer : (j : ℕ) (b : AgentId) → j ≢ i → Answering node gather o (letter_to a (reply i) ∷ []) [] q j b → Answering node gather' o [] [] q j b
    answer j b ne (inl h) = inl h
    answer j b ne (inr (inl s)) = inr (inl (s.0, s.1, at_each agents (λ c (r : ℕ → Option Gather). parent_at (gather c s.0) ≡ Some (asker j s.1) → parent_at (r s.0) ≡ Some (asker j s.1)) gather a row (λ e. answered_parent i (gather a s.0) ∙ e) (λ c _ e. e) b s.2))
    answer j b ne (inr (inr r)) = inr (inr (fly_other o (letter_to a (reply i)) [] _ (λ e. ne (sym (same_reply a i _ j e))) r))

-- ---- a gather asks

parent_grown : (q : AskTable) (a : AgentId) (g : ℕ) (need : Need) (rank : ℕ) (parent : Parent) → ParentGood q rank parent → ParentGood (asking q a g need) rank parent
parent_grown q a g need rank (client r) h = h
parent_grown q a g need rank (asker i from) h =
    let lt = h.0 in
    let v = subst (λ (y : Info). (y.agent ≡ from) × (y.rank ≡ rank)) (sym (info_older q a g need i lt)) (h.1, h.2) in
    (omega arith, v.0, v.1)

ask_grown : (q : AskTable) (a : AgentId) (g : ℕ) (need : Need) (b : AgentId) (h rank i : ℕ) → IsAskOf q b h rank i → IsAskOf (asking q a g need) b h rank i
ask_grown q a g need b h rank i p =
    let lt = p.0 in
    let v = subst (λ (y : Info). (y.agent ≡ b) × (y.gather ≡ h) × (y.rank < rank)) (sym (info_older q a g need i lt)) (p.1, p.2, p.3) in
    (omega arith, v.0, v.1, v.2)

-- the names of asks that were made before
pub names_grown : (q : AskTable) (a : AgentId) (g : ℕ) (need : Need) (b : AgentId) (h rank : ℕ) (is : List ℕ) → Each (IsAskOf q b h rank) is → map (node_of (asking q a g need)) is ≡ map (node_of q) is
names_grown q a g need b h rank is old = map_same (node_of (asking q a g need)) (node_of q) is (Each-weaker _ _ is (λ i p. ap (λ (v : Info). v.node) (info_older q a g need i p.0)) old)

pub names_asked : (q : AskTable) (a : AgentId) (g : ℕ) (need : Need) (b : AgentId) (h rank : ℕ) (is : List ℕ) → Each (IsAskOf q b h rank) is → map (node_of (asking q a g need)) (is ++ q.count ∷ []) ≡ map (node_of q) is ++ need.node ∷ []
names_asked q a g need b h rank is old = map_append (node_of (asking q a g need)) is q.count ∙ (λ k. names_grown q a g need b h rank is old k ++ (at_same numbers q.info q.count (record { agent = a; gather = g; node = need.node; rank = need.rank }) k).node ∷ [])

pub gathers_ask : (node : Name → Node) (q : AskTable) (gather : AgentId → ℕ → Option Gather) (count : ℕ) (place : ℕ → AgentId) (knows : AgentId → ℕ → Bool) (o : PostTable) (a : AgentId) (g : ℕ) (x : Gather) (need : Need) (to : AgentId) (epoch : ℕ) →
    gather a g ≡ Some x → x.lent ≡ false → need.rank < x.rank → Distinct (map (node_of q) x.pending ++ need.node ∷ []) →
    Gathers node q gather count place knows o [] [] → Gathers node (asking q a g need) (set_in gather a g (Some (with_ask x q.count))) count place knows o (mail_to to need.node epoch (ask q.count a need.rank) ∷ []) []
gathers_ask node q gather count place knows o a g x need to epoch is awake lower names k = record {
  fresh = in_each (λ c h (y : Option Gather). count ≤ h → y ≡ None) gather a g new (λ le. absurd (let y = k.fresh a g le in cc)) (λ c h _. k.fresh c h);
  kept = in_each (λ c h (y : Option Gather). OfSome (GatherGood q' place c h) y) gather a g new
      (record {
        here = old.here;
        pending = Each-append (IsAskOf q' a g x.rank) x.pending q.count (Each-weaker _ _ x.pending (ask_grown q a g need a g x.rank) old.pending) it;
        names = subst (λ (ns : List Name). Distinct ns) (sym (names_asked q a g need a g x.rank x.pending old.pending)) names;
        parent = parent_grown q a g need x.rank x.parent old.parent;
        lent = λ e. absurd (cc);
      })
      (λ c h _. OfSome-weaker _ _ (gather c h) (grown c h) (k.kept c h));
  known = λ c i e. let lt = k.known c i e in omega arith;
  carried = λ i p. carried i (from i p);
  held = λ i c p e. held i c e (from i p);
}
  where
    q' : AskTable
    q' = asking q a g need

    new : Option Gather
    new = Some (with_ask x q.count)

    gather' : AgentId → ℕ → Option Gather
    gather' = set_in gather a g new

    coming : List Post
    coming = mail_to to need.node epoch (ask q.count a need.rank) ∷ []

    old : GatherGood q place a g x
    old = of_some (GatherGood q place a g) (gather a g) x is (k.kept a g)

    it : IsAskOf q' a g x.rank q.count
    it = let v = subst (λ (y : Info). (y.agent ≡ a) × (y.gather ≡ g) × (y.rank < x.rank)) (sym (at_same numbers q.info q.count (record { agent = a; gather = g; node = need.node; rank = need.rank }))) (refl, refl, lower) in (omega arith, v.0, v.1, v.2)

    grown : (c : AgentId) (h : ℕ) (y : Gather) → GatherGood q place c h y → GatherGood q' place c h y
    grown c h y p = record {
      here = p.here;
      pending = Each-weaker _ _ y.pending (ask_grown q a g need c h y.rank) p.pending;
      names = subst (λ (ns : List Name). Distinct ns) (sym (names_grown q a g need c h y.rank y.pending p.pending)) p.names;
      parent = parent_grown q a g need y.rank y.parent p.parent;
      lent = p.lent;
    }

    -- a pending ask is new, or was pending
    from : (i : ℕ) → Pending gather' i → (q.count ≡ i) ⊎ Pending gather i
    from i p = go (pending_set gather a g new i p)
      where
        last : Among (λ (j : ℕ). j ≡ i) x.pending ⊎ (q.count ≡ i) → (q.count ≡ i) ⊎ Pending gather i
        last (inl m) = inr (a, g, subst (λ (y : Option Gather). Among (λ (j : ℕ). j ≡ i) (pending_at y)) (sym is) m)
        last (inr e) = inl e

        go : Among (λ (j : ℕ). j ≡ i) (x.pending ++ q.count ∷ []) ⊎ Pending gather i → (q.count ≡ i) ⊎ Pending gather i
        go (inl m) = last (Among-append (λ (j : ℕ). j ≡ i) x.pending q.count m)
        go (inr r) = inr r

    sent : (i : ℕ) → Sent o [] (ask_key i) ⊎ ((c : AgentId) × (knows c i ≡ true)) → Sent o coming (ask_key i) ⊎ ((c : AgentId) × (knows c i ≡ true))
    sent i (inl s) = inl (sent_by o o [] coming (ask_key i) (fly_more o coming) s)
    sent i (inr h) = inr h

    carried : (i : ℕ) → (q.count ≡ i) ⊎ Pending gather i → Sent o coming (ask_key i) ⊎ ((c : AgentId) × (knows c i ≡ true))
    carried i (inl e) = inl (mail_to to need.node epoch (ask q.count a need.rank), inr (inl refl), ap ask_key e)
    carried i (inr p) = sent i (k.carried i p)

    older : (i : ℕ) (c : AgentId) → i < q.count → Answering node gather o [] [] q i c → Answering node gather' o coming [] q' i c
    older i c lt (inl h) = inl h
    older i c lt (inr (inl s)) = inr (inl (serving_on gather a g new c i (λ f e. sym (ap parent_at is) ∙ e) s))
    older i c lt (inr (inr r)) = inr (inr (subst (λ (v : Info). IsUndelivered o coming (letter_to v.agent (reply i))) (sym (info_older q a g need i lt)) (fly_more o coming _ r)))

    held : (i : ℕ) (c : AgentId) → knows c i ≡ true → (q.count ≡ i) ⊎ Pending gather i → Answering node gather' o coming [] q' i c
    held i c e (inl same) = let lt = k.known c i e in absurd (omega arith)
    held i c e (inr p) = older i c (k.known c i e) (k.held i c p e)

-- ---- numbers of asks are forgotten

pub gathers_forget : (node : Name → Node) (q : AskTable) (gather : AgentId → ℕ → Option Gather) (count : ℕ) (place : ℕ → AgentId) (knows : AgentId → ℕ → Bool) (o o' : PostTable) (kept : AgentId → ℕ → Bool) → ((p : Post) → IsUndelivered o [] p → IsUndelivered o' [] p) → ((a : AgentId) (i : ℕ) → Pending gather i → kept a i ≡ true) →
    Gathers node q gather count place knows o [] [] → Gathers node q gather count place (λ a i. if kept a i then knows a i else false) o' [] []
gathers_forget node q gather count place knows o o' kept fly named g = record {
  fresh = g.fresh;
  kept = g.kept;
  known = λ a i e. g.known a i (was a i (kept a i) e);
  carried = λ i p. carried i p (g.carried i p);
  held = λ i a p e. held i a (g.held i a p (was a i (kept a i) e));
}
  where
    was : (a : AgentId) (i : ℕ) (b : Bool) → (if b then knows a i else false) ≡ true → knows a i ≡ true
    was a i true e = e
    was a i false e = absurd (cc)

    carried : (i : ℕ) → Pending gather i → Sent o [] (ask_key i) ⊎ ((a : AgentId) × (knows a i ≡ true)) → Sent o' [] (ask_key i) ⊎ ((a : AgentId) × ((if kept a i then knows a i else false) ≡ true))
    carried i p (inl s) = inl (sent_by o o' [] [] (ask_key i) fly s)
    carried i p (inr (a, k)) = inr (a, rw (named a i p) k)

    held : (i : ℕ) (a : AgentId) → Answering node gather o [] [] q i a → Answering node gather o' [] [] q i a
    held i a (inl h) = inl h
    held i a (inr (inl s)) = inr (inl s)
    held i a (inr (inr r)) = inr (inr (fly _ r))

-- ---- what good says of pending asks

-- the asks pending anywhere are different: each is one gather's
pub pending_one : (node : Name → Node) (q : AskTable) (gather : AgentId → ℕ → Option Gather) (count : ℕ) (place : ℕ → AgentId) (knows : AgentId → ℕ → Bool) (o : PostTable) (coming : List Post) (openings : List Opening) → Gathers node q gather count place knows o coming openings →
    (i : ℕ) (a : AgentId) (g : ℕ) (b : AgentId) (h : ℕ) → Among (λ (j : ℕ). j ≡ i) (pending_at (gather a g)) → Among (λ (j : ℕ). j ≡ i) (pending_at (gather b h)) → (a ≡ b) × (g ≡ h)
pending_one node q gather count place knows o coming openings k i a g b h m l =
    let x = (pending_of q place a g (gather a g) i (k.kept a g) m).2 in
    let y = (pending_of q place b h (gather b h) i (k.kept b h) l).2 in
    (sym x.1 ∙ y.1, sym x.2 ∙ y.2)

-- and within one gather, since they name different nodes
pub pending_distinct : {A : Type 0} (f : ℕ → A) (is : List ℕ) → Distinct (map f is) → Distinct is
pending_distinct f [] h = tt
pending_distinct f (i ∷ is) h = (λ m. h.0 (up is m), pending_distinct f is h.1)
  where
    up : (js : List ℕ) → Among (λ (j : ℕ). j ≡ i) js → Among (λ y. y ≡ f i) (map f js)
    up [] m = m
    up (j ∷ js) (inl e) = inl (ap f e)
    up (j ∷ js) (inr m) = inr (up js m)
