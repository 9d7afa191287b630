-- Decisions, moves, new requests, forgetting, and whole runs.
use Rattle.std.proofs.Common.{◌≡◌, ◌≢◌, ℕ, ◌+◌, ◌<◌, Bool, true, false, nat_eq, if◌then◌else◌, List, [], ◌∷◌, ◌++◌, map, Option, Some, None, refl, sym, ap, ◌∙◌, subst, inl, inr, arith}
use Rattle.iris_protocol.specs.Table.{agents, numbers, Name, AgentId, names, set_at, OfSome, Each, Among, Distinct}
use Rattle.iris_protocol.specs.World.{Demand, query, update, request, ask_key, key, is_update, Mail, reply, handover, Post, letter_to, mail_to, Seat, Node, given, moved, Parent, client, asker, Gather, is_empty, is_due, with_lent, with_ask, Need, noted, Info, AskTable, asking, answered, done, World, seat_at, put_node, with_gather, post_one, finish, ends, ask_for, asks_one, asks_all, judged, decides, lends, gives_back, commits, gives_by, gives, requests_as, forgets, Event, Query, Update, Give, Arrive, Decide, Lend, GiveBack, Commit, Forget, happens, run, entries, last_number, start_seat, start_node, start}
use Rattle.iris_protocol.specs.Good.{IsHeld, NodeGood, KnownDemand, Waiting, parent_at, pending_at, Pending, ParentGood, node_of, GatherGood, Replied, acts, times, Good, Fits, Allowed, AllAllowed}
use Rattle.iris_protocol.proofs.Tables.{eq_of, ne_of, same_self, at_same, at_each, in_each, in_same, of_some, append_assoc, Distinct-front}
use Rattle.iris_protocol.proofs.Nodes.{holder}
use Rattle.iris_protocol.proofs.PostTable.{fly_more, fly_forget, sent_by}
use Rattle.iris_protocol.proofs.Titles.{titles_by, titles_give}
use Rattle.iris_protocol.proofs.Letters.{letters_hand, letters_forget, letters_give, gift_good, letters_noted, letters_asking}
use Rattle.iris_protocol.proofs.Booked.{booked_status, booked_node}
use Rattle.iris_protocol.proofs.Requests.{requests_sent, requests_node, requests_gather, requests_close, requests_close_ask, requests_post}
use Rattle.iris_protocol.proofs.Returns.{returns_set, returns_ask}
use Rattle.iris_protocol.proofs.Gathers.{gathers_fly, gathers_close, gathers_lent, gathers_ask, gathers_sent, gathers_forget, names_asked}
use Rattle.iris_protocol.proofs.Arrivals.{put_down, arrives_keeps}

-- ---- decisions

-- a gather has all that it needs
ends_good : (w : World) (a : AgentId) (g : ℕ) (x : Gather) (parent : Parent) → w.gather a g ≡ Some x → x.parent ≡ parent → Good w [] [] → Good (finish (ends w a g parent)) [] []
ends_good w a g x (client r) is for good = record {
  titles = good.titles;
  letters = good.letters;
  requests = requests_close w.node w.requested w.status w.gather w.posted a g r answered parent good.requests;
  gathers = gathers_close w.node w.asks w.gather w.gathers w.place w.knows w.posted [] a g (λ i from e. absurd (cc)) good.gathers;
  returns = returns_set w.asks w.gather a g None w.returned (λ i m. absurd m) good.returns;
  booked = booked_status w.node w.status w.book r (done answered) (ap acts (good.requests.clients a g r parent).2) good.booked;
}
  where
    parent : parent_at (w.gather a g) ≡ Some (client r)
    parent = ap parent_at is ∙ ap Some for
ends_good w a g x (asker i from) is for good = put_down (with_gather w a g None) (letter_to from (reply i)) [] [] (record {
  titles = titles_by w.node w.posted w.posted [] coming (fly_more w.posted coming) good.titles;
  letters = letters_hand w.node w.requested w.asks w.posted [] coming [] [] (record { sound = tt; known = (known.0, sym known.1) }, tt) tt good.letters;
  requests = requests_sent w.node w.requested w.status (with_gather w a g None).gather w.posted w.posted [] coming [] (λ r _ s. sent_by w.posted w.posted [] coming (request r) (fly_more w.posted coming) s)
      (requests_close_ask w.node w.requested w.status w.gather w.posted a g i from parent good.requests);
  gathers = gathers_close w.node w.asks w.gather w.gathers w.place w.knows w.posted coming a g (λ j to e. here j to (let y : Some (asker i from) ≡ Some (asker j to) = sym parent ∙ e in let z : asker i from ≡ asker j to = cc in z)) good.gathers;
  returns = returns_set w.asks w.gather a g None w.returned (λ j m. absurd m) good.returns;
  booked = good.booked;
})
  where
    coming : List Post
    coming = letter_to from (reply i) ∷ []

    parent : parent_at (w.gather a g) ≡ Some (asker i from)
    parent = ap parent_at is ∙ ap Some for

    known : (i < w.asks.count) × ((w.asks.info i).agent ≡ from) × ((w.asks.info i).rank ≡ x.rank)
    known = subst (λ (p : Parent). ParentGood w.asks x.rank p) for (of_some (GatherGood w.asks w.place a g) (w.gather a g) x is (good.gathers.kept a g)).parent

    here : (j : ℕ) (to : AgentId) → asker i from ≡ asker j to → Replied w.posted coming w.asks j
    here j to e = let same : i ≡ j = cc in subst (λ (k : ℕ). Replied w.posted coming w.asks k) same (inr (inl (ap (λ (c : AgentId). letter_to c (reply i)) (sym known.1))))

-- it asks for one need more
ask_one_good : (w : World) (a : AgentId) (g : ℕ) (x : Gather) (need : Need) → w.gather a g ≡ Some x → x.lent ≡ false → need.rank < x.rank → Distinct (map (node_of w.asks) x.pending ++ need.node ∷ []) → Good w [] [] → Good (asks_one w a g x need) (ask_for w a need ∷ []) []
ask_one_good w a g x need is awake lower names good = record {
  titles = titles_by w.node w.posted w.posted [] coming (fly_more w.posted coming) good.titles;
  letters = letters_hand w.node w.requested q' w.posted [] coming [] [] (record { sound = ((good.titles.nodes need.node).begun, omega arith, (good.titles.nodes need.node).registry); known = (omega arith, it.0, it.1, it.2) }, tt) tt
      (letters_asking w.node w.requested w.asks w.posted a g need good.letters);
  requests = requests_sent w.node w.requested w.status (asks_one w a g x need).gather w.posted w.posted [] coming [] (λ r _ s. sent_by w.posted w.posted [] coming (request r) (fly_more w.posted coming) s)
      (requests_gather w.node w.requested w.status w.gather (asks_one w a g x need).gather w.posted [] [] same good.requests);
  gathers = gathers_ask w.node w.asks w.gather w.gathers w.place w.knows w.posted a g x need (w.node need.node).owner (w.node need.node).epoch is awake lower names good.gathers;
  returns = returns_ask w.asks w.gather a g x need w.returned is good.returns;
  booked = good.booked;
}
  where
    coming : List Post
    coming = ask_for w a need ∷ []

    q' : AskTable
    q' = asking w.asks a g need

    info : Info
    info = record { agent = a; gather = g; node = need.node; rank = need.rank }

    it : ((q'.info w.asks.count).agent ≡ a) × ((q'.info w.asks.count).node ≡ need.node) × ((q'.info w.asks.count).rank ≡ need.rank)
    it = subst (λ (v : Info). (v.agent ≡ a) × (v.node ≡ need.node) × (v.rank ≡ need.rank)) (sym (at_same numbers w.asks.info w.asks.count info)) (refl, refl, refl)

    same : (b : AgentId) (h : ℕ) → parent_at ((asks_one w a g x need).gather b h) ≡ parent_at (w.gather b h)
    same = in_each (λ b h (y : Option Gather). parent_at y ≡ parent_at (w.gather b h)) w.gather a g (Some (with_ask x w.asks.count)) (sym (ap parent_at is)) (λ b h _. refl)

asks_all_good : (w : World) (a : AgentId) (g : ℕ) (x : Gather) (needs : List Need) → w.gather a g ≡ Some x → x.lent ≡ false → Each (λ (need : Need). need.rank < x.rank) needs → Distinct (map (node_of w.asks) x.pending ++ map (λ (need : Need). need.node) needs) → Good w [] [] → Good (asks_all w a g x needs) [] []
asks_all_good w a g x [] is awake lower names good = good
asks_all_good w a g x (need ∷ needs) is awake lower names good =
    asks_all_good (post_one (asks_one w a g x need) (ask_for w a need)) a g (with_ask x w.asks.count) needs (in_same w.gather a g (Some (with_ask x w.asks.count))) awake lower.1
    (subst (λ (ns : List Name). Distinct (ns ++ map (λ (n : Need). n.node) needs)) (sym (names_asked w.asks a g need a g x.rank x.pending old.pending)) longer)
    (put_down (asks_one w a g x need) (ask_for w a need) [] [] (ask_one_good w a g x need is awake lower.0 (Distinct-front _ (map (λ (n : Need). n.node) needs) longer) good))
  where
    old : GatherGood w.asks w.place a g x
    old = of_some (GatherGood w.asks w.place a g) (w.gather a g) x is (good.gathers.kept a g)

    longer : Distinct ((map (node_of w.asks) x.pending ++ need.node ∷ []) ++ map (λ (n : Need). n.node) needs)
    longer = subst (λ (ns : List Name). Distinct ns) (sym (append_assoc (map (node_of w.asks) x.pending) need.node (map (λ (n : Need). n.node) needs))) names

-- it is lent, or is so no more
lent_good : (w : World) (a : AgentId) (g : ℕ) (x : Gather) (b : Bool) → w.gather a g ≡ Some x → x.pending ≡ [] → Good w [] [] → Good (with_gather w a g (Some (with_lent x b))) [] []
lent_good w a g x b is none good = record {
  titles = good.titles;
  letters = good.letters;
  requests = requests_gather w.node w.requested w.status w.gather (with_gather w a g (Some (with_lent x b))).gather w.posted [] []
      (in_each (λ c h (y : Option Gather). parent_at y ≡ parent_at (w.gather c h)) w.gather a g (Some (with_lent x b)) (sym (ap parent_at is)) (λ c h _. refl)) good.requests;
  gathers = gathers_lent w.node w.asks w.gather w.gathers w.place w.knows w.posted a g x b is none good.gathers;
  returns = returns_set w.asks w.gather a g (Some (with_lent x b)) w.returned (λ i m. subst (λ (y : Option Gather). Among (λ (j : ℕ). j ≡ i) (pending_at y)) (sym is) m) good.returns;
  booked = good.booked;
}

judged_good : (w : World) (a : AgentId) (g : ℕ) (x : Gather) (needs : List Need) → w.gather a g ≡ Some x → x.pending ≡ [] → Fits x.rank needs → Good w [] [] → Good (judged w a g x needs) [] []
judged_good w a g x [] is none fits good = ends_good w a g x x.parent is refl good
judged_good w a g x (need ∷ needs) is none fits good = asks_all_good (with_gather w a g (Some (with_lent x false))) a g (with_lent x false) (need ∷ needs) (in_same w.gather a g (Some (with_lent x false))) refl fits.below
    (subst (λ (js : List ℕ). Distinct (map (node_of w.asks) js ++ map (λ (n : Need). n.node) (need ∷ needs))) (sym none) fits.names)
    (lent_good w a g x false is none good)

due_is : (x : Gather) → is_due x ≡ true → x.pending ≡ []
due_is x e = go x.lent x.pending refl e
  where
    go : (b : Bool) (is : List ℕ) → x.pending ≡ is → (if b then false else is_empty is) ≡ true → x.pending ≡ []
    go true is p y = absurd (cc)
    go false [] p y = p
    go false (i ∷ is) p y = absurd (cc)

pub decides_keeps : (w : World) (a : AgentId) (g : ℕ) (o : Option Gather) (needs : List Need) → w.gather a g ≡ o → OfSome (λ (x : Gather). Fits x.rank needs) o → Good w [] [] → Good (decides w a g o needs) [] []
decides_keeps w a g None needs is fits good = good
decides_keeps w a g (Some x) needs is fits good = go (is_due x) refl
  where
    go : (b : Bool) → is_due x ≡ b → Good (if b then judged w a g x needs else w) [] []
    go true e = judged_good w a g x needs is (due_is x e) fits good
    go false e = good

lends_keeps : (w : World) (a : AgentId) (g : ℕ) (o : Option Gather) → w.gather a g ≡ o → Good w [] [] → Good (lends w a g o) [] []
lends_keeps w a g None is good = good
lends_keeps w a g (Some x) is good = go (is_due x) refl
  where
    go : (b : Bool) → is_due x ≡ b → Good (if b then with_gather w a g (Some (with_lent x true)) else w) [] []
    go true e = lent_good w a g x true is (due_is x e) good
    go false e = good

lent_is : (w : World) (a : AgentId) (g : ℕ) (x : Gather) → w.gather a g ≡ Some x → x.lent ≡ true → Good w [] [] → x.pending ≡ []
lent_is w a g x is lent good = (of_some (GatherGood w.asks w.place a g) (w.gather a g) x is (good.gathers.kept a g)).lent lent

gives_back_keeps : (w : World) (a : AgentId) (g : ℕ) (o : Option Gather) → w.gather a g ≡ o → Good w [] [] → Good (gives_back w a g o) [] []
gives_back_keeps w a g None is good = good
gives_back_keeps w a g (Some x) is good = go x.lent refl
  where
    go : (b : Bool) → x.lent ≡ b → Good (if b then with_gather w a g (Some (with_lent x false)) else w) [] []
    go true e = lent_good w a g x false is (lent_is w a g x is e good) good
    go false e = good

commits_keeps : (w : World) (a : AgentId) (g : ℕ) (o : Option Gather) (verdict : Option (List Need)) → w.gather a g ≡ o → Allowed w (Commit a g verdict) → Good w [] [] → Good (commits w a g o verdict) [] []
commits_keeps w a g None verdict is fits good = good
commits_keeps w a g (Some x) None is fits good = gives_back_keeps w a g (Some x) is good
commits_keeps w a g (Some x) (Some needs) is fits good = go x.lent refl
  where
    go : (b : Bool) → x.lent ≡ b → Good (if b then judged w a g x needs else w) [] []
    go true e = judged_good w a g x needs is (lent_is w a g x is e good) (of_some (λ (y : Gather). Fits y.rank needs) (w.gather a g) x is fits) good
    go false e = good

-- ---- a move

give_good : (w : World) (n : Name) (to : AgentId) (last : ℕ) → last ≡ (w.node n).newest → IsHeld (w.node n) → to ≢ (w.node n).owner → Good w [] [] → Good (put_node w n (moved (w.node n) to)) (letter_to to (handover n ((w.node n).epoch + 1) last) ∷ []) []
give_good w n to last is held apart g = record {
  titles = titles_give w.node n to last w.posted held apart g.titles;
  letters = letters_hand (set_at names w.node n new) w.requested w.asks w.posted [] coming [] [] (gift_good w.node n to last w.requested w.asks (g.titles.nodes n).begun is, tt) tt (letters_give w.node n to w.requested w.asks w.posted [] g.letters);
  requests = requests_sent (set_at names w.node n new) w.requested w.status w.gather w.posted w.posted [] coming [] (λ r _ s. sent_by w.posted w.posted [] coming (request r) (fly_more w.posted coming) s)
      (requests_node w.node n new w.requested w.status w.gather w.posted [] [] same g.requests);
  gathers = gathers_sent w.node (set_at names w.node n new) w.asks w.gather w.gathers w.place w.knows w.posted w.posted [] coming [] [] (λ i s. inl (sent_by w.posted w.posted [] coming (ask_key i) (fly_more w.posted coming) s)) waits (λ i. fly_more w.posted coming _) g.gathers;
  returns = g.returns;
  booked = booked_node w.node n new w.status w.book refl g.booked;
}
  where
    new : Node
    new = moved (w.node n) to

    coming : List Post
    coming = letter_to to (handover n ((w.node n).epoch + 1) last) ∷ []

    same : (b : AgentId) → (new.seat b).parked ≡ (seat_at w n b).parked
    same = at_each agents (λ b (x : Seat). x.parked ≡ (seat_at w n b).parked) (w.node n).seat (w.node n).owner (given (seat_at w n (w.node n).owner) to ((w.node n).epoch + 1)) refl (λ b _. refl)

    waits : (i : ℕ) (b : AgentId) → Waiting w.node [] b (ask_key i) → Waiting (set_at names w.node n new) [] b (ask_key i)
    waits i b (inr f) = absurd f
    waits i b (inl (j, h)) = inl (j, at_each names (λ l (x : Node). Among (λ (y : Mail). key y.demand ≡ ask_key i) (seat_at w l b).parked → Among (λ (y : Mail). key y.demand ≡ ask_key i) (x.seat b).parked) w.node n new (λ x. subst (λ (ms : List Mail). Among (λ (y : Mail). key y.demand ≡ ask_key i) ms) (sym (same b)) x) (λ l _ x. x) j h)

gives_by_keeps : (w : World) (n : Name) (to : AgentId) (l : Option ℕ) → (seat_at w n (w.node n).owner).last ≡ l → to ≢ (w.node n).owner → Good w [] [] → Good (gives_by w n to l) [] []
gives_by_keeps w n to None is apart g = g
gives_by_keeps w n to (Some last) is apart g =
    let h = (holder (w.node n) (w.node n).owner last (g.titles.nodes n) is).1 in
    let e = h.last in
    let same : last ≡ (w.node n).newest = cc in
    put_down (put_node w n (moved (w.node n) to)) (letter_to to (handover n ((w.node n).epoch + 1) last)) [] [] (give_good w n to last same h apart g)

gives_keeps : (w : World) (n : Name) (to : AgentId) → Good w [] [] → Good (gives w n to) [] []
gives_keeps w n to g = go (agents.same to (w.node n).owner) refl
  where
    go : (b : Bool) → agents.same to (w.node n).owner ≡ b → Good (if b then w else gives_by w n to (seat_at w n (w.node n).owner).last) [] []
    go true e = g
    go false e = gives_by_keeps w n to (seat_at w n (w.node n).owner).last refl (ne_of agents _ _ e) g

-- ---- a request

request_keeps : (w : World) (n : Name) (demand : Demand) → key demand ≡ request w.requested.count → KnownDemand (noted w.requested n (is_update demand)) w.asks n demand → Good w [] [] → Good (requests_as w n demand) [] []
request_keeps w n demand is known g = put_down (record w { requested = noted w.requested n (is_update demand) }) p [] [] (record {
  titles = titles_by w.node w.posted w.posted [] (p ∷ []) (fly_more w.posted (p ∷ [])) g.titles;
  letters = letters_hand w.node (noted w.requested n (is_update demand)) w.asks w.posted [] (p ∷ []) [] [] (record { sound = ((g.titles.nodes n).begun, omega arith, (g.titles.nodes n).registry); known = known }, tt) tt
      (letters_noted w.node w.requested w.asks w.posted n (is_update demand) g.letters);
  requests = requests_post w.node w.requested w.status w.gather w.posted n (is_update demand) (w.node n).owner n (record { epoch = (w.node n).epoch; demand = demand }) is g.requests;
  gathers = gathers_fly w.node w.asks w.gather w.gathers w.place w.knows w.posted w.posted [] (p ∷ []) [] (fly_more w.posted (p ∷ [])) g.gathers;
  returns = g.returns;
  booked = g.booked;
})
  where
    p : Post
    p = mail_to (w.node n).owner n (w.node n).epoch demand

-- ---- forgetting

forgets_keeps : (w : World) (kept : AgentId → ℕ → Bool) → ((a : AgentId) (i : ℕ) → Pending w.gather i → kept a i ≡ true) → Good w [] [] → Good (forgets w kept) [] []
forgets_keeps w kept named g = record {
  titles = titles_by w.node w.posted (forgets w kept).posted [] [] (fly_forget w.posted) g.titles;
  letters = letters_forget w.node w.requested w.asks w.posted g.letters;
  requests = requests_sent w.node w.requested w.status w.gather w.posted (forgets w kept).posted [] [] [] (λ r _ s. sent_by w.posted (forgets w kept).posted [] [] (request r) (fly_forget w.posted) s) g.requests;
  gathers = gathers_forget w.node w.asks w.gather w.gathers w.place w.knows w.posted (forgets w kept).posted kept (fly_forget w.posted) named g.gathers;
  returns = g.returns;
  booked = g.booked;
}

-- ---- all

pub happens_keeps : (w : World) (e : Event) → Allowed w e → Good w [] [] → Good (happens w e) [] []
happens_keeps w (Query n) ok g = request_keeps w n (query w.requested.count) refl (omega arith, at_same numbers w.requested.target w.requested.count n, at_same numbers w.requested.updates w.requested.count false) g
happens_keeps w (Update n number) ok g = request_keeps w n (update w.requested.count number) refl (omega arith, at_same numbers w.requested.target w.requested.count n, at_same numbers w.requested.updates w.requested.count true) g
happens_keeps w (Give n to) ok g = gives_keeps w n to g
happens_keeps w (Arrive k kept) ok g = arrives_keeps w kept k (w.posted.post k) refl g
happens_keeps w (Decide a h needs) ok g = decides_keeps w a h (w.gather a h) needs refl ok g
happens_keeps w (Lend a h) ok g = lends_keeps w a h (w.gather a h) refl g
happens_keeps w (GiveBack a h) ok g = gives_back_keeps w a h (w.gather a h) refl g
happens_keeps w (Commit a h verdict) ok g = commits_keeps w a h (w.gather a h) verdict refl ok g
happens_keeps w (Forget kept) ok g = forgets_keeps w kept ok g

pub run_keeps : (es : List Event) (w : World) → AllAllowed w es → Good w [] [] → Good (run es w) [] []
run_keeps [] w ok g = g
run_keeps (e ∷ es) w ok g = run_keeps es (happens w e) ok.1 (happens_keeps w e ok.0 g)

start_node_good : (a : AgentId) (epoch number : ℕ) → NodeGood (start_node a epoch number)
start_node_good a epoch number = record {
  begun = omega arith;
  registry = refl;
  title = inl (record { last = rw (same_self agents a) refl; taken = inr refl });
  alone = λ b ne. last b (agents.same b a) refl ne;
  past = λ e ge lt. absurd (omega arith);
  took = λ b. inl refl;
  forwards = λ b to at e. absurd (cc);
  parked = λ b. tt;
  distinct = λ b. tt;
}
  where
    last : (b : AgentId) (c : Bool) → agents.same b a ≡ c → b ≢ a → (start_seat c number).last ≡ None
    last b true e ne = absurd (ne (eq_of agents b a e))
    last b false e ne = refl

start_once : (r : ℕ) (rows : List (Name × ℕ)) → times r (entries rows) ≡ 0
start_once r [] = refl
start_once r (row ∷ rows) = let h = start_once r rows in omega arith

pub start_good : (owner : Name → AgentId) (epoch : Name → ℕ) (rows : List (Name × ℕ)) → Good (start owner epoch rows) [] []
start_good owner epoch rows = record {
  titles = record { nodes = λ n. start_node_good (owner n) (epoch n) (last_number n (entries rows)); transit = λ n x. let e = x.later in absurd (omega arith) };
  letters = record { fresh = λ k _. refl; kept = λ k. tt; comes = tt; parked = λ n a. tt; free = tt };
  requests = record {
    parked = λ n a. tt;
    free = tt;
    distinct = tt;
    clients = λ a g r e. absurd (cc);
    serving = λ r a g e. absurd (cc);
    carried = λ r lt e. absurd (omega arith);
    unasked = λ r _. refl;
  };
  gathers = record {
    fresh = λ a g _. refl;
    kept = λ a g. tt;
    known = λ a i e. absurd (cc);
    carried = λ i p. absurd p.2;
    held = λ i a p k. absurd p.2;
  };
  returns = record { waited = λ i p. refl; known = λ i e. absurd (cc) };
  booked = record { once = λ r. start_once r rows; newest = λ n. refl };
}
