-- After a delivery with its decisions no gather is due.
use Rattle.std.proofs.Common.{◌≡◌, ◌≢◌, ◌⊎◌, ℕ, zero, suc, ◌+◌, ◌<◌, ◌≤◌, Bool, true, false, nat_lt, if◌then◌else◌, List, [], ◌∷◌, ◌++◌, Option, Some, None, refl, sym, ap, ◌∙◌, subst, inl, inr, arith}
use Rattle.iris_protocol.specs.Table.{agents, numbers, Name, AgentId, OfSome, Among}
use Rattle.iris_protocol.specs.World.{Demand, query, update, ask, is_update, Mail, Letter, mail, reply, handover, Post, opening_at, Direct, serve, pass_on, park, direct, Parent, client, asker, Gather, new_gather, is_empty, is_due, with_lent, with_ask, answered_of, Need, World, seat_at, with_gather, mark, post_one, post_all, finish, opens, opens_all, learns, accepts, refuses, is_accepted, serves, is_stopped, directs, released, again, takes_over, handles, arrives, ends, ask_for, asks_one, asks_all, judged, decides}
use Rattle.iris_protocol.specs.Good.{pending_at, Good}
use Rattle.iris_protocol.specs.Settle.{Choices, FitsAll, decides_each, delivers_by, delivers, due_at, lent_at, NoneDue, NoneLent, AllWait}
use Rattle.iris_protocol.proofs.Tables.{split, at_each, in_each, in_same, in_other}
use Rattle.iris_protocol.proofs.Arrivals.{arrives_keeps}
use Rattle.iris_protocol.proofs.Runs.{decides_keeps}

-- ---- a decision

-- it changes its own gather alone, which is then not due, and not lent where it was not
Left : World → World → AgentId → ℕ → Type 0
Left w v a g = (v.gathers ≡ w.gathers) × (v.place ≡ w.place) × ((b : AgentId) (h : ℕ) → (b ≡ a → h ≢ g) → v.gather b h ≡ w.gather b h) × (due_at (v.gather a g) ≡ false) × (lent_at (w.gather a g) ≡ false → lent_at (v.gather a g) ≡ false)

not_empty : (is : List ℕ) (i : ℕ) → is_empty (is ++ i ∷ []) ≡ false
not_empty [] i = refl
not_empty (j ∷ js) i = refl

not_due : (x : Gather) (i : ℕ) → is_due (with_ask x i) ≡ false
not_due x i = go x.lent
  where
    go : (b : Bool) → (if b then false else is_empty (x.pending ++ i ∷ [])) ≡ false
    go true = refl
    go false = not_empty x.pending i

left_ends : (w : World) (a : AgentId) (g : ℕ) (parent : Parent) → Left w (finish (ends w a g parent)) a g
unfolding Left
left_ends w a g (client r) = (refl, refl, in_other w.gather a g None, ap due_at (in_same w.gather a g None), λ _. ap lent_at (in_same w.gather a g None))
left_ends w a g (asker i from) = (refl, refl, in_other w.gather a g None, ap due_at (in_same w.gather a g None), λ _. ap lent_at (in_same w.gather a g None))

-- the gather x, not due and not lent, asks on
left_asks : (w : World) (a : AgentId) (g : ℕ) (x : Gather) (needs : List Need) → w.gather a g ≡ Some x → is_due x ≡ false → x.lent ≡ false → Left w (asks_all w a g x needs) a g
unfolding Left
left_asks w a g x [] is e awake = (refl, refl, λ b h _. refl, ap due_at is ∙ e, λ l. l)
left_asks w a g x (need ∷ needs) is e awake =
    let v = post_one (asks_one w a g x need) (ask_for w a need) in
    let here = in_same w.gather a g (Some (with_ask x w.asks.count)) in
    let l = left_asks v a g (with_ask x w.asks.count) needs here (not_due x w.asks.count) awake in
    (l.0, l.1, λ b h ne. l.2 b h ne ∙ in_other w.gather a g (Some (with_ask x w.asks.count)) b h ne, l.3, λ _. l.4 (ap lent_at here ∙ awake))

left_judged : (w : World) (a : AgentId) (g : ℕ) (x : Gather) (needs : List Need) → Left w (judged w a g x needs) a g
unfolding Left
left_judged w a g x [] = left_ends w a g x.parent
left_judged w a g x (need ∷ needs) =
    let u = with_gather w a g (Some (with_lent x false)) in
    let v = post_one (asks_one u a g (with_lent x false) need) (ask_for u a need) in
    let here = in_same u.gather a g (Some (with_ask (with_lent x false) w.asks.count)) in
    let l = left_asks v a g (with_ask (with_lent x false) w.asks.count) needs here (not_due (with_lent x false) w.asks.count) refl in
    (l.0, l.1, λ b h ne. l.2 b h ne ∙ in_other u.gather a g (Some (with_ask (with_lent x false) w.asks.count)) b h ne ∙ in_other w.gather a g (Some (with_lent x false)) b h ne, l.3, λ _. l.4 (ap lent_at here))

left : (w : World) (a : AgentId) (g : ℕ) (o : Option Gather) (needs : List Need) → w.gather a g ≡ o → Left w (decides w a g o needs) a g
unfolding Left
left w a g None needs is = (refl, refl, λ b h _. refl, ap due_at is, λ l. l)
left w a g (Some x) needs is = go (is_due x) refl
  where
    go : (b : Bool) → is_due x ≡ b → Left w (if b then judged w a g x needs else w) a g
    go true e = left_judged w a g x needs
    go false e = (refl, refl, λ b h _. refl, ap due_at is ∙ e, λ l. l)

-- ---- decisions by number

-- each gather whose turn came is not due; the others are as before
each_left : (choices : Choices) (agent : ℕ → AgentId) (n g : ℕ) (w : World) → ((decides_each choices agent n g w).gathers ≡ w.gathers) × ((b : AgentId) (h : ℕ) → (due_at ((decides_each choices agent n g w).gather b h) ≡ false) ⊎ (((decides_each choices agent n g w).gather b h ≡ w.gather b h) × (b ≡ agent h → (h < g) ⊎ (g + n ≤ h))))
unfolding Left
each_left choices agent zero g w = (refl, λ b h. inr (refl, λ _. near h g))
  where
    near : (h g : ℕ) → (h < g) ⊎ (g + 0 ≤ h)
    near h g = grind arith
each_left choices agent (suc n) g w =
    let v = decides w (agent g) g (w.gather (agent g) g) (choices.misses w (agent g) g) in
    let l = left w (agent g) g (w.gather (agent g) g) (choices.misses w (agent g) g) refl in
    let r = each_left choices agent n (suc g) v in
    (r.0 ∙ l.0, λ b h. step v l.2 l.3 (decides_each choices agent n (suc g) v).gather b h (split numbers h g) (split agents b (agent g)) (r.1 b h))
  where
    wider : (b : AgentId) (h : ℕ) → (h ≡ g → b ≡ agent g → ⊥) → b ≡ agent h → (h < suc g) ⊎ (suc g + n ≤ h) → (h < g) ⊎ (g + suc n ≤ h)
    wider b h ne at (inr le) = inr (omega arith)
    wider b h ne at (inl lt) = near (split numbers h g)
      where
        near : (h ≡ g) ⊎ (h ≢ g) → (h < g) ⊎ (g + suc n ≤ h)
        near (inl e) = absurd (ne e (at ∙ ap agent e))
        near (inr d) = inl (grind arith)

    step : (v : World) → ((b : AgentId) (h : ℕ) → (b ≡ agent g → h ≢ g) → v.gather b h ≡ w.gather b h) → due_at (v.gather (agent g) g) ≡ false → (last : AgentId → ℕ → Option Gather) (b : AgentId) (h : ℕ) → (h ≡ g) ⊎ (h ≢ g) → (b ≡ agent g) ⊎ (b ≢ agent g) → (due_at (last b h) ≡ false) ⊎ ((last b h ≡ v.gather b h) × (b ≡ agent h → (h < suc g) ⊎ (suc g + n ≤ h))) → (due_at (last b h) ≡ false) ⊎ ((last b h ≡ w.gather b h) × (b ≡ agent h → (h < g) ⊎ (g + suc n ≤ h)))
    step v others here last b h _ _ (inl e) = inl e
    step v others here last b h (inl same) (inl at) (inr r) = inl (ap due_at r.0 ∙ subst (λ (c : AgentId). due_at (v.gather c h) ≡ false) (sym at) (subst (λ (k : ℕ). due_at (v.gather (agent g) k) ≡ false) (sym same) here))
    step v others here last b h (inr ne) _ (inr r) = inr (r.0 ∙ others b h (λ _. ne), λ at. wider b h (λ e _. ne e) at (r.1 at))
    step v others here last b h (inl same) (inr ne) (inr r) = inr (r.0 ∙ others b h (λ at. absurd (ne at)), λ at. wider b h (λ _ e. ne e) at (r.1 at))

pub each_keeps : (choices : Choices) → FitsAll choices → (agent : ℕ → AgentId) (n g : ℕ) (w : World) → Good w [] [] → Good (decides_each choices agent n g w) [] []
each_keeps choices fits agent zero g w good = good
each_keeps choices fits agent (suc n) g w good = each_keeps choices fits agent n (suc g) (decides w (agent g) g (w.gather (agent g) g) (choices.misses w (agent g) g)) (decides_keeps w (agent g) g (w.gather (agent g) g) (choices.misses w (agent g) g) refl (fits w (agent g) g) good)

pub decides_lent : (w : World) (a : AgentId) (g : ℕ) (needs : List Need) → NoneLent w → NoneLent (decides w a g (w.gather a g) needs)
unfolding Left
decides_lent w a g needs none b h = let l = left w a g (w.gather a g) needs refl in go l.2 (l.4 (none a g)) (split agents b a) (split numbers h g)
  where
    v : World
    v = decides w a g (w.gather a g) needs

    go : ((b : AgentId) (h : ℕ) → (b ≡ a → h ≢ g) → v.gather b h ≡ w.gather b h) → lent_at (v.gather a g) ≡ false → (b ≡ a) ⊎ (b ≢ a) → (h ≡ g) ⊎ (h ≢ g) → lent_at (v.gather b h) ≡ false
    go others here (inr ne) _ = ap lent_at (others b h (λ e. absurd (ne e))) ∙ none b h
    go others here (inl _) (inr ne) = ap lent_at (others b h (λ _. ne)) ∙ none b h
    go others here (inl same) (inl at) = subst (λ (c : AgentId). lent_at (v.gather c h) ≡ false) (sym same) (subst (λ (k : ℕ). lent_at (v.gather a k) ≡ false) (sym at) here)

pub each_lent : (choices : Choices) (agent : ℕ → AgentId) (n g : ℕ) (w : World) → NoneLent w → NoneLent (decides_each choices agent n g w)
each_lent choices agent zero g w none = none
each_lent choices agent (suc n) g w none = each_lent choices agent n (suc g) (decides w (agent g) g (w.gather (agent g) g) (choices.misses w (agent g) g)) (decides_lent w (agent g) g (choices.misses w (agent g) g) none)

-- ---- an arrival

posts_keep : (w : World) (ps : List Post) → (post_all w ps).gather ≡ w.gather
posts_keep w [] = refl
posts_keep w (p ∷ ps) = posts_keep (post_one w p) ps

learns_keep : (w : World) (a : AgentId) (demand : Demand) → (learns w a demand).gather ≡ w.gather
learns_keep w a (query r) = refl
learns_keep w a (update r number) = refl
learns_keep w a (ask i from rank) = refl

-- what holds of each gather, of a new one and of one that is answered, an arrival at that agent keeps
module _ (P : AgentId → ℕ → Option Gather → Type 0) (a : AgentId) (new : (g rank : ℕ) (parent : Parent) → P a g (Some (new_gather rank parent))) (less : (i g : ℕ) (o : Option Gather) → P a g o → P a g (answered_of i o)) where
  All : World → Type 0
  All w = (b : AgentId) (h : ℕ) → P b h (w.gather b h)

  all_opens : (w : World) (demand : Demand) → All w → All (opens w a demand)
  unfolding All
  all_opens w (query r) old = in_each P w.gather a w.gathers _ (new _ _ _) (λ b h _. old b h)
  all_opens w (update r number) old = old
  all_opens w (ask i from rank) old = in_each P w.gather a w.gathers _ (new _ _ _) (λ b h _. old b h)

  all_opened : (w : World) (n : Name) (ms : List Mail) → All w → All (opens_all w (released a n ms))
  all_opened w n [] old = old
  all_opened w n (m ∷ ms) old = go (is_update m.demand) (all_opened w n ms old) (all_opened (opens w a m.demand) n ms (all_opens w m.demand old))
    where
      go : (b : Bool) → All (opens_all w (released a n ms)) → All (opens_all (opens w a m.demand) (released a n ms)) → All (opens_all w (if b then released a n ms else opening_at a n m.demand ∷ released a n ms))
      go true x y = x
      go false x y = y

  all_posts : (w : World) (ps : List Post) → All w → All (post_all w ps)
  unfolding All
  all_posts w ps old b h = subst (λ (t : AgentId → ℕ → Option Gather). P b h (t b h)) (sym (posts_keep w ps)) (old b h)

  all_serves : (w : World) (ok : Bool) (n : Name) (demand : Demand) → All w → All (serves w ok n a demand)
  unfolding All
  all_serves w ok n (query r) old = all_opens w (query r) old
  all_serves w ok n (update r number) old = go (is_accepted ok (seat_at w n a).last number)
    where
      go : (b : Bool) → All (if b then accepts w n a r number else refuses w r)
      go true = old
      go false = old
  all_serves w ok n (ask i from rank) old = all_opens (learns w a (ask i from rank)) (ask i from rank) old

  all_directs : (w : World) (ok : Bool) (n : Name) (m : Mail) (d : Direct) → All w → All (finish (directs w ok n a m d))
  unfolding All
  all_directs w ok n m serve old = all_serves w ok n m.demand old
  all_directs w ok n m (pass_on to at) old = old
  all_directs w ok n m park old = λ b h. subst (λ (t : AgentId → ℕ → Option Gather). P b h (t b h)) (sym (learns_keep w a m.demand)) (old b h)

  all_handles : (w : World) (ok : Bool) (l : Letter) → All w → All (finish (handles w ok a l))
  unfolding All
  all_handles w ok (mail n m) old = go (is_stopped w a m.demand)
    where
      go : (b : Bool) → All (finish (if b then (w, []) else directs w ok n a m (direct (seat_at w n a) m.epoch)))
      go true = old
      go false = all_directs w ok n m (direct (seat_at w n a) m.epoch) old
  all_handles w ok (reply i) old = at_each agents (λ b (row : ℕ → Option Gather). (h : ℕ) → P b h (row h)) w.gather a (λ g. answered_of i (w.gather a g)) (λ h. less i h (w.gather a h) (old a h)) (λ b _. old b)
  all_handles w ok (handover n epoch last) old = go (nat_lt (seat_at w n a).taken epoch)
    where
      go : (b : Bool) → All (finish (if b then (opens_all (takes_over w n a epoch last) (released a n (seat_at w n a).parked), again a n epoch (seat_at w n a).parked) else (w, [])))
      go true = all_posts (opens_all (takes_over w n a epoch last) (released a n (seat_at w n a).parked)) (again a n epoch (seat_at w n a).parked) (all_opened (takes_over w n a epoch last) n (seat_at w n a).parked old)
      go false = old

-- elsewhere no gather changes
pub arrives_apart : (w : World) (ok : Bool) (k : ℕ) (p : Post) (b : AgentId) (h : ℕ) → b ≢ p.to → (arrives w ok k (Some p)).gather b h ≡ w.gather b h
unfolding All
arrives_apart w ok k p b h ne = all_handles (λ c g (o : Option Gather). (c ≢ p.to) → o ≡ w.gather c g) p.to (λ g rank parent apart. absurd (apart refl)) (λ i g o _ apart. absurd (apart refl)) (mark w k) ok p.letter (λ c g _. refl) b h ne

answered_lent : (i : ℕ) (o : Option Gather) → lent_at o ≡ false → lent_at (answered_of i o) ≡ false
answered_lent i None e = e
answered_lent i (Some x) e = e

pub arrives_lent : (w : World) (ok : Bool) (k : ℕ) (p : Post) → NoneLent w → NoneLent (arrives w ok k (Some p))
unfolding All
arrives_lent w ok k p none = all_handles (λ c g (o : Option Gather). lent_at o ≡ false) p.to (λ g rank parent. refl) (λ i g o e. answered_lent i o e) (mark w k) ok p.letter none

-- ---- a delivery

-- after all decisions, where those that were not to decide are not due
pub each_none_due : (choices : Choices) (agent : ℕ → AgentId) (w : World) → ((b : AgentId) (h : ℕ) → (b ≡ agent h → ⊥) → due_at (w.gather b h) ≡ false) → Good w [] [] → NoneDue (decides_each choices agent w.gathers 0 w)
each_none_due choices agent w others good b h = go (split agents b (agent h)) ((each_left choices agent w.gathers 0 w).1 b h)
  where
    v : World
    v = decides_each choices agent w.gathers 0 w

    go : (b ≡ agent h) ⊎ (b ≢ agent h) → (due_at (v.gather b h) ≡ false) ⊎ ((v.gather b h ≡ w.gather b h) × (b ≡ agent h → (h < 0) ⊎ (0 + w.gathers ≤ h))) → due_at (v.gather b h) ≡ false
    go _ (inl e) = e
    go (inr ne) (inr r) = ap due_at r.0 ∙ others b h ne
    go (inl at) (inr r) = out (r.1 at)
      where
        out : (h < 0) ⊎ (0 + w.gathers ≤ h) → due_at (v.gather b h) ≡ false
        out (inl lt) = absurd (omega arith)
        out (inr le) = ap due_at (r.0 ∙ good.gathers.fresh b h (omega arith))

pub delivers_none_due : (choices : Choices) (w : World) (k : ℕ) → Good w [] [] → NoneDue w → NoneDue (delivers choices w k)
delivers_none_due choices w k good none = go (w.posted.post k) refl
  where
    go : (o : Option Post) → w.posted.post k ≡ o → NoneDue (delivers_by choices w k o)
    go None is = none
    go (Some p) is = each_none_due choices (λ g. p.to) (arrives w (choices.keeps w) k (Some p)) (λ b h ne. ap due_at (arrives_apart w (choices.keeps w) k p b h ne) ∙ none b h) (arrives_keeps w (choices.keeps w) k (Some p) is good)

pub delivers_keeps : (choices : Choices) → FitsAll choices → (w : World) (k : ℕ) → Good w [] [] → Good (delivers choices w k) [] []
delivers_keeps choices fits w k good = go (w.posted.post k) refl
  where
    go : (o : Option Post) → w.posted.post k ≡ o → Good (delivers_by choices w k o) [] []
    go None is = good
    go (Some p) is = each_keeps choices fits (λ g. p.to) (arrives w (choices.keeps w) k (Some p)).gathers 0 (arrives w (choices.keeps w) k (Some p)) (arrives_keeps w (choices.keeps w) k (Some p) is good)

pub delivers_lent : (choices : Choices) (w : World) (k : ℕ) → NoneLent w → NoneLent (delivers choices w k)
delivers_lent choices w k none = go (w.posted.post k)
  where
    go : (o : Option Post) → NoneLent (delivers_by choices w k o)
    go None = none
    go (Some p) = each_lent choices (λ g. p.to) (arrives w (choices.keeps w) k (Some p)).gathers 0 (arrives w (choices.keeps w) k (Some p)) (arrives_lent w (choices.keeps w) k p none)

pub all_wait : (w : World) → Good w [] [] → NoneDue w → AllWait w
all_wait w good due a g = go (w.gather a g) refl
  where
    go : (o : Option Gather) → w.gather a g ≡ o → OfSome (λ (x : Gather). x.lent ≡ false → (i : ℕ) × Among (λ (j : ℕ). j ≡ i) x.pending × (w.returned i ≡ false)) o
    go None is = tt
    go (Some x) is = λ awake. waits x.pending refl awake
      where
        late : (if x.lent then false else is_empty x.pending) ≡ false
        late = sym (ap due_at is) ∙ due a g

        waits : (is : List ℕ) → x.pending ≡ is → x.lent ≡ false → (i : ℕ) × Among (λ (j : ℕ). j ≡ i) x.pending × (w.returned i ≡ false)
        waits [] p awake = let y : (if x.lent then false else is_empty x.pending) ≡ true = rw (awake, p) refl in let z = late in absurd (cc)
        waits (i ∷ js) p awake = let m : Among (λ (j : ℕ). j ≡ i) x.pending = subst (λ (ks : List ℕ). Among (λ (j : ℕ). j ≡ i) ks) (sym p) (inl refl) in
            (i, m, good.returns.waited i (a, g, subst (λ (y : Option Gather). Among (λ (j : ℕ). j ≡ i) (pending_at y)) (sym is) m))

-- a decision leaves the other gathers as they were, and its own not due
pub apart_decides : (w : World) (a : AgentId) (g : ℕ) (needs : List Need) → ((b : AgentId) (h : ℕ) → (b ≡ a → h ≢ g) → (decides w a g (w.gather a g) needs).gather b h ≡ w.gather b h) × (due_at ((decides w a g (w.gather a g) needs).gather a g) ≡ false)
unfolding Left
apart_decides w a g needs = let l = left w a g (w.gather a g) needs refl in (l.2, l.3)
