-- What is parked and what is released: where one message is parked, and where a handover releases all.
use Rattle.std.proofs.Common.{◌≡◌, ◌≢◌, ◌⊎◌, ℕ, Bool, true, false, if◌then◌else◌, List, [], ◌∷◌, ◌++◌, map, refl, sym, subst, inl, inr}
use Rattle.iris_protocol.specs.Table.{names, agents, Name, AgentId, set_at, Among, Distinct}
use Rattle.iris_protocol.specs.World.{Demand, query, update, ask, Key, ask_key, key, is_update, Mail, Post, mail_to, Opening, opening_at, Seat, Node, took, with_seat, is_parked, parking, released, again}
use Rattle.iris_protocol.specs.Good.{IsOf, Parked, IsOpening, Waiting}
use Rattle.iris_protocol.proofs.Tables.{split, at_other, put_at, at_each, Among-front, Among-last}
use Rattle.iris_protocol.proofs.Nodes.{is_parked_Among}
use Rattle.iris_protocol.proofs.PostTable.{waiting_on}

-- ---- one is parked

more : (k : Key) (m : Mail) (ms : List Mail) (b : Bool) → Among (λ (x : Mail). key x.demand ≡ k) ms → Among (λ (x : Mail). key x.demand ≡ k) (if b then ms else ms ++ m ∷ [])
more k m ms true h = h
more k m ms false h = Among-front (λ (x : Mail). key x.demand ≡ k) ms (m ∷ []) h

has : (m : Mail) (ms : List Mail) (b : Bool) → is_parked (key m.demand) ms ≡ b → Among (λ (x : Mail). key x.demand ≡ key m.demand) (if b then ms else ms ++ m ∷ [])
has m ms true e = is_parked_Among (key m.demand) ms e
has m ms false e = Among-last (λ (x : Mail). key x.demand ≡ key m.demand) ms m refl

pub waiting_park : (node : Name → Node) (n : Name) (a : AgentId) (m : Mail) (openings : List Opening) (b : AgentId) (k : Key) → Waiting node openings b k → Waiting (set_at names node n (with_seat (node n) a (parking ((node n).seat a) m))) openings b k
waiting_park node n a m openings b k h = waiting_on node n (with_seat (node n) a (parking ((node n).seat a) m)) openings b k
    (at_each agents (λ c (y : Seat). Among (λ (x : Mail). key x.demand ≡ k) ((node n).seat c).parked → Among (λ (x : Mail). key x.demand ≡ k) y.parked) (node n).seat a (parking ((node n).seat a) m)
    (more k m ((node n).seat a).parked (is_parked (key m.demand) ((node n).seat a).parked)) (λ c _ x. x) b) h

pub parked_it : (node : Name → Node) (n : Name) (a : AgentId) (m : Mail) → Parked (set_at names node n (with_seat (node n) a (parking ((node n).seat a) m))) a (key m.demand)
parked_it node n a m = (
  n,
  put_at names (λ (x : Node). Among (λ (y : Mail). key y.demand ≡ key m.demand) (x.seat a).parked) node n (with_seat (node n) a (parking ((node n).seat a) m))
      (put_at agents (λ (y : Seat). Among (λ (z : Mail). key z.demand ≡ key m.demand) y.parked) (node n).seat a (parking ((node n).seat a) m) (has m ((node n).seat a).parked (is_parked (key m.demand) ((node n).seat a).parked) refl)),
)

-- ---- all are released

sorted : (a : AgentId) (n : Name) (epoch : ℕ) (k : Key) (ms : List Mail) → Among (λ (m : Mail). key m.demand ≡ k) ms → Among (λ (p : Post). IsOf k p.letter) (again a n epoch ms) ⊎ IsOpening (released a n ms) a k
sorted a n epoch k [] h = absurd h
sorted a n epoch k (m ∷ ms) h = go (is_update m.demand) h (sorted a n epoch k ms)
  where
    Rest : Type 0
    Rest = Among (λ (p : Post). IsOf k p.letter) (again a n epoch ms) ⊎ IsOpening (released a n ms) a k

    go : (b : Bool) → Among (λ (x : Mail). key x.demand ≡ k) (m ∷ ms) → (Among (λ (x : Mail). key x.demand ≡ k) ms → Rest) → Among (λ (p : Post). IsOf k p.letter) (if b then mail_to a n epoch m.demand ∷ again a n epoch ms else again a n epoch ms) ⊎ IsOpening (if b then released a n ms else opening_at a n m.demand ∷ released a n ms) a k
    go true (inl e) ih = inl (inl e)
    go false (inl e) ih = inr (inl (refl, e))
    go true (inr x) ih = up (ih x)
      where
        up : Rest → Among (λ (p : Post). IsOf k p.letter) (mail_to a n epoch m.demand ∷ again a n epoch ms) ⊎ IsOpening (released a n ms) a k
        up (inl y) = inl (inr y)
        up (inr y) = inr y
    go false (inr x) ih = up (ih x)
      where
        up : Rest → Among (λ (p : Post). IsOf k p.letter) (again a n epoch ms) ⊎ IsOpening (opening_at a n m.demand ∷ released a n ms) a k
        up (inl y) = inl y
        up (inr y) = inr (inr y)

again_no_ask : (a : AgentId) (n : Name) (epoch i : ℕ) (ms : List Mail) → Among (λ (p : Post). IsOf (ask_key i) p.letter) (again a n epoch ms) → ⊥
again_no_ask a n epoch i [] h = h
again_no_ask a n epoch i (m ∷ ms) h = go m.demand h (again_no_ask a n epoch i ms)
  where
    go : (demand : Demand) → Among (λ (p : Post). IsOf (ask_key i) p.letter) (if is_update demand then mail_to a n epoch demand ∷ again a n epoch ms else again a n epoch ms) → (Among (λ (p : Post). IsOf (ask_key i) p.letter) (again a n epoch ms) → ⊥) → ⊥
    go (query r) x ih = ih x
    go (update r number) (inl e) ih = cc
    go (update r number) (inr x) ih = ih x
    go (ask j from rank) x ih = ih x

pub released_distinct : (a : AgentId) (n : Name) (ms : List Mail) → Distinct (map (λ (m : Mail). key m.demand) ms) → Distinct (map (λ (f : Opening). key f.demand) (released a n ms))
released_distinct a n [] h = tt
released_distinct a n (m ∷ ms) h = go (is_update m.demand) (released_distinct a n ms h.1)
  where
    was : (k : Key) (xs : List Mail) → Among (λ (l : Key). l ≡ k) (map (λ (f : Opening). key f.demand) (released a n xs)) → Among (λ (l : Key). l ≡ k) (map (λ (y : Mail). key y.demand) xs)
    was k [] x = x
    was k (y ∷ ys) x = step (is_update y.demand) x (was k ys)
      where
        step : (b : Bool) → Among (λ (l : Key). l ≡ k) (map (λ (f : Opening). key f.demand) (if b then released a n ys else opening_at a n y.demand ∷ released a n ys)) → (Among (λ (l : Key). l ≡ k) (map (λ (f : Opening). key f.demand) (released a n ys)) → Among (λ (l : Key). l ≡ k) (map (λ (z : Mail). key z.demand) ys)) → Among (λ (l : Key). l ≡ k) (map (λ (z : Mail). key z.demand) (y ∷ ys))
        step true z ih = inr (ih z)
        step false (inl e) ih = inl e
        step false (inr z) ih = inr (ih z)

    go : (b : Bool) → Distinct (map (λ (f : Opening). key f.demand) (released a n ms)) → Distinct (map (λ (f : Opening). key f.demand) (if b then released a n ms else opening_at a n m.demand ∷ released a n ms))
    go true r = r
    go false r = (λ x. h.0 (was (key m.demand) ms x), r)

-- what was parked with the owner to come is posted again, or is to be opened
pub waiting_take : (node : Name → Node) (n : Name) (owner : AgentId) (epoch last at : ℕ) (a : AgentId) (k : Key) → Waiting node [] a k → Waiting (set_at names node n (with_seat (node n) owner (took ((node n).seat owner) epoch last))) (released owner n ((node n).seat owner).parked) a k ⊎ Among (λ (p : Post). IsOf k p.letter) (again owner n at ((node n).seat owner).parked)
waiting_take node n owner epoch last at a k (inr f) = absurd f
waiting_take node n owner epoch last at a k (inl (m, h)) = go (split names m n) (split agents a owner)
  where
    seat : Seat
    seat = took ((node n).seat owner) epoch last

    new : Node
    new = with_seat (node n) owner seat

    Goal : Type 0
    Goal = Waiting (set_at names node n new) (released owner n ((node n).seat owner).parked) a k ⊎ Among (λ (p : Post). IsOf k p.letter) (again owner n at ((node n).seat owner).parked)

    openings : a ≡ owner → Among (λ (p : Post). IsOf k p.letter) (again owner n at ((node n).seat owner).parked) ⊎ IsOpening (released owner n ((node n).seat owner).parked) owner k → Goal
    openings same (inl x) = inr x
    openings same (inr x) = inl (inr (subst (λ (b : AgentId). IsOpening (released owner n ((node n).seat owner).parked) b k) (sym same) x))

    go : (m ≡ n) ⊎ (m ≢ n) → (a ≡ owner) ⊎ (a ≢ owner) → Goal
    go (inr ne) _ = inl (inl (m, subst (λ (x : Node). Among (λ (v : Mail). key v.demand ≡ k) (x.seat a).parked) (sym (at_other names node n new m ne)) h))
    go (inl same) (inr ne) =
        let h2 = subst (λ (j : Name). Among (λ (v : Mail). key v.demand ≡ k) ((node j).seat a).parked) same h in
        inl (inl (n, put_at names (λ (x : Node). Among (λ (v : Mail). key v.demand ≡ k) (x.seat a).parked) node n new (subst (λ (y : Seat). Among (λ (v : Mail). key v.demand ≡ k) y.parked) (sym (at_other agents (node n).seat owner seat a ne)) h2)))
    go (inl same) (inl is) =
        let h2 = subst (λ (j : Name). Among (λ (v : Mail). key v.demand ≡ k) ((node j).seat a).parked) same h in
        let h3 = subst (λ (c : AgentId). Among (λ (v : Mail). key v.demand ≡ k) ((node n).seat c).parked) is h2 in
        openings is (sorted owner n at k ((node n).seat owner).parked h3)

pub asks_take : (node : Name → Node) (n : Name) (owner : AgentId) (epoch last : ℕ) (a : AgentId) (i : ℕ) → Waiting node [] a (ask_key i) → Waiting (set_at names node n (with_seat (node n) owner (took ((node n).seat owner) epoch last))) (released owner n ((node n).seat owner).parked) a (ask_key i)
asks_take node n owner epoch last a i h = go (waiting_take node n owner epoch last epoch a (ask_key i) h)
  where
    go : Waiting (set_at names node n (with_seat (node n) owner (took ((node n).seat owner) epoch last))) (released owner n ((node n).seat owner).parked) a (ask_key i) ⊎ Among (λ (p : Post). IsOf (ask_key i) p.letter) (again owner n epoch ((node n).seat owner).parked) → Waiting (set_at names node n (with_seat (node n) owner (took ((node n).seat owner) epoch last))) (released owner n ((node n).seat owner).parked) a (ask_key i)
    go (inl x) = x
    go (inr x) = absurd (again_no_ask owner n epoch i ((node n).seat owner).parked x)
