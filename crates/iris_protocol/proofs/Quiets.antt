-- Where every post was delivered and no gather is due or lent, the world is quiet.
use Rattle.std.proofs.Common.{◌≡◌, ◌≢◌, ◌⊎◌, ℕ, zero, suc, ◌+◌, ◌<◌, ◌≤◌, Bool, true, false, if◌then◌else◌, List, [], ◌∷◌, Option, Some, None, refl, sym, ap, ◌∙◌, subst, inl, inr, arith}
use Rattle.iris_protocol.specs.Table.{Name, AgentId, OfSome, Each, Among}
use Rattle.iris_protocol.specs.World.{Key, request, ask_key, key, Mail, Post, Parent, asker, Gather, is_empty, World, seat_at}
use Rattle.iris_protocol.specs.Good.{IsHeld, IsInTransit, IsUndelivered, Sent, Waiting, parent_at, pending_at, Pending, Serving, IsAskOf, ParentGood, GatherGood, Replied, Good}
use Rattle.iris_protocol.specs.Settle.{Choices, FitsAll, decides_each, delivers, is_fresh, first_from, lowest, deliveries, settles, due_at, lent_at, NoneDue, NoneLent, Still, Quiet}
use Rattle.iris_protocol.proofs.Tables.{of_some}
use Rattle.iris_protocol.proofs.Nodes.{held_none}
use Rattle.iris_protocol.proofs.Dues.{each_keeps, each_lent, each_none_due, delivers_none_due, delivers_keeps, delivers_lent}

no_flying : (w : World) → Still w → (p : Post) → IsUndelivered w.posted [] p → ⊥
no_flying w still p (inl f) = still f.0 p f.1 f.2
no_flying w still p (inr h) = h

held_of : (w : World) → Good w [] [] → Still w → (n : Name) → IsHeld (w.node n)
held_of w g still n = go (g.titles.nodes n).title
  where
    go : IsHeld (w.node n) ⊎ IsInTransit (w.node n) → IsHeld (w.node n)
    go (inl h) = h
    go (inr a) = let t = g.titles.transit n a in absurd (no_flying w still _ t.1)

none_of : (ms : List Mail) → Each (λ (m : Mail). ⊥) ms → ms ≡ []
none_of [] h = refl
none_of (m ∷ ms) h = absurd h.0

parked_of : (w : World) → Good w [] [] → Still w → (n : Name) (a : AgentId) → (seat_at w n a).parked ≡ []
parked_of w g still n a = none_of (seat_at w n a).parked (held_none (w.node n) (g.titles.nodes n) (held_of w g still n) a)

no_waiting : (w : World) → Good w [] [] → Still w → (a : AgentId) (k : Key) → Waiting w.node [] a k → ⊥
no_waiting w g still a k (inr f) = f
no_waiting w g still a k (inl (n, h)) = subst (λ (ms : List Mail). Among (λ (m : Mail). key m.demand ≡ k) ms) (parked_of w g still n a) h

-- an open gather waits for one of a lower rank
module _ (w : World) (g : Good w [] []) (still : Still w) (due : NoneDue w) (lent : NoneLent w) where
  no_opened : (n : ℕ) (a : AgentId) (h : ℕ) (x : Gather) → w.gather a h ≡ Some x → x.rank < n → ⊥
  no_opened zero a h x e lt = omega arith
  no_opened (suc n) a h x e lt = go x.pending refl (no_opened n)
    where
      free : x.lent ≡ false
      free = sym (ap lent_at e) ∙ lent a h

      late : (if x.lent then false else is_empty x.pending) ≡ false
      late = sym (ap due_at e) ∙ due a h

      good : GatherGood w.asks w.place a h x
      good = of_some (GatherGood w.asks w.place a h) (w.gather a h) x e (g.gathers.kept a h)

      go : (is : List ℕ) → x.pending ≡ is → ((b : AgentId) (j : ℕ) (y : Gather) → w.gather b j ≡ Some y → y.rank < n → ⊥) → ⊥
      go [] p ih = let y : (if x.lent then false else is_empty x.pending) ≡ true = rw (free, p) refl in let z = late in cc
      go (i ∷ is) p ih = by_carrier (g.gathers.carried i waits)
        where
          waits : Pending w.gather i
          waits = (a, h, subst (λ (js : List ℕ). Among (λ (j : ℕ). j ≡ i) js) (sym (ap pending_at e ∙ p)) (inl refl))

          lower : (w.asks.info i).rank < x.rank
          lower = (subst (λ (js : List ℕ). Each (IsAskOf w.asks a h x.rank) js) p good.pending).0.3

          below : (b : AgentId) (k : ℕ) (from : AgentId) (o : Option Gather) → w.gather b k ≡ o → parent_at o ≡ Some (asker i from) → OfSome (GatherGood w.asks w.place b k) o → ⊥
          below b k from None c f q = cc
          below b k from (Some y) c f q =
              let is_for : y.parent ≡ asker i from = cc in
              let r = (subst (λ (t : Parent). ParentGood w.asks y.rank t) is_for q.parent).2 in
              let l = lower in
              ih b k y c (omega arith)

          by_holder : (b : AgentId) → Waiting w.node [] b (ask_key i) ⊎ Serving w.gather b i ⊎ Replied w.posted [] w.asks i → ⊥
          by_holder b (inl m) = no_waiting w g still b (ask_key i) m
          by_holder b (inr (inl (k, from, f))) = below b k from (w.gather b k) refl f (g.gathers.kept b k)
          by_holder b (inr (inr f)) = no_flying w still _ f

          by_carrier : Sent w.posted [] (ask_key i) ⊎ ((b : AgentId) × (w.knows b i ≡ true)) → ⊥
          by_carrier (inl s) = no_flying w still s.0 s.1
          by_carrier (inr (b, k)) = by_holder b (g.gathers.held i b waits k)

  none_opened : (a : AgentId) (h : ℕ) → w.gather a h ≡ None
  none_opened a h = go (w.gather a h) refl
    where
      go : (o : Option Gather) → w.gather a h ≡ o → o ≡ None
      go None e = refl
      go (Some x) e = absurd (no_opened (suc x.rank) a h x e (omega arith))

  pub quiet_of : Quiet w
  quiet_of = record {
    held = held_of w g still;
    parked = parked_of w g still;
    closed = none_opened;
    answered = λ r lt. (λ e. carrier r (g.requests.carried r lt e), λ a h e. let x = sym (g.requests.serving r a h e) ∙ ap parent_at (none_opened a h) in cc);
  }
    where
      carrier : (r : ℕ) → Sent w.posted [] (request r) ⊎ ((a : AgentId) × Waiting w.node [] a (request r)) → ⊥
      carrier r (inl s) = no_flying w still s.0 s.1
      carrier r (inr (a, m)) = no_waiting w g still a (request r) m

-- ---- settle

none_from : (w : World) (count k : ℕ) → first_from w count k ≡ None → (j : ℕ) (p : Post) → k ≤ j → j < k + count → w.posted.post j ≡ Some p → w.posted.seen j ≡ false → ⊥
none_from w zero k e j p le lt is new = omega arith
none_from w (suc count) k e j p le lt is new = go (is_fresh (w.posted.post k) (w.posted.seen k)) refl e (none_from w count (suc k)) (near j k)
  where
    near : (j k : ℕ) → (j ≡ k) ⊎ (j ≢ k)
    near j k = grind arith

    go : (b : Bool) → is_fresh (w.posted.post k) (w.posted.seen k) ≡ b → (if b then Some k else first_from w count (suc k)) ≡ None → (first_from w count (suc k) ≡ None → (j : ℕ) (p : Post) → suc k ≤ j → j < suc k + count → w.posted.post j ≡ Some p → w.posted.seen j ≡ false → ⊥) → (j ≡ k) ⊎ (j ≢ k) → ⊥
    go true x y ih n = cc
    go false x y ih (inr ne) = ih y j p (omega arith) (omega arith) is new
    go false x y ih (inl same) =
        let a = subst (λ (i : ℕ). w.posted.post i ≡ Some p) same is in
        let b = subst (λ (i : ℕ). w.posted.seen i ≡ false) same new in
        let c : is_fresh (w.posted.post k) (w.posted.seen k) ≡ true = rw (a, b) refl in
        cc

pub still_of : (w : World) → Good w [] [] → lowest w ≡ None → Still w
still_of w g e k p is new = go (below k w.posted.posts)
  where
    below : (j m : ℕ) → (j < m) ⊎ (m ≤ j)
    below j m = grind arith

    go : (k < w.posted.posts) ⊎ (w.posted.posts ≤ k) → ⊥
    go (inl lt) = none_from w w.posted.posts 0 e k p (omega arith) (omega arith) is new
    go (inr le) = let h = g.letters.fresh k le in cc

-- good, with no gather due or lent
record Ready (w : World) : Type 0 where
  good : Good w [] []
  due : NoneDue w
  lent : NoneLent w

deliveries_keep : (choices : Choices) → FitsAll choices → (most : ℕ) (w : World) → Ready w → Ready (deliveries choices most w)
deliveries_keep choices fits zero w r = r
deliveries_keep choices fits (suc most) w r = go (λ k. deliveries_keep choices fits most (delivers choices w k) (record { good = delivers_keeps choices fits w k r.good; due = delivers_none_due choices w k r.good r.due; lent = delivers_lent choices w k r.lent })) (lowest w)
  where
    go : ((k : ℕ) → Ready (deliveries choices most (delivers choices w k))) → (o : Option ℕ) → Ready (elim o [ None ↦ w | Some k ↦ deliveries choices most (delivers choices w k) ])
    go ih None = r
    go ih (Some k) = ih k

-- the decisions with which a settle begins leave none due
begins : (choices : Choices) → FitsAll choices → (w : World) → Good w [] [] → NoneLent w → Ready (decides_each choices w.place w.gathers 0 w)
begins choices fits w g lent = record { good = each_keeps choices fits w.place w.gathers 0 w g; due = each_none_due choices w.place w (λ b h ne. none b h ne (w.gather b h) refl (g.gathers.kept b h)) g; lent = each_lent choices w.place w.gathers 0 w lent }
  where
    none : (b : AgentId) (h : ℕ) → (b ≡ w.place h → ⊥) → (o : Option Gather) → w.gather b h ≡ o → OfSome (GatherGood w.asks w.place b h) o → due_at o ≡ false
    none b h ne None e k = refl
    none b h ne (Some x) e k = absurd (ne (sym k.here))

pub settled : (choices : Choices) → FitsAll choices → (most : ℕ) (w : World) → Good w [] [] → NoneLent w → lowest (settles choices most w) ≡ None → Quiet (settles choices most w)
settled choices fits most w g lent e =
    let r = deliveries_keep choices fits most (decides_each choices w.place w.gathers 0 w) (begins choices fits w g lent) in
    quiet_of (settles choices most w) r.good (still_of (settles choices most w) r.good e) r.due r.lent
