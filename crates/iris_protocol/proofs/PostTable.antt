-- Posts that are made, that are taken in coming, and that are dropped; what is parked.
use Rattle.std.proofs.Common.{◌≡◌, ◌≢◌, ◌⊎◌, ℕ, ◌≤◌, Bool, true, false, nat_eq, if◌then◌else◌, List, [], ◌∷◌, Some, None, refl, sym, ap, ◌∙◌, subst, inl, inr, arith}
use Rattle.iris_protocol.specs.Table.{names, numbers, Name, AgentId, Among}
use Rattle.iris_protocol.specs.World.{Key, key, Mail, mail, reply, handover, Post, Opening, letter_to, PostTable, posting, marked, Node}
use Rattle.iris_protocol.specs.Good.{IsUndelivered, IsOf, Sent, Parked, Waiting}
use Rattle.iris_protocol.proofs.Tables.{eq_of, ne_of, at_same, at_other, at_each}

-- a post in coming is made
pub fly_put : (o : PostTable) (p : Post) (coming : List Post) → ((k : ℕ) → o.posts ≤ k → o.post k ≡ None) → (q : Post) → IsUndelivered o (p ∷ coming) q → IsUndelivered (posting o p) coming q
fly_put o p coming fresh q (inl f) =
    let apart : f.0 ≢ o.posts = λ e. let h = fresh o.posts (omega arith) in let g = subst (λ (k : ℕ). o.post k ≡ Some q) e f.1 in cc in
    inl (f.0, at_other numbers o.post o.posts (Some p) f.0 apart ∙ f.1, at_other numbers o.seen o.posts false f.0 apart ∙ f.2)
fly_put o p coming fresh q (inr (inl e)) = inl (o.posts, at_same numbers o.post o.posts (Some p) ∙ ap Some e, at_same numbers o.seen o.posts false)
fly_put o p coming fresh q (inr (inr h)) = inr h

-- a post that comes is in coming
pub fly_mark : (o : PostTable) (k : ℕ) (p : Post) → o.post k ≡ Some p → (q : Post) → IsUndelivered o [] q → IsUndelivered (marked o k) (p ∷ []) q
fly_mark o k p is q (inr h) = absurd h
fly_mark o k p is q (inl f) = go (nat_eq f.0 k) refl
  where
    go : (b : Bool) → nat_eq f.0 k ≡ b → IsUndelivered (marked o k) (p ∷ []) q
    go true e = let g = subst (λ (j : ℕ). o.post j ≡ Some q) (eq_of numbers f.0 k e) f.1 in let same : p ≡ q = cc in inr (inl same)
    go false e = inl (f.0, f.1, at_other numbers o.seen k true f.0 (ne_of numbers f.0 k e) ∙ f.2)

-- posts that were delivered are dropped
pub fly_forget : (o : PostTable) (q : Post) → IsUndelivered o [] q → IsUndelivered (record o { post = λ k. if o.seen k then None else o.post k }) [] q
fly_forget o q (inl f) = inl (f.0, rw f.2 f.1, f.2)
fly_forget o q (inr h) = absurd h

pub fly_more : (o : PostTable) (coming : List Post) (q : Post) → IsUndelivered o [] q → IsUndelivered o coming q
fly_more o coming q (inl f) = inl f
fly_more o coming q (inr h) = absurd h

-- the one in coming, or another
pub fly_rest : (o : PostTable) (p : Post) (coming : List Post) (q : Post) → IsUndelivered o (p ∷ coming) q → (p ≡ q) ⊎ IsUndelivered o coming q
fly_rest o p coming q (inl f) = inr (inl f)
fly_rest o p coming q (inr (inl e)) = inl e
fly_rest o p coming q (inr (inr h)) = inr (inr h)

pub fly_other : (o : PostTable) (p : Post) (coming : List Post) (q : Post) → (p ≡ q → ⊥) → IsUndelivered o (p ∷ coming) q → IsUndelivered o coming q
fly_other o p coming q ne f = go (fly_rest o p coming q f)
  where
    go : (p ≡ q) ⊎ IsUndelivered o coming q → IsUndelivered o coming q
    go (inl e) = absurd (ne e)
    go (inr r) = r

pub sent_by : (o o' : PostTable) (coming coming' : List Post) (k : Key) → ((q : Post) → IsUndelivered o coming q → IsUndelivered o' coming' q) → Sent o coming k → Sent o' coming' k
sent_by o o' coming coming' k fly s = (s.0, fly s.0 s.1, s.2)

pub sent_rest : (o : PostTable) (p : Post) (coming : List Post) (k : Key) → Sent o (p ∷ coming) k → IsOf k p.letter ⊎ Sent o coming k
sent_rest o p coming k s = go (fly_rest o p coming s.0 s.1)
  where
    go : (p ≡ s.0) ⊎ IsUndelivered o coming s.0 → IsOf k p.letter ⊎ Sent o coming k
    go (inl e) = inl (subst (λ (q : Post). IsOf k q.letter) (sym e) s.2)
    go (inr f) = inr (s.0, f, s.2)

pub sent_other : (o : PostTable) (p : Post) (coming : List Post) (k : Key) → (IsOf k p.letter → ⊥) → Sent o (p ∷ coming) k → Sent o coming k
sent_other o p coming k none s = go (sent_rest o p coming k s)
  where
    go : IsOf k p.letter ⊎ Sent o coming k → Sent o coming k
    go (inl e) = absurd (none e)
    go (inr r) = r

-- letters of one sort are none of another
pub mail_not_handover : (a : AgentId) (n : Name) (m : Mail) (b : AgentId) (l : Name) (e h : ℕ) → letter_to a (mail n m) ≡ letter_to b (handover l e h) → ⊥
mail_not_handover a n m b l e h same = let x : mail n m ≡ handover l e h = ap (λ (p : Post). p.letter) same in cc

pub mail_not_reply : (a : AgentId) (n : Name) (m : Mail) (b : AgentId) (i : ℕ) → letter_to a (mail n m) ≡ letter_to b (reply i) → ⊥
mail_not_reply a n m b i same = let x : mail n m ≡ reply i = ap (λ (p : Post). p.letter) same in cc

pub reply_not_handover : (a : AgentId) (i : ℕ) (b : AgentId) (l : Name) (e h : ℕ) → letter_to a (reply i) ≡ letter_to b (handover l e h) → ⊥
reply_not_handover a i b l e h same = let x : reply i ≡ handover l e h = ap (λ (p : Post). p.letter) same in cc

pub handover_not_reply : (a : AgentId) (n : Name) (e l : ℕ) (b : AgentId) (i : ℕ) → letter_to a (handover n e l) ≡ letter_to b (reply i) → ⊥
handover_not_reply a n e l b i same = let x : handover n e l ≡ reply i = ap (λ (p : Post). p.letter) same in cc

pub same_reply : (a : AgentId) (i : ℕ) (b : AgentId) (j : ℕ) → letter_to a (reply i) ≡ letter_to b (reply j) → i ≡ j
same_reply a i b j same = let x : reply i ≡ reply j = ap (λ (p : Post). p.letter) same in cc

-- ---- what is parked

-- what is parked stays so, where one node has changed
pub parked_on : (node : Name → Node) (n : Name) (s : Node) (a : AgentId) (k : Key) → (Among (λ (m : Mail). key m.demand ≡ k) ((node n).seat a).parked → Among (λ (m : Mail). key m.demand ≡ k) (s.seat a).parked) → Parked node a k → Parked (λ j. if names.same j n then s else node j) a k
parked_on node n s a k h p = (p.0, at_each names (λ j (x : Node). Among (λ (m : Mail). key m.demand ≡ k) ((node j).seat a).parked → Among (λ (m : Mail). key m.demand ≡ k) (x.seat a).parked) node n s h (λ j _ x. x) p.0 p.1)

pub waiting_on : (node : Name → Node) (n : Name) (s : Node) (openings : List Opening) (a : AgentId) (k : Key) → (Among (λ (m : Mail). key m.demand ≡ k) ((node n).seat a).parked → Among (λ (m : Mail). key m.demand ≡ k) (s.seat a).parked) → Waiting node openings a k → Waiting (λ j. if names.same j n then s else node j) openings a k
waiting_on node n s openings a k h (inl p) = inl (parked_on node n s a k h p)
waiting_on node n s openings a k h (inr f) = inr f
