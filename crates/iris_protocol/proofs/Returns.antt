-- Delivered replies: what each part of an event leaves.
use Rattle.std.proofs.Common.{◌≡◌, ◌⊎◌, ℕ, ◌<◌, Bool, true, false, [], ◌∷◌, ◌++◌, Option, Some, refl, sym, ◌∙◌, subst, inl, inr, arith}
use Rattle.iris_protocol.specs.Table.{agents, numbers, AgentId, set_at, set_in, OfSome, Among}
use Rattle.iris_protocol.specs.World.{Gather, with_ask, answered_of, AskTable, Need, asking}
use Rattle.iris_protocol.specs.Good.{pending_at, Pending, GatherGood, Returns}
use Rattle.iris_protocol.proofs.Tables.{at_other, at_each, Among-append}
use Rattle.iris_protocol.proofs.Gathers.{pending_set, replied_less}

-- a gather changes, and has nothing more pending
pub returns_set : (q : AskTable) (gather : AgentId → ℕ → Option Gather) (a : AgentId) (g : ℕ) (x : Option Gather) (returned : ℕ → Bool) → ((i : ℕ) → Among (λ (j : ℕ). j ≡ i) (pending_at x) → Among (λ (j : ℕ). j ≡ i) (pending_at (gather a g))) → Returns q gather returned → Returns q (set_in gather a g x) returned
returns_set q gather a g x returned less r = record { waited = λ i p. r.waited i (was i (pending_set gather a g x i p)); known = r.known }
  where
    was : (i : ℕ) → Among (λ (j : ℕ). j ≡ i) (pending_at x) ⊎ Pending gather i → Pending gather i
    was i (inl m) = (a, g, less i m)
    was i (inr p) = p

-- a gather asks: the ask is new
pub returns_ask : (q : AskTable) (gather : AgentId → ℕ → Option Gather) (a : AgentId) (g : ℕ) (x : Gather) (need : Need) (returned : ℕ → Bool) → gather a g ≡ Some x → Returns q gather returned → Returns (asking q a g need) (set_in gather a g (Some (with_ask x q.count))) returned
returns_ask q gather a g x need returned is r = record { waited = λ i p. waited i (pending_set gather a g (Some (with_ask x q.count)) i p); known = λ i e. let lt = r.known i e in omega arith }
  where
    fresh : (b : Bool) → returned q.count ≡ b → returned q.count ≡ false
    fresh true e = let lt = r.known q.count e in absurd (omega arith)
    fresh false e = e

    last : (i : ℕ) → Among (λ (j : ℕ). j ≡ i) x.pending ⊎ (q.count ≡ i) → returned i ≡ false
    last i (inl m) = r.waited i (a, g, subst (λ (y : Option Gather). Among (λ (j : ℕ). j ≡ i) (pending_at y)) (sym is) m)
    last i (inr e) = subst (λ (j : ℕ). returned j ≡ false) e (fresh (returned q.count) refl)

    waited : (i : ℕ) → Among (λ (j : ℕ). j ≡ i) (x.pending ++ q.count ∷ []) ⊎ Pending gather i → returned i ≡ false
    waited i (inl m) = last i (Among-append (λ (j : ℕ). j ≡ i) x.pending q.count m)
    waited i (inr p) = r.waited i p

-- a reply is delivered to the agent that asked
pub returns_reply : (q : AskTable) (place : ℕ → AgentId) (gather : AgentId → ℕ → Option Gather) (a : AgentId) (i : ℕ) (returned : ℕ → Bool) → i < q.count → a ≡ (q.info i).agent → ((b : AgentId) (g : ℕ) → OfSome (GatherGood q place b g) (gather b g)) → Returns q gather returned → Returns q (set_at agents gather a (λ g. answered_of i (gather a g))) (set_at numbers returned i true)
returns_reply q place gather a i returned lt is kept r = record {
  waited = λ j p. let h = replied_less q place gather a i is kept j p in at_other numbers returned i true j h.1 ∙ r.waited j h.0;
  known = at_each numbers (λ j (b : Bool). b ≡ true → j < q.count) returned i true (λ _. lt) (λ j _ e. r.known j e);
}
