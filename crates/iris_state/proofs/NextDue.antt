-- The lowest number of a gather that is due at any agent.
use Rattle.std.proofs.Common.{◌≡◌, ◌⊎◌, inl, inr, ℕ, ◌+◌, ◌<◌, ◌≤◌, nat_lt, Bool, true, false, List, Option, Some, None, length, refl, sym, ap, ◌∙◌, subst, arith}
use Rattle.std.proofs.lemmas.Option.{same_Some, slice_get_within}
use Rattle.std.specs.Prelude.{IfSome, slice_get}
use Rattle.iris_gather.specs.OpenGathers.{gather_at, is_due}
use Rattle.iris_agent.specs.Tables.{Holdings, Tables, tables_of}
use Rattle.iris_protocol.specs.Table.{AgentId}
use Rattle.iris_state.specs.Agents.{place_in}
use Rattle.iris_state.specs.City.{IsSteady}
use Rattle.iris_state.specs.Deliveries.{is_due_at, IsBelow, IsLower, IsNextDue, NoneDue}
use Rattle.iris_state.specs.Whole.{Whole, world_of}
use Rattle.iris_state.proofs.DecidedAt.{agent_there, due_here}
use Rattle.iris_state.proofs.Judging.{place_there}

-- Of the agents at the first places that gather is the one of the lowest number.
pub record AreLowest (hs : List Holdings) (at : ℕ) (next : Option (AgentId × ℕ)) : Type 0 where
  pub within : at ≤ length hs
  pub one : IfSome next (λ r. (place : ℕ) × (h : Holdings) × ((slice_get hs place ≡ Some h) × ((h.id ≡ r.0) × (is_due (gather_at h.gathers r.1) ≡ true))))
  pub lowest : (number : ℕ) → IsBelow next number → (place : ℕ) (h : Holdings) → place < at → slice_get hs place ≡ Some h → is_due (gather_at h.gathers number) ≡ false

-- and so it is with the next agent
pub lowest_on : (hs : List Holdings) (at : ℕ) (x : Holdings) (next result : Option (AgentId × ℕ)) → AreLowest hs at next → at < length hs → slice_get hs at ≡ Some x → IsLower next x result → AreLowest hs (at + 1) result
lowest_on hs at x next result before more there lower = record {
  within = omega (arith, more);
  one = one result lower.one;
  lowest = λ number below place h low is. lowest number (lower.lowest number below) place h low is (nat_lt place at) refl;
}
  where
    At : AgentId × ℕ → Type 0
    At r = (place : ℕ) × (h : Holdings) × ((slice_get hs place ≡ Some h) × ((h.id ≡ r.0) × (is_due (gather_at h.gathers r.1) ≡ true)))

    of_one : (r : AgentId × ℕ) → (next ≡ Some r) ⊎ ((x.id ≡ r.0) × (is_due (gather_at x.gathers r.1) ≡ true)) → At r
    of_one r (inl same) = subst (λ (o : Option (AgentId × ℕ)). IfSome o At) same before.one
    of_one r (inr own) = (at, x, (there, own))

    one : (result : Option (AgentId × ℕ)) → IfSome result (λ r. (next ≡ Some r) ⊎ ((x.id ≡ r.0) × (is_due (gather_at x.gathers r.1) ≡ true))) → IfSome result At
    one None is = tt
    one (Some r) is = of_one r is

    lowest : (number : ℕ) → IsBelow next number × (is_due (gather_at x.gathers number) ≡ false) → (place : ℕ) (h : Holdings) → place < at + 1 → slice_get hs place ≡ Some h → (b : Bool) → nat_lt place at ≡ b
        → is_due (gather_at h.gathers number) ≡ false
    lowest number below place h low is true less = before.lowest number below.0 place h (grind arith) is
    lowest number below place h low is false not_less =
        let from : at ≤ place = grind arith in
        let same : place ≡ at = omega (arith, from, low) in
        ap (λ (o : Holdings). is_due (gather_at o.gathers number)) (sym (same_Some _ _ (sym there ∙ ap (slice_get hs) (sym same) ∙ is))) ∙ below.1

-- ---- of a city

within : (now : Whole) (at : ℕ) → length now.agents ≤ at → (place : ℕ) (h : Holdings) → slice_get now.agents place ≡ Some h → place < at
within now at all place h there = let inside = slice_get_within now.agents place h there in omega (arith, inside, all)

-- what is due at no place is due at no agent
not_due_at : (old : Whole) (number : ℕ) → ((place : ℕ) (h : Holdings) → slice_get old.agents place ≡ Some h → is_due (gather_at h.gathers number) ≡ false) → (id : AgentId) → is_due_at (world_of old) id number ≡ false
unfolding tables_of
not_due_at old number none id = by (place_in id old.agents) refl
  where
    by : (o : Option ℕ) → place_in id old.agents ≡ o → is_due_at (world_of old) id number ≡ false
    by None is = due_here old id number is
    by (Some place) is =
        let h = place_there old.agents id place is in
        ap (λ (t : Tables). is_due (t.gather number)) (agent_there old id place h.0 is h.1) ∙ none place h.0 h.1

pub next_there : (now : Whole) (at : ℕ) (next : Option (AgentId × ℕ)) → length now.agents ≤ at → AreLowest now.agents at next → IsSteady now → IfSome next (λ r. IsNextDue (world_of now) r.0 r.1)
unfolding tables_of
next_there now at None all lowest steady = tt
next_there now at (Some r) all lowest steady =
    let one = lowest.one in
    let h = one.1 in
    let own : place_in r.0 now.agents ≡ Some one.0 = ap (λ (id : AgentId). place_in id now.agents) (sym one.2.1.0) ∙ steady.ids one.0 h one.2.0 in
    record {
      due = ap (λ (t : Tables). is_due (t.gather r.1)) (agent_there now r.0 one.0 h own one.2.0) ∙ one.2.1.1;
      lowest = λ other lower less. not_due_at now lower (λ place h there. lowest.lowest lower less place h (within now at all place h there) there) other;
    }

pub none_next : (now : Whole) (at : ℕ) (next : Option (AgentId × ℕ)) → length now.agents ≤ at → AreLowest now.agents at next → next ≡ None → (id : AgentId) → NoneDue (world_of now) id
none_next now at None all lowest none id = λ number. not_due_at now number (λ place h there. lowest.lowest number tt place h (within now at all place h there) there) id
none_next now at (Some r) all lowest none id = absurd (cc)
