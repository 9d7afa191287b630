-- A delivery, of what its parts did.
use Rattle.std.proofs.Common.{◌≡◌, inr, ℕ, true, List, ◌++◌, Option, Some, refl, sym, ap, ◌∙◌, subst}
use Rattle.std.specs.Prelude.{IfSome}
use Rattle.iris_json.specs.declared.out.Out.{Out}
use Rattle.iris_agent.specs.Outside.{Seen}
use Rattle.iris_protocol.specs.Table.{AgentId}
use Rattle.iris_runs.specs.Among.{IsSentAmong}
use Rattle.iris_runs.specs.Worlds.{Sent, World}
use Rattle.iris_state.specs.Agents.{is_here}
use Rattle.iris_state.specs.City.{IsSteady}
use Rattle.iris_state.specs.Deliveries.{HaveDecided, HasDelivered, IsCutOff}
use Rattle.iris_state.specs.Events.{HasArrivedAt}
use Rattle.iris_state.specs.Whole.{Whole, world_of}

-- the addressee of a post that is there
same_addressee : (w : World) (k : ℕ) (sent : Sent) (to : AgentId) → w.post k ≡ Some sent → IfSome (w.post k) (λ sent. sent.to ≡ to) → sent.to ≡ to
same_addressee w k sent to there is = subst (λ (o : Option Sent). IfSome o (λ sent. sent.to ≡ to)) there is

pub addressee_is : (old now : Whole) (k : ℕ) (sent : Sent) → old ≡ now → (world_of old).post k ≡ Some sent → IfSome ((world_of now).post k) (λ post. post.to ≡ sent.to)
addressee_is old now k sent same there = subst (λ (o : Option Sent). IfSome o (λ post. post.to ≡ sent.to)) (sym (ap (λ (c : Whole). (world_of c).post k) (sym same) ∙ there)) refl

-- it is of the city
pub addressee_among : (old now : Whole) (k : ℕ) (sent : Sent) → old ≡ now → (world_of old).post k ≡ Some sent → IsSteady now → is_here now.agents sent.to ≡ true
addressee_among old now k sent same there steady =
    let among : IsSentAmong (is_here now.agents) sent = subst (λ (o : Option Sent). IfSome o (IsSentAmong (is_here now.agents))) (ap (λ (c : Whole). (world_of c).post k) (sym same) ∙ there) (steady.among.posts k) in
    among.addressee

pub delivered_of : (w mid new : World) (k : ℕ) (to : AgentId) (numbers : List ℕ) (first rest lines : List Out) (before told : Seen)
    → HasArrivedAt w k mid first before told
    → IfSome (w.post k) (λ sent. sent.to ≡ to)
    → HaveDecided mid to numbers new rest
    → lines ≡ first ++ rest
    → HasDelivered w k new lines before told
delivered_of w mid new k to numbers first rest lines before told arrived addressee decided lines_are = record {
  mid = mid;
  first = first;
  rest = rest;
  arrived = arrived;
  numbers = numbers;
  decided = subst (λ (id : AgentId). HaveDecided mid id numbers new rest) (sym (same_addressee w k arrived.sent to arrived.there addressee)) decided;
  lines_are = lines_are;
}

pub cut_off_after : (w mid new : World) (k : ℕ) (to : AgentId) (numbers : List ℕ) (first rest : List Out) (before told : Seen)
    → HasArrivedAt w k mid first before told
    → IfSome (w.post k) (λ sent. sent.to ≡ to)
    → HaveDecided mid to numbers new rest
    → IsCutOff w k new before told
cut_off_after w mid new k to numbers first rest before told arrived addressee decided = inr (first ++ rest, delivered_of w mid new k to numbers first rest (first ++ rest) before told arrived addressee decided refl)
