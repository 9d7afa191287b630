use Rattle.std.proofs.Common.{◌≡◌, ℕ, ◌-◌, ◌<◌, ◌≤◌, Some, length}
use Rattle.std.specs.Prelude.{slice_get}
use Rattle.iris_gather.specs.OpenGathers.{serves_request, NoGather}
use Rattle.iris_agent.specs.Tables.{Holdings}
use Rattle.iris_state.proofs.state.State.serves.Given as goal

abbrev pub invariant-loop-at : goal.invariant-loop-at
invariant-loop-at l = record {
  within : l.at ≤ length l.self.agents;
  unserved : (place : ℕ) (h : Holdings) → place < l.at → slice_get l.self.agents place ≡ Some h → NoGather (serves_request l.request) h.gathers;
}

abbrev pub decreases-loop-at : goal.decreases-loop-at
decreases-loop-at l = length l.self.agents - l.at
