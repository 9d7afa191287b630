use Rattle.std.proofs.Common.{◌≡◌, ℕ, ◌-◌, ◌<◌, ◌≤◌, Some, length}
use Rattle.std.specs.Prelude.{slice_get}
use Rattle.iris_agent.specs.NamedAsks.{NamesNoAsk}
use Rattle.iris_agent.specs.Tables.{Holdings}
use Rattle.iris_state.proofs.forgetting.is_named.Given as goal

abbrev pub invariant-loop-at : goal.invariant-loop-at
invariant-loop-at l = record {
  within : l.at ≤ length l.agents;
  unnamed : (place : ℕ) (h : Holdings) → place < l.at → slice_get l.agents place ≡ Some h → NamesNoAsk h.titles h.gathers l.ask;
}

abbrev pub decreases-loop-at : goal.decreases-loop-at
decreases-loop-at l = length l.agents - l.at
