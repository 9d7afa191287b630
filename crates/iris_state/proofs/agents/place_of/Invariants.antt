use Rattle.std.proofs.Common.{◌≡◌, ◌+◌, ◌-◌, ◌≤◌, drop, length}
use Rattle.std.specs.Prelude.{option_map}
use Rattle.iris_state.specs.Agents.{place_in}
use Rattle.iris_state.proofs.agents.place_of.Given as goal

abbrev pub invariant-loop-at : goal.invariant-loop-at
invariant-loop-at l = record {
  within : l.at ≤ length l.agents;
  same : place_in l.id l.agents ≡ option_map (λ n. l.at + n) (place_in l.id (drop l.at l.agents));
}

abbrev pub decreases-loop-at : goal.decreases-loop-at
decreases-loop-at l = length l.agents - l.at
