use Rattle.std.proofs.Common.{◌≡◌, ◌++◌, drop}
use Rattle.std.specs.List.{filter_map}
use Rattle.iris_outbox.specs.Outbox.{weight_in}
use Rattle.iris_outbox.proofs.steps.post_weights.Given as goal

abbrev pub invariant-loop-step : goal.invariant-loop-step
invariant-loop-step l = l.weights.items ++ filter_map weight_in (drop l.step-index l.steps) ≡ filter_map weight_in l.steps
