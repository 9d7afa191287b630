use Rattle.std.proofs.Common.{◌≡◌, ◌++◌, drop}
use Rattle.std.specs.List.{filter_map}
use Rattle.iris_outbox.specs.Outbox.{cites_in}
use Rattle.iris_outbox.proofs.steps.answer_cites.Given as goal

abbrev pub invariant-loop-step : goal.invariant-loop-step
invariant-loop-step l = l.all.items ++ filter_map cites_in (drop l.step-index l.steps) ≡ filter_map cites_in l.steps
