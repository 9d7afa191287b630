use Rattle.std.proofs.Common.{◌≡◌, take}
use Rattle.iris_xpath.specs.Tally as tally
use Rattle.iris_xpath.proofs.tally.tally_main.Given as goal

abbrev pub invariant-loop-step : goal.invariant-loop-step
invariant-loop-step l = l.all ≡ tally.capped (tally.main_tally (take l.step-index l.steps))
