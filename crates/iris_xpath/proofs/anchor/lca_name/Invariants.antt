use Rattle.std.proofs.Common.{take}
use Rattle.iris_xpath.specs.Anchor.{HaveLabels}
use Rattle.iris_xpath.proofs.anchor.lca_name.Given as goal

abbrev pub invariant-loop-step : goal.invariant-loop-step
invariant-loop-step l = HaveLabels (take l.step-index l.step-items) l.name
