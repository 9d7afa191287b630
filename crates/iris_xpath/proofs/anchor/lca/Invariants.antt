use Rattle.std.proofs.Common.{◌≡◌, take}
use Rattle.iris_xpath.specs.Anchor.{AllAnchored}
use Rattle.iris_xpath.proofs.anchor.lca.Given as goal

abbrev pub invariant-loop-step : goal.invariant-loop-step
invariant-loop-step l = (l.count ≡ l.step-index) × AllAnchored (take l.step-index l.step-items)
