use Rattle.std.proofs.Common.{◌≡◌, take, string_bytes}
use Rattle.iris_xpath.specs.Printed as form
use Rattle.iris_xpath.proofs.printing.print.Given as goal

abbrev pub invariant-loop-step : goal.invariant-loop-step
invariant-loop-step l = string_bytes l.out ≡ form.printed (take l.step-index l.step-items)
