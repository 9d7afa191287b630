use Rattle.std.proofs.Common.{◌≡◌, take, false}
use Rattle.std.specs.List.{list_any}
use Rattle.iris_xpath.specs.Tally as tally
use Rattle.iris_xpath.proofs.tally.is_counted.Given as goal

abbrev pub invariant-loop-part : goal.invariant-loop-part
invariant-loop-part l = list_any tally.goes_far (take l.part-index l.part-items) ≡ false
