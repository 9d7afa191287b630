use Rattle.std.proofs.Common.{◌≡◌, ◌<◌, ◌^◌, take}
use Rattle.iris_xpath.specs.Trees.{value_of}
use Rattle.iris_xpath.proofs.operands.value_of.Given as goal

abbrev pub invariant-loop-digit : goal.invariant-loop-digit
invariant-loop-digit l = (l.value ≡ value_of (take l.digit-index l.digits)) × (l.value < 10 ^ l.digit-index)
