use Rattle.std.proofs.Common.{◌≡◌, take}
use Rattle.iris_gather.proofs.verdict.copy_needs.Given as goal

abbrev pub invariant-loop-need : goal.invariant-loop-need
invariant-loop-need l = l.copy ≡ take l.need-index l.need-items
