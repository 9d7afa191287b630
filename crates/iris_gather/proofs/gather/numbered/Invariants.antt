use Rattle.std.proofs.Common.{◌≡◌, ◌+◌, ◌++◌, drop}
use Rattle.std.specs.List.{enumerate_from}
use Rattle.iris_gather.proofs.gather.numbered.Given as goal

abbrev pub invariant-loop-need : goal.invariant-loop-need
invariant-loop-need l = (l.next ≡ l.first + l.need-index) × (l.asks.entries ++ enumerate_from l.next (drop l.need-index l.needs) ≡ enumerate_from l.first l.needs)
