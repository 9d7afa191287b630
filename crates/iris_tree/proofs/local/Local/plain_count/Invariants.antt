use Rattle.std.proofs.Common.{◌≡◌, ◌+◌, ◌^◌, ◌<◌, drop}
use Rattle.iris_tree.specs.PlainCounts.{plains_count}
use Rattle.iris_tree.specs.TextLen.{saturated}
use Rattle.iris_tree.proofs.local.Local.plain_count.Given as goal

abbrev pub invariant-loop-element : goal.invariant-loop-element
invariant-loop-element l = (l.count < 2 ^ 64) × (saturated (l.count + plains_count (drop l.element-index l.element-items)) ≡ saturated (plains_count l.self.plain))
