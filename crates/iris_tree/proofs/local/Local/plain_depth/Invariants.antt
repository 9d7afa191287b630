use Rattle.std.proofs.Common.{◌≡◌, max, drop}
use Rattle.iris_tree.specs.PlainCounts.{plains_depth}
use Rattle.iris_tree.specs.TextLen.{saturated}
use Rattle.iris_tree.proofs.local.Local.plain_depth.Given as goal

abbrev pub invariant-loop-element : goal.invariant-loop-element
invariant-loop-element l = max l.deepest (saturated (plains_depth (drop l.element-index l.element-items))) ≡ saturated (plains_depth l.self.plain)
