use Rattle.std.proofs.Common.{◌≡◌, max, drop}
use Rattle.iris_tree.specs.PlainCounts.{plains_attributes}
use Rattle.iris_tree.specs.TextLen.{saturated}
use Rattle.iris_tree.proofs.local.Local.plain_attributes.Given as goal

abbrev pub invariant-loop-element : goal.invariant-loop-element
invariant-loop-element l = max l.most (saturated (plains_attributes (drop l.element-index l.element-items))) ≡ saturated (plains_attributes l.self.plain)
