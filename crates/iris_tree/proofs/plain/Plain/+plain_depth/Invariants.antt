use Rattle.std.proofs.Common.{◌≡◌, ◌+◌, max, drop}
use Rattle.iris_tree.specs.PlainCounts.{plain_depth, plains_depth}
use Rattle.iris_tree.specs.TextLen.{saturated}
use Rattle.iris_tree.proofs.plain.Plain.+plain_depth.Given as goal

abbrev pub invariant-loop-kid : goal.invariant-loop-kid
invariant-loop-kid l = saturated (1 + max l.deepest (plains_depth (drop l.kid-index l.kid-items))) ≡ saturated (plain_depth l.self)
