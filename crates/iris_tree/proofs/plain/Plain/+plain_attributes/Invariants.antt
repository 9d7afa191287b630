use Rattle.std.proofs.Common.{◌≡◌, max, drop}
use Rattle.iris_tree.specs.PlainCounts.{plain_attributes, plains_attributes}
use Rattle.iris_tree.specs.TextLen.{saturated}
use Rattle.iris_tree.proofs.plain.Plain.+plain_attributes.Given as goal

abbrev pub invariant-loop-kid : goal.invariant-loop-kid
invariant-loop-kid l = max l.most (saturated (plains_attributes (drop l.kid-index l.kid-items))) ≡ saturated (plain_attributes l.self)
