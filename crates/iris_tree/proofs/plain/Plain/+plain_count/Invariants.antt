use Rattle.std.proofs.Common.{◌≡◌, ◌+◌, ◌^◌, ◌<◌, drop}
use Rattle.iris_tree.specs.PlainCounts.{plain_count, plains_count}
use Rattle.iris_tree.specs.TextLen.{saturated}
use Rattle.iris_tree.proofs.plain.Plain.+plain_count.Given as goal

abbrev pub invariant-loop-kid : goal.invariant-loop-kid
invariant-loop-kid l = (l.count < 2 ^ 64) × (saturated (l.count + plains_count (drop l.kid-index l.kid-items)) ≡ saturated (plain_count l.self))
