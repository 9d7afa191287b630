use Rattle.std.proofs.Common.{◌≡◌, map, take}
use Rattle.iris_tree.specs.PlainOrder.{canonical_plain}
use Rattle.iris_tree.proofs.plain.Plain.+canonical.Given as goal

abbrev pub invariant-loop-kid : goal.invariant-loop-kid
invariant-loop-kid l = l.kids.items ≡ map canonical_plain (take l.kid-index l.kid-items)
