use Rattle.std.proofs.Common.{◌≡◌, ◌++◌, take}
use Rattle.iris_tree.proofs.ValueTokens.{plains_tokens}
use Rattle.iris_tree.proofs.plain.Plain.+write.Given as goal

abbrev pub invariant-loop-kid : goal.invariant-loop-kid
invariant-loop-kid l = l.out ≡ l.initial.out ++ plains_tokens (take l.kid-index l.kid-items)
