use Rattle.std.proofs.Common.{◌≡◌, take}
use Rattle.iris_tree.specs.TextLen.{counted}
use Rattle.iris_tree.proofs.ValueTokens.{plains_tokens}
use Rattle.iris_tree.proofs.plain.Plain.+count.Given as goal

abbrev pub invariant-loop-kid : goal.invariant-loop-kid
invariant-loop-kid l = l.counter ≡ counted l.initial.counter (plains_tokens (take l.kid-index l.kid-items))
