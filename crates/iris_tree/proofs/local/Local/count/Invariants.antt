use Rattle.std.proofs.Common.{◌≡◌, take}
use Rattle.iris_tree.specs.TextLen.{counted}
use Rattle.iris_tree.proofs.ValueTokens.{plains_tokens}
use Rattle.iris_tree.proofs.local.Local.count.Given as goal

abbrev pub invariant-loop-element : goal.invariant-loop-element
invariant-loop-element l = l.counter ≡ counted l.initial.counter (plains_tokens (take l.element-index l.element-items))
