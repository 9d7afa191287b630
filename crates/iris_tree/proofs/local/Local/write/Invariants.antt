use Rattle.std.proofs.Common.{◌≡◌, ◌++◌, take}
use Rattle.iris_tree.proofs.ValueTokens.{plains_tokens}
use Rattle.iris_tree.proofs.local.Local.write.Given as goal

abbrev pub invariant-loop-element : goal.invariant-loop-element
invariant-loop-element l = l.out ≡ l.initial.out ++ plains_tokens (take l.element-index l.element-items)
