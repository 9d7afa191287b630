use Rattle.std.proofs.Common.{◌≡◌, take}
use Rattle.iris_tree.proofs.local.Local.copy.Given as goal

abbrev pub invariant-loop-element : goal.invariant-loop-element
invariant-loop-element l = l.plain ≡ take l.element-index l.element-items
