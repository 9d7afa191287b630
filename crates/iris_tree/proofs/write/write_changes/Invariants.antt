use Rattle.std.proofs.Common.{◌≡◌, ◌++◌, take}
use Rattle.iris_tree.proofs.ValueTokens.{changes_tokens}
use Rattle.iris_tree.proofs.write.write_changes.Given as goal

abbrev pub invariant-loop-change : goal.invariant-loop-change
invariant-loop-change l = l.out ≡ l.initial.out ++ changes_tokens (take l.change-index l.changes)
