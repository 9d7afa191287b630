use Rattle.std.proofs.Common.{◌≡◌, take}
use Rattle.iris_tree.specs.TextLen.{counted}
use Rattle.iris_tree.proofs.ValueTokens.{changes_tokens}
use Rattle.iris_tree.proofs.count.count_changes.Given as goal

abbrev pub invariant-loop-change : goal.invariant-loop-change
invariant-loop-change l = l.counter ≡ counted l.initial.counter (changes_tokens (take l.change-index l.changes))
