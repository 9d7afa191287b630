use Rattle.std.proofs.Common.{◌≡◌, drop}
use Rattle.iris_tree.specs.Changes.{apply_from, apply_changes}
use Rattle.iris_tree.proofs.local.Local.change.Given as goal

abbrev pub invariant-loop-at : goal.invariant-loop-at
invariant-loop-at l = apply_from l.at l.local (drop l.at l.changes) ≡ apply_changes l.self l.changes
