use Rattle.std.proofs.Common.{◌≡◌, drop}
use Rattle.iris_tree.specs.Universe.{part_at}
use Rattle.iris_tree.proofs.tree.Tree.find.Given as goal

abbrev pub invariant-loop-label : goal.invariant-loop-label
invariant-loop-label l = part_at l.node (drop l.label-index l.below) ≡ part_at l.self l.below
