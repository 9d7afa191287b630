use Rattle.std.proofs.Common.{◌≡◌, map, take}
use Rattle.iris_tree.specs.Universe.{label_of}
use Rattle.iris_start.proofs.pieces.labels_of.Given as goal

abbrev pub invariant-loop-node : goal.invariant-loop-node
invariant-loop-node l = l.labels.items ≡ map label_of (take l.node-index l.nodes)
