use Rattle.iris_tree.specs.NodeCode.{size_of}
use Rattle.iris_compare.proofs.parts.+add.Given as goal

abbrev pub decreases-add : goal.decreases-add
decreases-add l = size_of l.node.now
