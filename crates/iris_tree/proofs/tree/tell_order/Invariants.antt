use Rattle.std.proofs.Common.{ℕ, ◌<◌, get_or}
use Rattle.iris_tree.specs.Universe.{Node, IsOrdered}
use Rattle.iris_tree.proofs.tree.tell_order.Given as goal

abbrev pub invariant-loop-node : goal.invariant-loop-node
invariant-loop-node l = (k : ℕ) (d : Node) → k < l.node-index → IsOrdered (get_or l.siblings k d)
