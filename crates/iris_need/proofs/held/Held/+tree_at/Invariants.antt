use Rattle.std.proofs.Common.{◌≡◌}
use Rattle.iris_tree.specs.Universe.{Node, label_of}
use Rattle.iris_need.specs.HeldParts.{IsHeldAt}
use Rattle.iris_need.proofs.Grown.{IsGrown}
use Rattle.iris_need.proofs.held.Held.+tree_at.Given as goal

abbrev pub decreases-tree_at : goal.decreases-tree_at
decreases-tree_at l = l.levels

abbrev pub invariant-loop-child : goal.invariant-loop-child
invariant-loop-child l = record {
  tree : (document n : Node) → IsHeldAt document l.self.view.now l.self.needs.now l.fn.name n → label_of n ≡ l.fn.label → IsGrown l.self.needs.now l.fn.name n l.tree l.child-index;
  name : l.name ≡ l.fn.name;
}
