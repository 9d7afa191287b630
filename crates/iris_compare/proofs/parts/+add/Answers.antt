use Rattle.iris_tree.specs.NodeCode.{size_of-found}
use Rattle.iris_compare.proofs.parts.+add.Goals as goal

pub add-requires-in-loop-child : goal.add-requires-in-loop-child
add-requires-in-loop-child t c = (size_of-found _ _ _ _ _ c.children-child-items.ensures.value c.loop-child-test.true c.child-item.is c.decreases, tt)
