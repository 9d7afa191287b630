use Rattle.iris_tree.specs.NodeCode.{size_of-found}
use Rattle.iris_json.proofs.Extents.{measured_more, measured_all}
use Rattle.iris_json.proofs.extent.Extent.+of.Goals as goal

pub of-requires : goal.of-requires
of-requires t c = (size_of-found _ _ _ _ _ c.children-child-items.ensures.value c.loop-child-test.true c.child-item.is c.decreases, tt)

pub loop-child-preserved : goal.loop-child-preserved
loop-child-preserved t c = measured_more c.args.tree.now _ _ c.child-item.result _ _ _ c.loop-child.invariant c.loop-child-test.true c.child-item.is c.of.ensures c.add.ensures

pub returns : goal.returns
returns t c = measured_all c.args.tree.now _ _ _ c.loop-child.invariant c.children-child-items.ensures.value c.loop-child-test.false
