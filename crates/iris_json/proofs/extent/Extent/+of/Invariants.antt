use Rattle.std.proofs.Common.{◌≡◌, take}
use Rattle.iris_tree.specs.NodeCode.{size_of}
use Rattle.iris_json.proofs.Extents.{so_far}
use Rattle.iris_json.proofs.extent.Extent.+of.Given as goal

abbrev pub decreases-of : goal.decreases-of
decreases-of l = size_of l.tree.now

abbrev pub invariant-loop-child : goal.invariant-loop-child
invariant-loop-child l = l.extent ≡ so_far l.tree (take l.child-index l.child-items)
