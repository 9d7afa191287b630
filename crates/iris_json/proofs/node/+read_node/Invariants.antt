use Rattle.serde_json.specs.Data.{depth}
use Rattle.serde_json.specs.View.{view}
use Rattle.iris_json.proofs.NodeReading.{ReadSo}
use Rattle.iris_json.proofs.node.+read_node.Given as goal

abbrev pub decreases-read_node : goal.decreases-read_node
decreases-read_node l = depth (view l.value.now)

abbrev pub invariant-loop-node : goal.invariant-loop-node
invariant-loop-node l = ReadSo l.kinds l.nodes l.node-index l.children.items
