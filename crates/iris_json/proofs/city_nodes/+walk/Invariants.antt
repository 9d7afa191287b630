use Rattle.std.proofs.Common.{codes}
use Rattle.std.specs.HashSet.{contains}
use Rattle.serde_json.specs.Data.{depth}
use Rattle.serde_json.specs.View.{view}
use Rattle.iris_base.specs.NameOrder.{label_eq}
use Rattle.iris_json.specs.CityRows.{AllHas}
use Rattle.iris_json.proofs.NodeWalk.{WalkedSo}
use Rattle.iris_json.proofs.city_nodes.+walk.Given as goal

abbrev pub decreases-walk : goal.decreases-walk
decreases-walk l = depth (view l.value.now)

abbrev pub invariant-loop-node : goal.invariant-loop-node
invariant-loop-node l = WalkedSo l.why l.kinds (contains label_eq l.labels) l.node-items l.node-index l.steps
