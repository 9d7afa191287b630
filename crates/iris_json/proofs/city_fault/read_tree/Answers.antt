use Rattle.serde_json.specs.View.{view}
use Rattle.iris_json.proofs.NodeExists.{node_exists}
use Rattle.iris_json.proofs.NodeWalk.{shape_gives}
use Rattle.iris_json.proofs.city_fault.read_tree.Goals as goal

pub unreachable-requires : goal.unreachable-requires
unreachable-requires c =
    let tree = node_exists c.args.kinds.now (view c.args.tree.now) c.requires.shape c.requires.label c.requires.twin c.requires.names c.requires.plain in
    shape_gives c.in-Err-Shape.field-0 tree.0 c.in-Err-Shape.field-0-is (c.in-Err-Shape.ensures.only tree.0 tree.1)
