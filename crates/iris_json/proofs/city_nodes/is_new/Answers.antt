use Rattle.std.specs.HashSet.{contains}
use Rattle.serde_json.specs.View.{view}
use Rattle.iris_base.specs.NameOrder.{label_eq}
use Rattle.iris_json.proofs.NodeWalk.{new_label}
use Rattle.iris_json.proofs.city_nodes.is_new.Goals as goal

pub returns-in_ok-insert-in-Some : goal.returns-in_ok-insert-in-Some
returns-in_ok-insert-in-Some c earlier labels =
    new_label c.args.kinds.now (view c.args.value.now) c.in-Some.label (contains label_eq c.args.labels.now) (contains label_eq c.insert.new.self) c.in_ok-insert-in-Some.field-0 c.in-Some.ensures.found c.in_ok-insert-in-Some.ensures.updates.0 c.in_ok-insert-in-Some.ensures.added earlier labels
