use Rattle.std.specs.HashSet.{contains}
use Rattle.std.proofs.lemmas.Result.{IfOk-weaker}
use Rattle.serde_json.specs.View.{view}
use Rattle.iris_base.specs.NameOrder.{label_eq}
use Rattle.iris_json.proofs.NodeWalk.{twin_does}
use Rattle.iris_json.proofs.city_nodes.has_own.Goals as goal

pub returns-in-Twin : goal.returns-in-Twin
returns-in-Twin c =
    IfOk-weaker c.is_new.result _ _ (λ does tells earlier labels. twin_does c.args.why c.args.kinds.now (contains label_eq c.is_new.new.labels) earlier (view c.args.value.now) does c.in-Twin.is (tells earlier (labels c.in-Twin.is))) c.is_new.ensures
