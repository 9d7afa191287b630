use Rattle.std.proofs.Common.{subst}
use Rattle.serde_json.specs.Data.{Data}
use Rattle.serde_json.specs.View.{view}
use Rattle.iris_json.specs.CityKeys.{LabelAt}
use Rattle.iris_json.proofs.MemberKeys.{object_of}
use Rattle.iris_json.proofs.NodeWalk.{shape_gives}
use Rattle.iris_json.proofs.city_nodes.label_of.Goals as goal

pub returns-in-Err-clause-missing : goal.returns-in-Err-clause-missing
returns-in-Err-clause-missing c e has =
    let at = subst (λ (d : Data). LabelAt c.args.kinds.now d has.0) (object_of (view c.args.value.now) _ c.in_ok-as_object.ensures) has.1 in
    shape_gives _ has.0 c.in-Err.ensures.free (c.in-Err.ensures.only has.0 at)
