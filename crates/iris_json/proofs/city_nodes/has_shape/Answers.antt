use Rattle.std.proofs.Common.{sym, subst, rules}
use Rattle.serde_json.specs.View.{view}
use Rattle.iris_json.specs.CityRows.{HasNodeShape}
use Rattle.iris_json.proofs.MemberKeys.{object_of}
use Rattle.iris_json.proofs.city_nodes.has_shape.Goals as goal

pub returns : goal.returns
returns c =
    let same = object_of (view c.args.value.now) _ c.in-Some.ensures in (
      λ h. subst HasNodeShape (sym same) (record { keys = search rules; kind = c.has_text.ensures.0 (search rules); id = c.has_text-2.ensures.0 (search rules); attrs = c.has_text_attrs.ensures.0 (search rules); plain = c.may_list.ensures.0 (search rules); nodes = c.may_list-2.ensures.0 h }),
      λ shape. c.may_list-2.ensures.1 (subst HasNodeShape same shape).nodes,
    )
