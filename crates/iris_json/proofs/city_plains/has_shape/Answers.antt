use Rattle.std.proofs.Common.{sym, subst, rules}
use Rattle.serde_json.specs.View.{view}
use Rattle.iris_json.specs.CityRows.{HasPlainShape}
use Rattle.iris_json.proofs.MemberKeys.{object_of}
use Rattle.iris_json.proofs.city_plains.has_shape.Goals as goal

pub returns : goal.returns
returns c =
    let same = object_of (view c.args.value.now) _ c.in-Some.ensures in (
      λ h. subst HasPlainShape (sym same) (record { keys = search rules; tag = c.has_text.ensures.0 (search rules); attrs = c.has_text_attrs.ensures.0 (search rules); text = c.may_text.ensures.0 (search rules); kids = c.may_list.ensures.0 h }),
      λ shape. c.may_list.ensures.1 (subst HasPlainShape same shape).kids,
    )
