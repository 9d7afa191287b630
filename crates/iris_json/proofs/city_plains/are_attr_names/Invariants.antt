use Rattle.std.proofs.Common.{map}
use Rattle.std.specs.Map.Iter.{deref_pair}
use Rattle.serde_json.specs.View.{members_view}
use Rattle.iris_json.specs.CityRows.{EachMember, IsAttrName}
use Rattle.iris_json.proofs.city_plains.are_attr_names.Given as goal

abbrev pub invariant-loop-key : goal.invariant-loop-key
invariant-loop-key l = EachMember (λ name value. IsAttrName name) (members_view (map deref_pair l.yielded))
