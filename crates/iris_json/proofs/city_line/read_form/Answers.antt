use Rattle.std.proofs.Common.{sym, subst}
use Rattle.serde_json.specs.View.{view}
use Rattle.iris_json.specs.CityReads.{IsNoCity}
use Rattle.iris_json.specs.CityRows.{city_keys}
use Rattle.iris_json.proofs.CityFaults.{lacks_shape, has_none}
use Rattle.iris_json.proofs.MemberKeys.{object_of}
use Rattle.iris_json.proofs.CityReading.{no_members}
use Rattle.iris_json.proofs.city_line.read_form.Goals as goal

pub returns-in_default-clause-refused : goal.returns-in_default-clause-refused
returns-in_default-clause-refused c = lacks_shape (view c.args.value.now) (λ shape. no_members city_keys (view c.args.value.now) c.in_default.ensures shape.0.keys)

pub returns-in_default-clause-none : goal.returns-in_default-clause-none
returns-in_default-clause-none c kinds agents caps place tree zone show says = no_members city_keys (view c.args.value.now) c.in_default.ensures says.keys

pub returns-in_ok-node-in-Err-Shape-clause-none : goal.returns-in_ok-node-in-Err-Shape-clause-none
returns-in_ok-node-in-Err-Shape-clause-none c = subst IsNoCity (sym (object_of (view c.args.value.now) _ c.in-Some.ensures)) (has_none c.in-Err-Shape.field-0 _ c.in-Err-Shape.field-0-is c.in-Err-Shape.ensures.refused)
