use Rattle.std.proofs.Common.{inl, refl, sym}
use Rattle.serde_json.specs.Data.{object, depth}
use Rattle.serde_json.specs.View.{view, items_view, members_view}
use Rattle.iris_json.proofs.KindReading.{array_there}
use Rattle.iris_json.proofs.PlainReading.{less_deep}
use Rattle.iris_json.proofs.Spots.{listed_there, none_listed}
use Rattle.iris_json.proofs.city_plains.items_of.Goals as goal

pub returns-in-Some-clause-value : goal.returns-in-Some-clause-value
returns-in-Some-clause-value c = listed_there _ _ c.in-Some.ensures

pub returns-in-Some-clause-nests : goal.returns-in-Some-clause-nests
returns-in-Some-clause-nests c i v within is = less_deep c.args.key.now _ (object (members_view c.args.members.now.entries)) _ c.in-Some.items.now i v refl (inl (array_there _ _ c.in-Some.ensures)) within is refl

pub returns-in-None-clause-value : goal.returns-in-None-clause-value
returns-in-None-clause-value c = none_listed _ c.in-None.ensures
