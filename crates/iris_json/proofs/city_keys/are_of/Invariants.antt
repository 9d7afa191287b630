use Rattle.std.proofs.Common.{take}
use Rattle.serde_json.specs.View.{items_view}
use Rattle.iris_json.specs.CityRows.{EachItem}
use Rattle.iris_json.specs.Sorts.{IsOfSort}
use Rattle.iris_json.proofs.city_keys.are_of.Given as goal

abbrev pub invariant-loop-item : goal.invariant-loop-item
invariant-loop-item l = EachItem (IsOfSort l.sort) (items_view (take l.item-index l.items))
