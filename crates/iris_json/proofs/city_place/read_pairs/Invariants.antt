use Rattle.std.specs.HashSet.{contains}
use Rattle.std.specs.Cmp.Lexicographic.{pointwise}
use Rattle.iris_base.specs.NameOrder.{label_eq}
use Rattle.iris_json.proofs.PlaceReading.{PlacesSo}
use Rattle.iris_json.proofs.city_place.read_pairs.Given as goal

abbrev pub invariant-loop-item : goal.invariant-loop-item
invariant-loop-item l = PlacesSo l.agents l.tree (contains (pointwise label_eq) l.names) l.items l.item-index l.place.items l.top
