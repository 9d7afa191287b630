use Rattle.std.proofs.Common.{codes}
use Rattle.serde_json.specs.Data.{depth}
use Rattle.serde_json.specs.View.{view}
use Rattle.iris_json.specs.CityRows.{PlainHas}
use Rattle.iris_json.proofs.Spots.{AllSoFar}
use Rattle.iris_json.proofs.city_plains.+all_have.Given as goal

abbrev pub decreases-all_have : goal.decreases-all_have
decreases-all_have l = depth (view l.value.now)

abbrev pub invariant-loop-item : goal.invariant-loop-item
invariant-loop-item l = AllSoFar (PlainHas l.why l.kinds) (codes "kids") l.item-items l.item-index
