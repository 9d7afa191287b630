use Rattle.iris_json.proofs.KindReading.{CapsSo}
use Rattle.iris_json.proofs.city_keys.read_list_of_caps.Given as goal

abbrev pub invariant-loop-item : goal.invariant-loop-item
invariant-loop-item l = CapsSo l.items l.item-index l.caps.items l.together
