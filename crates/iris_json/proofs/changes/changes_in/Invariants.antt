use Rattle.iris_json.proofs.ChangeReading.{ChangesSo}
use Rattle.iris_json.proofs.changes.changes_in.Given as goal

abbrev pub invariant-loop-item : goal.invariant-loop-item
invariant-loop-item l = ChangesSo l.items l.item-index l.changes.items
