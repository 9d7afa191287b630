use Rattle.serde_json.specs.Data.{depth}
use Rattle.serde_json.specs.View.{view}
use Rattle.iris_json.proofs.PlainReading.{ReadSo}
use Rattle.iris_json.proofs.plain.+read_plain.Given as goal

abbrev pub decreases-read_plain : goal.decreases-read_plain
decreases-read_plain l = depth (view l.value.now)

abbrev pub invariant-loop-item : goal.invariant-loop-item
invariant-loop-item l = ReadSo l.items l.item-index l.kids.items
