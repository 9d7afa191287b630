use Rattle.iris_json.proofs.PlainReading.{ReadSo}
use Rattle.iris_json.proofs.plain.read_plains.Given as goal

abbrev pub invariant-loop-item : goal.invariant-loop-item
invariant-loop-item l = ReadSo l.items l.item-index l.plains.items
