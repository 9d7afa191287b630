use Rattle.std.proofs.Common.{◌≡◌, take, Some}
use Rattle.iris_base.specs.NameReader.{start, run, IsReading}
use Rattle.iris_base.proofs.NameReading.{spelled}
use Rattle.iris_base.proofs.reading.read_name.Given as goal

abbrev pub invariant-loop-at : goal.invariant-loop-at
invariant-loop-at l = (run start (take l.at l.bytes) ≡ Some l.reader) × IsReading l.reader × (spelled l.reader ≡ take l.at l.bytes)
