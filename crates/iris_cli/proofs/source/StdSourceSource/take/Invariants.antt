use Rattle.std.proofs.Common.{◌≡◌}
use Rattle.std.specs.Io.KnownBytes.{Keeps}
use Rattle.std.specs.Io.Buffered.{reader_remaining}
use Rattle.iris_cli.proofs.source.StdSourceSource.take.Given as goal

abbrev pub invariant-loop : goal.invariant-loop
invariant-loop g l = record {
  counted : l.self.faults ≡ l.fn.self.faults;
  left : Keeps (reader_remaining g.R.Read.remaining l.fn.self.reader) (reader_remaining g.R.Read.remaining l.self.reader);
}
