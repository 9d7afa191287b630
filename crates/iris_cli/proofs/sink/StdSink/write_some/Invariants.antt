use Rattle.std.proofs.Common.{◌≡◌}
use Rattle.std.specs.Io.KnownBytes.{Keeps}
use Rattle.iris_cli.proofs.sink.StdSink.write_some.Given as goal

abbrev pub invariant-loop : goal.invariant-loop
invariant-loop g l = record {
  counted : l.self.faults ≡ l.fn.self.faults;
  kept : Keeps (g.W.Write.contents l.fn.self.writer) (g.W.Write.contents l.self.writer);
}
