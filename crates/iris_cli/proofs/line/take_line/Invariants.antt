use Rattle.std.proofs.Common.{◌≤◌, ◌+◌, ◌-◌, vec_len}
use Rattle.iris_cli.proofs.Lines.{LineSoFar}
use Rattle.iris_cli.proofs.line.take_line.Given as goal

abbrev pub invariant-parts : goal.invariant-parts
invariant-parts g l = record {
  so : LineSoFar l.limit (g.S.Source.left l.fn.source) (g.S.Source.left l.source) l.line.items;
  later : g.S.Source.faults l.fn.source ≤ g.S.Source.faults l.source;
}

abbrev pub decreases-parts : goal.decreases-parts
decreases-parts g l = l.limit + 1 - vec_len l.line
