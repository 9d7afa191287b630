use Rattle.std.proofs.Common.{◌≤◌, Some}
use Rattle.iris_cli.specs.Sessions.{world_of}
use Rattle.iris_cli.specs.Stepped.{IsSoFar}
use Rattle.iris_cli.proofs.player.run.Given as goal

abbrev pub invariant-lines : goal.invariant-lines
invariant-lines g l = record {
  ran : IsSoFar (g.S.Source.left l.fn.source) (g.S.Source.left l.source) (g.K.Sink.held l.fn.sink) (g.K.Sink.held l.sink) l.script.number l.script.room (Some (world_of l.session));
  requests : l.session.requests ≤ l.script.number;
  posts : l.session.posts ≤ l.session.requests;
  read : g.S.Source.faults l.fn.source ≤ g.S.Source.faults l.source;
  write : g.K.Sink.faults l.fn.sink ≤ g.K.Sink.faults l.sink;
}

abbrev pub decreases-lines : goal.decreases-lines
decreases-lines g l = l.script.room
