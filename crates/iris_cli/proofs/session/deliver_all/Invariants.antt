use Rattle.std.proofs.Common.{◌≤◌, length}
use Rattle.iris_cli.proofs.Delivered.{DeliveredSo}
use Rattle.iris_cli.proofs.session.deliver_all.Given as goal

abbrev pub invariant-posts : goal.invariant-posts
invariant-posts g l = record {
  so : DeliveredSo l.fn.site l.fn.posted.items l.site l.posted.items (g.K.Sink.held l.fn.sink) (g.K.Sink.held l.sink);
  later : g.K.Sink.faults l.fn.sink ≤ g.K.Sink.faults l.sink;
}

abbrev pub decreases-posts : goal.decreases-posts
decreases-posts g l = length l.posted.items
