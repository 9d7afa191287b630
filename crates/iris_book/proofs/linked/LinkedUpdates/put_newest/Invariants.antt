use Rattle.std.proofs.Common.{◌≡◌}
use Rattle.iris_tree.specs.Document.{with_locals}
use Rattle.iris_book.proofs.NewestDocument.{put_some}
use Rattle.iris_book.proofs.linked.LinkedUpdates.put_newest.Given as goal

abbrev pub invariant-loop-node : goal.invariant-loop-node
invariant-loop-node l = l.document ≡ with_locals l.initial.document (put_some l.self-inside.names.keys l.self.updates l.node)
