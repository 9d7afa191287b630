use Rattle.std.proofs.Common.{◌≡◌, drop}
use Rattle.std.specs.List.{list_all}
use Rattle.iris_outbox.specs.Lines.{is_newest}
use Rattle.iris_state.proofs.state.are_newest.Given as goal

abbrev pub invariant-loop-cite : goal.invariant-loop-cite
invariant-loop-cite l = list_all (is_newest l.book.history) l.cites ≡ list_all (is_newest l.book.history) (drop l.cite-index l.cites)
