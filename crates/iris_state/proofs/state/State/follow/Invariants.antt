use Rattle.std.proofs.Common.{◌≡◌, length}
use Rattle.std.specs.Vec.Iter.{into_iter_items, into_iter_len}
use Rattle.iris_outbox.specs.Lines.{lines_of}
use Rattle.iris_state.proofs.Following.{AreMade}
use Rattle.iris_state.proofs.state.State.follow.Given as goal

abbrev pub invariant-loop-step : goal.invariant-loop-step
invariant-loop-step l =
    (goal.iterator-loop-step).can_next l.step-iterator
    × (goal.iterator-loop-step).is_finite l.step-iterator
    × AreMade l.fn.self (into_iter_items l.initial.step-iterator) (lines_of l.fn.self.outbox.posts.made l.fn.self.book.history (into_iter_items l.initial.step-iterator)) l.self (into_iter_items l.step-iterator)
    × (into_iter_len l.step-iterator ≡ length (into_iter_items l.step-iterator))
