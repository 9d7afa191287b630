use Rattle.std.proofs.Common.{◌≡◌, ◌+◌, ◌≤◌, ◌++◌, drop, length}
use Rattle.std.specs.Vec.{vec_capacity}
use Rattle.iris_outbox.specs.Lines.{post_lines}
use Rattle.iris_outbox.proofs.steps.post_lines.Given as goal

abbrev pub invariant-loop-step : goal.invariant-loop-step
invariant-loop-step l = (l.lines.items ++ post_lines l.number (drop l.step-index l.steps) ≡ post_lines l.next l.steps) × (l.number ≤ l.next + l.step-index) × (length l.steps ≤ vec_capacity l.lines)
