use Rattle.std.proofs.Common.{◌≡◌, ◌<◌, ◌≤◌, length, get_or}
use Rattle.iris_book.specs.declared.linked.LinkedUpdate.{LinkedUpdate}
use Rattle.iris_book.proofs.LinkSteps.{before_at}
use Rattle.iris_book.proofs.links.step_back.Given as goal

abbrev pub invariant-loop-at : goal.invariant-loop-at
invariant-loop-at l = record {
  within : l.at < length l.entered;
  node : (d : LinkedUpdate) → (get_or l.entered l.at d).node ≡ (get_or l.entered l.last d).node;
  later : (d : LinkedUpdate) → l.number ≤ (get_or l.entered l.at d).before;
}

abbrev pub decreases-loop-at : goal.decreases-loop-at
decreases-loop-at l = before_at l.entered l.at
