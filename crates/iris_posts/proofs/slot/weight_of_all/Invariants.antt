use Rattle.std.proofs.Common.{◌≡◌, take, sum_by}
use Rattle.iris_tree.specs.TextLen.{saturated}
use Rattle.iris_posts.proofs.slot.weight_of_all.Given as goal

abbrev pub invariant-loop-slot : goal.invariant-loop-slot
invariant-loop-slot l = l.sum ≡ saturated (sum_by (λ s. s.weight) (take l.slot-index l.slots))
