use Rattle.std.proofs.Common.{◌≡◌, drop}
use Rattle.iris_select.specs.Places.{kid_at}
use Rattle.iris_select.proofs.items.plain_at.Given as goal

abbrev pub invariant-loop-position : goal.invariant-loop-position
invariant-loop-position l = kid_at l.plain (drop l.position-index l.below) ≡ kid_at l.initial.plain l.below
