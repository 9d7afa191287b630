use Rattle.iris_gather.specs.Taking.{levels_left, IsBetween}
use Rattle.iris_gather.proofs.usable.Usable.part_seen.Given as goal

abbrev pub invariant-loop-over : goal.invariant-loop-over
invariant-loop-over l = IsBetween l.self.fragment.now l.self.floor l.self.moment l.view l.over

abbrev pub decreases-loop-over : goal.decreases-loop-over
decreases-loop-over l = levels_left l.self.fragment.now l.over
