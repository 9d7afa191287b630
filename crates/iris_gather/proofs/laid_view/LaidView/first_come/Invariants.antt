use Rattle.std.proofs.Common.{All, take}
use Rattle.iris_gather.specs.Laid.{laid}
use Rattle.iris_gather.specs.Validation.{NoMoreFor}
use Rattle.iris_gather.proofs.laid_view.LaidView.first_come.Given as goal

abbrev pub invariant-loop-need : goal.invariant-loop-need
invariant-loop-need l = All (NoMoreFor l.old (laid l.self.usable.fragment.now l.self.usable.floor l.self.usable.moment l.self.view.now)) (take l.need-index l.needs)
