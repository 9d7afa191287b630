use Rattle.std.proofs.Common.{drop}
use Rattle.iris_gather.proofs.Rounds.{IsAdded}
use Rattle.iris_gather.proofs.usable.Usable.add_all.Given as goal

abbrev pub invariant-loop-need : goal.invariant-loop-need
invariant-loop-need l = IsAdded l.self.fragment.now l.self.floor l.self.moment l.fn.view l.view l.added (drop l.need-index l.needs) l.needs
