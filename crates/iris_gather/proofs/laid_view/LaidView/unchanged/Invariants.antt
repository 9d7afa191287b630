use Rattle.std.proofs.Common.{◌≡◌, ◌++◌, All, take, drop}
use Rattle.iris_need.specs.Decided.{pieces_for}
use Rattle.iris_gather.specs.Laid.{laid}
use Rattle.iris_gather.specs.Validation.{IsSameFor}
use Rattle.iris_gather.proofs.laid_view.LaidView.unchanged.Given as goal

abbrev pub invariant-loop-need : goal.invariant-loop-need
invariant-loop-need l =
    let now = laid l.self.usable.fragment.now l.self.usable.floor l.self.usable.moment l.self.view.now in
    record {
      made : l.pieces.items ++ pieces_for now (drop l.need-index l.needs) ≡ pieces_for now l.needs;
      same : All (IsSameFor l.old now) (take l.need-index l.needs);
    }
