use Rattle.std.proofs.Common.{◌≡◌, ◌++◌, drop}
use Rattle.iris_need.specs.Decided.{pieces_for}
use Rattle.iris_gather.specs.Laid.{laid}
use Rattle.iris_gather.proofs.laid_view.LaidView.pieces.Given as goal

abbrev pub invariant-loop-need : goal.invariant-loop-need
invariant-loop-need l =
    let all = laid l.self.usable.fragment.now l.self.usable.floor l.self.usable.moment l.self.view.now in
    l.pieces.items ++ pieces_for all (drop l.need-index l.needs) ≡ pieces_for all l.needs
