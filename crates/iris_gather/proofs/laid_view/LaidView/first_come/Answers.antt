use Rattle.iris_gather.specs.Laid.{laid}
use Rattle.iris_gather.specs.Validation.{NoMoreFor}
use Rattle.iris_gather.proofs.FirstChanged.{fails_at, holds_more, not_come, no_more_for}
use Rattle.iris_gather.proofs.laid_view.LaidView.first_come.Goals as goal

pub returns-then-not-no_more : goal.returns-then-not-no_more
returns-then-not-no_more c =
    let s = c.args.self.now in
    let now = laid s.usable.fragment.now s.usable.floor s.usable.moment s.view.now in
    let need = c.need-item.result in
    fails_at (NoMoreFor c.args.old.now now) c.args.needs.now c.loop-need.need-index need c.in_ok-copy.field-0 c.loop-need-test.true c.need-item.is c.loop-need.invariant c.in_ok-copy.ensures
    (not_come c.args.old.now now need c.in_ok-now.now c.in_ok-now.ensures (rw c.if-not-no_more.true at c.no_more.ensures))

pub loop-need-preserved : goal.loop-need-preserved
loop-need-preserved c =
    let s = c.args.self.now in
    let now = laid s.usable.fragment.now s.usable.floor s.usable.moment s.view.now in
    let need = c.need-item.result in
    holds_more (NoMoreFor c.args.old.now now) c.args.needs.now c.loop-need.need-index need c.loop-need-test.true c.need-item.is c.loop-need.invariant
    (no_more_for c.args.old.now now need c.in_ok-now.now c.in_ok-now.ensures (rw c.if-not-no_more.false at c.no_more.ensures))
