use Rattle.std.proofs.Common.{arith}
use Rattle.iris_book.proofs.LinkSteps.{before_at_is}
use Rattle.iris_book.proofs.links.step_back.Goals as goal

pub loop-at-smaller : goal.loop-at-smaller
loop-at-smaller c =
    let next = c.step-at.ensures c.index-entered-at.result in
    let there = before_at_is c.args.entered.now c.step-at.result c.index-entered-at.result next.here.within in
    let here = before_at_is c.args.entered.now c.loop-at.at c.index-entered-at.result c.loop-at.invariant.within in
    omega (arith, there, here, next.here.before_is c.index-entered-at.result, next.fewer)
