use Rattle.std.proofs.Common.{arith}
use Rattle.iris_gather.proofs.Numbered.{numbered_more}
use Rattle.iris_gather.proofs.gather.numbered.Goals as goal

pub loop-need-preserved : goal.loop-need-preserved
loop-need-preserved c = (
  omega arith,
  numbered_more c.loop-need.asks.entries c.insert.new.self.entries c.args.first c.loop-need.next c.args.needs.now c.loop-need.need-index c.need-item.result c.in_ok-copy.field-0 c.need-item.result
      (omega arith) c.need-item.is c.in_ok-copy.ensures c.loop-need.invariant.1 c.in_ok-insert.ensures.entries,
)
