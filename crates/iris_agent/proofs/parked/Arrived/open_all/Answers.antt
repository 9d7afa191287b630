use Rattle.iris_agent.proofs.MayOpens.{beside_more, opened_more, may_more}
use Rattle.iris_agent.proofs.parked.Arrived.open_all.Goals as goal

pub loop-message-preserved : goal.loop-message-preserved
loop-message-preserved c =
    let a = c.args.self.now in
    let loop = c.loop-message in
    record {
      whole = opened_more loop.gathers c.open.new.gathers a.top a.own.now a.at loop.next c.in-Ok.after loop.message-index c.message-item.result c.args.messages.now _ c.loop-message-test.true c.message-item.is c.in-Ok.ensures.opened loop.invariant.whole;
      beside = beside_more c.args.gathers.now loop.gathers c.open.new.gathers c.args.first loop.next c.in-Ok.after loop.invariant.beside c.in-Ok.ensures.beside;
      may = may_more loop.gathers c.open.new.gathers a.top a.own.now a.at loop.next c.in-Ok.after loop.message-index c.message-item.result c.args.messages.now c.loop-message-test.true c.message-item.is c.in-Ok.ensures.opened loop.invariant.may;
    }
