use Rattle.std.proofs.Common.{arith}
use Rattle.iris_migrate.proofs.Parking.{asks_step}
use Rattle.iris_migrate.proofs.asks.ParkedAsks.remove_all.Goals as goal

pub loop-message-preserved : goal.loop-message-preserved
loop-message-preserved c = λ ask.
    let step = asks_step ask c.args.messages.now c.loop-message.message-index c.message-item.result c.loop-message-test.true c.message-item.is in
    omega (arith, step, c.remove_one.ensures ask, c.loop-message.invariant ask)
