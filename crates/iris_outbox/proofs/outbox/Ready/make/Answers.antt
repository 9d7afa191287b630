use Rattle.iris_outbox.proofs.MadeReady.{made_ready}
use Rattle.iris_outbox.proofs.outbox.Ready.make.Goals as goal

pub returns : goal.returns
returns c = made_ready c.args.posts.now _ c.made-next.result c.args.steps.now c.made-next.ensures.number c.in_ok-are_left.ensures c.in_ok-growth.ensures c.in_ok-weights.ensures c.in_ok-cites.ensures c.in_ok-lines.ensures.lines c.in_ok-lines.ensures.room
