use Rattle.iris_gather.proofs.Changed.{kept-answered}
use Rattle.iris_gather.proofs.gathers.Gathers.reply.Goals as goal

pub invariant_of-self-2 : goal.invariant_of-self-2
invariant_of-self-2 c =
    kept-answered _ _ _ _ c.args.ask c.args.gather c.self.invariant (rw c.self.view_is c.requires.there) (rw (← c.id-number.ensures) c.keeps_asks.ensures)
    (rw c.id-number.ensures at c.replace.ensures)
    (rw (← c.id-number.ensures, ← c.pending.ensures.asks) c.in_ok-reply.ensures.ready) c.in_ok-reply.ensures.pending
    c.reply.ensures.requests c.reply.ensures.asks
