use Rattle.std.proofs.Common.{sym}
use Rattle.iris_gather.proofs.Changed.{kept-closed}
use Rattle.iris_gather.proofs.gathers.Gathers.close.Goals as goal

pub invariant_of-self : goal.invariant_of-self
invariant_of-self c =
    kept-closed _ _ _ _ c.args.number c.in-Some.closed c.self.invariant (sym c.in-Some.ensures.gather) c.remove.ensures.rest
    c.leave.ensures.ready (rw (← c.parent.ensures) c.leave.ensures.parents) (rw (← c.pending.ensures.asks) c.leave.ensures.pending)
