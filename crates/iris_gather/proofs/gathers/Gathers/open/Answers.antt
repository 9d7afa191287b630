use Rattle.iris_gather.proofs.Changed.{kept-opened, no-request, no-ask}
use Rattle.iris_gather.proofs.gathers.Gathers.open.Goals as goal

pub enter-requires-clause-request : goal.enter-requires-clause-request
enter-requires-clause-request c =
    rw c.parent-parent.ensures (no-request _ _ c.args.gather.parent c.self.invariant.1.requests (rw c.self.view_is c.requires.parent))

pub enter-requires-clause-ask : goal.enter-requires-clause-ask
enter-requires-clause-ask c =
    rw c.parent-parent.ensures (no-ask _ _ c.args.gather.parent c.self.invariant.1.asks (rw c.self.view_is c.requires.parent))

pub invariant_of-self-in_default : goal.invariant_of-self-in_default
invariant_of-self-in_default c =
    kept-opened _ _ _ _ c.args.gather c.self.invariant (rw c.self.view_is c.requires.number) c.requires.settled (rw c.self.view_is c.requires.parent)
    (rw c.id-number.ensures at c.in_default.ensures.ok)
    (rw (← c.id-number.ensures) c.in_ok-enter.ensures.ready) (rw (← c.id-number.ensures, ← c.parent-parent.ensures) c.in_ok-enter.ensures.parents) c.enter.ensures.pending
