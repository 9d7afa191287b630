use Rattle.iris_gather.specs.OpenGathers.{awaits}
use Rattle.iris_gather.proofs.Lookups.{found-none}
use Rattle.iris_gather.proofs.Changed.{kept-waiting}
use Rattle.iris_gather.proofs.gathers.Gathers.wait.Goals as goal

pub wait-requires-clause-fresh : goal.wait-requires-clause-fresh
wait-requires-clause-fresh c =
    λ ask some. found-none awaits _ _ ask c.self.invariant.1.pending (rw c.self.view_is (c.requires.fresh ask (rw c.pending.ensures.asks at some)))

pub invariant_of-self-2 : goal.invariant_of-self-2
invariant_of-self-2 c =
    kept-waiting _ _ _ _ c.args.gather c.self.invariant (rw c.self.view_is c.requires.there) (rw c.self.view_is c.requires.fresh)
    (rw c.id-number.ensures at c.replace.ensures)
    (rw (← c.id-number.ensures, ← c.pending.ensures.asks) c.in_ok-wait.ensures.ready) (rw (← c.id-number.ensures, ← c.pending.ensures.asks) c.in_ok-wait.ensures.pending)
    c.wait.ensures.requests c.wait.ensures.asks
