use Rattle.iris_gather.specs.OpenGathers.{serves_ask, awaits}
use Rattle.iris_gather.proofs.Lookups.{tells-any, tells-names}
use Rattle.iris_gather.proofs.gathers.Gathers.names.Goals as goal

pub returns : goal.returns
returns c =
    let are = c.self.invariant.1 in
    rw (← c.self.view_is, c.names.ensures) (tells-names _ _ _ c.args.ask (tells-any serves_ask _ _ c.args.ask are.asks) (tells-any awaits _ _ c.args.ask are.pending))
