use Rattle.iris_gather.specs.OpenGathers.{serves_request}
use Rattle.iris_gather.proofs.Lookups.{tells-any}
use Rattle.iris_gather.proofs.gathers.Gathers.serves.Goals as goal

pub returns : goal.returns
returns c = rw (← c.self.view_is, c.serves.ensures) (tells-any serves_request _ _ c.args.request c.self.invariant.1.requests)
