use Rattle.iris_gather.specs.OpenGathers.{awaits, serves_request, serves_ask}
use Rattle.iris_gather.proofs.Lookups.{at-most-one}
use Rattle.iris_gather.proofs.gathers.Gathers.keeps_order.Goals as goal

pub returns-clause-awaited : goal.returns-clause-awaited
returns-clause-awaited c = rw (← c.self.view_is) (at-most-one awaits _ _ c.self.invariant.1.pending)

pub returns-clause-requests : goal.returns-clause-requests
returns-clause-requests c = rw (← c.self.view_is) (at-most-one serves_request _ _ c.self.invariant.1.requests)

pub returns-clause-asks : goal.returns-clause-asks
returns-clause-asks c = rw (← c.self.view_is) (at-most-one serves_ask _ _ c.self.invariant.1.asks)
