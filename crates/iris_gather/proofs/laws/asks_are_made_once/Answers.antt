use Rattle.iris_gather.proofs.Once.{opened_once, settled_once, replied_once}
use Rattle.iris_gather.proofs.laws.asks_are_made_once.Goals as goal

pub returns-clause-opened : goal.returns-clause-opened
returns-clause-opened c = opened_once

pub returns-clause-settled : goal.returns-clause-settled
returns-clause-settled c = settled_once

pub returns-clause-replied : goal.returns-clause-replied
returns-clause-replied c = replied_once
