use Rattle.iris_need.proofs.Asked.{missing_above, missing_own, not_again}
use Rattle.iris_need.proofs.look_laws.missing_descends.Goals as goal

pub returns-clause-above : goal.returns-clause-above
returns-clause-above c = missing_above

pub returns-clause-own : goal.returns-clause-own
returns-clause-own c = missing_own

pub returns-clause-once : goal.returns-clause-once
returns-clause-once c = not_again
