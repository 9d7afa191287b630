use Rattle.iris_runs.proofs.MovedRight.{given_right, handover_right}
use Rattle.iris_runs.proofs.copy_laws.moves_keep_copies.Goals as goal

pub returns-clause-agent : goal.returns-clause-agent
returns-clause-agent c = given_right

pub returns-clause-handover : goal.returns-clause-handover
returns-clause-handover c = handover_right
