use Rattle.iris_runs.proofs.DecidedRight.{decided_agent, decided_steps}
use Rattle.iris_runs.proofs.copy_laws.decisions_keep_copies.Goals as goal

pub returns-clause-agent : goal.returns-clause-agent
returns-clause-agent c = decided_agent

pub returns-clause-steps : goal.returns-clause-steps
returns-clause-steps c = decided_steps
