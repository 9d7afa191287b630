use Rattle.iris_runs.proofs.DecisionTies.{decision_tie}
use Rattle.iris_runs.proofs.agent_laws.agents_decide_by_the_protocol.Goals as goal

pub returns : goal.returns
returns c = decision_tie
