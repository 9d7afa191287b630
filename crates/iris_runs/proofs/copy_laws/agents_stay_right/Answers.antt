use Rattle.iris_runs.proofs.StayRight.{agent_later, message_later, brings_still, agent_evicted, agent_lent, agent_knows}
use Rattle.iris_runs.proofs.copy_laws.agents_stay_right.Goals as goal

pub returns-clause-agent : goal.returns-clause-agent
returns-clause-agent c = agent_later

pub returns-clause-message : goal.returns-clause-message
returns-clause-message c = message_later

pub returns-clause-handover : goal.returns-clause-handover
returns-clause-handover c = brings_still

pub returns-clause-evicted : goal.returns-clause-evicted
returns-clause-evicted c = agent_evicted

pub returns-clause-lent : goal.returns-clause-lent
returns-clause-lent c = agent_lent

pub returns-clause-asked : goal.returns-clause-asked
returns-clause-asked c = agent_knows
