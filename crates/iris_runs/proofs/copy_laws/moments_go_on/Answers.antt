use Rattle.iris_runs.proofs.StayRight.{later_time, later_entry, later_asked, later_forgotten, agent_time, agent_entry, agent_asked, agent_forgotten}
use Rattle.iris_runs.proofs.copy_laws.moments_go_on.Goals as goal

pub returns-clause-time : goal.returns-clause-time
returns-clause-time c = later_time

pub returns-clause-entry : goal.returns-clause-entry
returns-clause-entry c = later_entry

pub returns-clause-asked : goal.returns-clause-asked
returns-clause-asked c = later_asked

pub returns-clause-forgotten : goal.returns-clause-forgotten
returns-clause-forgotten c = later_forgotten

pub returns-clause-agent_time : goal.returns-clause-agent_time
returns-clause-agent_time c = agent_time

pub returns-clause-agent_entry : goal.returns-clause-agent_entry
returns-clause-agent_entry c = agent_entry

pub returns-clause-agent_asked : goal.returns-clause-agent_asked
returns-clause-agent_asked c = agent_asked

pub returns-clause-agent_forgotten : goal.returns-clause-agent_forgotten
returns-clause-agent_forgotten c = agent_forgotten
