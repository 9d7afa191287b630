use Rattle.iris_runs.proofs.MessageTies.{message_handled}
use Rattle.iris_runs.proofs.agent_laws.agents_arrive_by_the_protocol.Goals as goal

pub returns : goal.returns
returns c = message_handled
