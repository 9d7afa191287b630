use Rattle.iris_agent.proofs.TableTies.{gather_tie}
use Rattle.iris_agent.proofs.agent.Agent.give_back.Goals as goal

pub returns : goal.returns
returns c = gather_tie _ _ _ _ c.take_back.ensures
