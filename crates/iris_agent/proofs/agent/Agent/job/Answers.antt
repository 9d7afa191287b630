use Rattle.iris_agent.proofs.TableTies.{gather_tie}
use Rattle.iris_agent.proofs.agent.Agent.job.Goals as goal

pub returns-clause-lent : goal.returns-clause-lent
returns-clause-lent c = gather_tie _ _ _ _ c.lend.ensures
