use Rattle.iris_runs.proofs.DecisionTies.{give_tie}
use Rattle.iris_runs.proofs.SeatTies.{gather_tie}
use Rattle.iris_runs.proofs.agent_laws.agents_move_by_the_protocol.Goals as goal

pub returns-clause-gives : goal.returns-clause-gives
returns-clause-gives c = give_tie

pub returns-clause-lent : goal.returns-clause-lent
returns-clause-lent c = gather_tie
