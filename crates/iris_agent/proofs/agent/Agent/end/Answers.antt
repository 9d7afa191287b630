use Rattle.std.proofs.Common.{None}
use Rattle.iris_agent.proofs.Judged.{touched_tie}
use Rattle.iris_agent.proofs.agent.Agent.end.Goals as goal

pub returns-clause-tables : goal.returns-clause-tables
returns-clause-tables g c = touched_tie c.args.self.now c.close.new.self c.touch_all.new.self c.args.number None c.args.support.now c.close.ensures c.touch_all.ensures
