use Rattle.iris_gather.specs.OpenGathers.{gather_at}
use Rattle.iris_agent.proofs.Judged.{routed_tie}
use Rattle.iris_agent.proofs.agent.Agent.decide.Goals as goal

pub judge-requires-clause-routed : goal.judge-requires-clause-routed
judge-requires-clause-routed g c =
    routed_tie c.args.registry.now c.args.self.now c.args.turn.now.now (gather_at c.args.self.now.gathers c.args.gather) c.in_ok-basis.basis c.requires.due c.requires.routed c.in_ok-basis.ensures
