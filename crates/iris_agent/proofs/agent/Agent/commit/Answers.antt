use Rattle.std.proofs.Common.{subst}
use Rattle.iris_agent.specs.Commits.{IsValidated}
use Rattle.iris_agent.proofs.CommitTies.{routed_still}
use Rattle.iris_agent.proofs.TableTies.{gather_tie}
use Rattle.iris_agent.proofs.agent.Agent.commit.Goals as goal

pub judge-requires-clause-routed : goal.judge-requires-clause-routed
judge-requires-clause-routed g c =
    routed_still c.args.registry.now c.args.self.now c.args.turn.now.now c.args.done.now c.in-Ok.basis
    (subst (IsValidated c.args.self.now c.args.turn.now.now c.args.done.now) c.in-Ok.is c.in_ok-basis.ensures) c.requires.routed

pub returns-in-Err-clause-err : goal.returns-in-Err-clause-err
returns-in-Err-clause-err g c = (
  subst (IsValidated c.args.self.now c.args.turn.now.now c.args.done.now) c.in-Err.is c.in_ok-basis.ensures,
  gather_tie _ _ _ _ c.take_back.ensures,
)
