use Rattle.std.proofs.Common.{subst}
use Rattle.iris_agent.specs.Changes.{HasForgotten}
use Rattle.iris_agent.specs.Tables.{Holdings}
use Rattle.iris_agent.proofs.ArrivalTies.{asked_parked}
use Rattle.iris_agent.proofs.TableTies.{asked_back}
use Rattle.iris_agent.proofs.agent.Agent.park_ask.Goals as goal

pub returns-in-Err-clause-err : goal.returns-in-Err-clause-err
returns-in-Err-clause-err c =
    asked_back c.args.self.now c.learn.new.self c.unlearn.new.self c.args.ask c.requires.fresh c.in_ok-learn.ensures.ok (subst (λ (h : Holdings). HasForgotten h c.unlearn.new.self c.args.ask) c.in-Err.ensures.err c.unlearn.ensures)

pub returns-clause-ok : goal.returns-clause-ok
returns-clause-ok c = asked_parked c.args.self.now c.learn.new.self c.park.new.self c.args.ask c.args.message c.requires.ask c.in_ok-learn.ensures.ok c.in_default.ensures.ok
