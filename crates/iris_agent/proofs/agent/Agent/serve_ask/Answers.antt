use Rattle.std.proofs.Common.{subst}
use Rattle.iris_agent.specs.Changes.{HasForgotten}
use Rattle.iris_agent.specs.Tables.{Holdings}
use Rattle.iris_agent.proofs.ArrivalTies.{asked_opened}
use Rattle.iris_agent.proofs.TableTies.{asked_back}
use Rattle.iris_agent.proofs.agent.Agent.serve_ask.Goals as goal

pub returns-in-Err-clause-err : goal.returns-in-Err-clause-err
returns-in-Err-clause-err c =
    asked_back c.args.self.now c.learn.new.self c.unlearn.new.self c.args.ask c.requires.fresh c.in_ok-learn.ensures.ok (subst (λ (h : Holdings). HasForgotten h c.unlearn.new.self c.args.ask) c.in-Err.ensures.err c.unlearn.ensures)

pub returns-clause-tables : goal.returns-clause-tables
returns-clause-tables c =
    asked_opened c.args.self.now c.learn.new.self c.open_ask.new.self c.args.turn.now c.args.ask c.args.from c.args.query.now c.args.start.now c.args.floor c.in_ok-learn.ensures.ok c.in_default.ensures.tables
