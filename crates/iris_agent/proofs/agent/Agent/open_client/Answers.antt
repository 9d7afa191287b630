use Rattle.std.proofs.Common.{None, refl, ◌∙◌}
use Rattle.iris_need.specs.Needs.{from_document}
use Rattle.iris_gather.specs.declared.parent.Parent.TheVariants.{Client}
use Rattle.iris_gather.specs.Gathers.{opened}
use Rattle.iris_agent.specs.Opened.{client_gather}
use Rattle.iris_agent.specs.Tables.{tables_of}
use Rattle.iris_agent.proofs.ArrivalTies.{opened_tie}
use Rattle.iris_agent.proofs.agent.Agent.open_client.Goals as goal

pub returns-clause-tables : goal.returns-clause-tables
unfolding tables_of
returns-clause-tables c =
    opened_tie c.args.self.now c.open-2.new.self c.args.turn.now c.in_ok-gather.gather (client_gather (tables_of c.args.self.now) c.args.turn.now c.args.request c.args.query.now c.args.floor)
    (c.in_ok-gather.ensures ∙ (λ i. opened c.args.turn.now.next_gather (c.in_ok-copy.ensures i) c.args.floor (c.in_ok-start.ensures i) None (Client c.args.request))
    ∙ (λ i. opened c.args.turn.now.next_gather c.args.query.now c.args.floor (from_document (c.self.view_is i).top) None (Client c.args.request)))
    refl c.in_ok-open.ensures.ok
