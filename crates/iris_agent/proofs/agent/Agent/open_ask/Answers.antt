use Rattle.std.proofs.Common.{refl, ap, ◌∙◌}
use Rattle.iris_fragment.specs.Contents.{Contents}
use Rattle.iris_fragment.specs.Usable.{held_piece}
use Rattle.iris_gather.specs.declared.parent.Parent.TheVariants.{Ask}
use Rattle.iris_gather.specs.Gathers.{opened}
use Rattle.iris_agent.specs.Opened.{ask_gather}
use Rattle.iris_agent.specs.Tables.{tables_of}
use Rattle.iris_agent.proofs.ArrivalTies.{opened_tie}
use Rattle.iris_agent.proofs.agent.Agent.open_ask.Goals as goal

pub returns-clause-tables : goal.returns-clause-tables
unfolding tables_of
returns-clause-tables c =
    let start = c.args.start.now in
    let first = c.in_ok-first.ensures.piece ∙ ap (λ (f : Contents). held_piece f start.name start.level c.args.turn.now.now) c.fragment.ensures in
    opened_tie c.args.self.now c.open-2.new.self c.args.turn.now c.in_ok-gather.gather (ask_gather (tables_of c.args.self.now) c.args.turn.now c.args.ask c.args.from c.args.query.now start c.args.floor)
    (c.in_ok-gather.ensures ∙ (λ i. opened c.args.turn.now.next_gather (c.in_ok-copy.ensures i) c.args.floor (c.in_ok-copy-2.ensures i) (first i) (Ask c.args.ask c.args.from)))
    refl c.in_ok-open.ensures.ok
