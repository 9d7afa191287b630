use Rattle.std.proofs.Common.{ap, ◌∙◌}
use Rattle.iris_cache.specs.Recency.{Cache, released_in}
use Rattle.iris_agent.specs.contracts.agent.Agent.{the_view}
use Rattle.iris_agent.proofs.GiveTies.{gave_from}
use Rattle.iris_agent.proofs.agent.Agent.give.Goals as goal

pub returns-clause-gave : goal.returns-clause-gave
returns-clause-gave g c =
    let m = c.args.moved.now in
    let released = c.let_go.ensures.cache ∙ ap (λ (k : Cache). released_in k m.name c.args.turn.now) c.in_ok-ready.ensures.cache in
    gave_from (the_view c.self.inside) c.args.self.now c.let_go.new.cache.cache c.let_go.new.titles c.args.turn m c.in_ok-step.step c.self.view_is released c.let_go.ensures.seat c.let_go.ensures.others c.in_ok-step.ensures
