use Rattle.iris_xpath.specs.declared.expression.Step.{Step}
use Rattle.iris_xpath.specs.declared.expression.Expression.{Expression}
use Rattle.iris_xpath.specs.Tally as tally
use Rattle.iris_xpath.proofs.Tallies.{joined_more}
use Rattle.iris_xpath.proofs.tally.tally_main.Goals as goal

pub loop-step-preserved : goal.loop-step-preserved
loop-step-preserved c = joined_more (λ (s : Step Expression). tally.tally_all s.predicates) _ _ _ _ _ _ c.loop-step-test.true c.step-item.is c.loop-step.invariant c.tally_all.ensures c.both-all.ensures
