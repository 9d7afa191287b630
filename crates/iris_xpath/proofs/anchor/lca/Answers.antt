use Rattle.std.proofs.Common.{◌+◌, ap, subst}
use Rattle.iris_xpath.specs.Syntax.{Syntax}
use Rattle.iris_xpath.specs.Anchor.{Lca}
use Rattle.iris_xpath.proofs.Anchors.{all_more, lca_at}
use Rattle.iris_xpath.proofs.anchor.lca.Goals as goal

pub returns-in-None : goal.returns-in-None
returns-in-None c = subst (λ (q : Syntax). Lca q c.loop-step.count) c.steps-step-items.ensures.value (lca_at _ _ _ _ c.loop-step-test.true c.step-item.is c.loop-step.invariant.0 c.loop-step.invariant.1 c.in-None.ensures)

pub loop-step-preserved : goal.loop-step-preserved
loop-step-preserved c = (ap (λ k. k + 1) c.loop-step.invariant.0, all_more _ _ _ _ c.loop-step-test.true c.step-item.is c.loop-step.invariant.1 c.in-Some.ensures)
