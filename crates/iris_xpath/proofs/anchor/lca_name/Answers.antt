use Rattle.std.proofs.Common.{subst}
use Rattle.iris_xpath.specs.Syntax.{Syntax}
use Rattle.iris_xpath.specs.Anchor.{LcaName}
use Rattle.iris_xpath.proofs.Anchors.{labels_more, name_at, name_all, same}
use Rattle.iris_xpath.proofs.anchor.lca_name.Goals as goal

pub returns-in-None : goal.returns-in-None
returns-in-None c = subst (λ (q : Syntax). LcaName q c.loop-step.name) c.steps-step-items.ensures.value (name_at _ _ _ _ c.loop-step-test.true c.step-item.is c.loop-step.invariant c.in-None.ensures)

pub loop-step-preserved : goal.loop-step-preserved
loop-step-preserved c = labels_more _ _ _ _ _ _ c.loop-step-test.true c.step-item.is c.loop-step.invariant c.in-Some.ensures c.in_ok-push-in-Some.ensures.ok

pub returns : goal.returns
returns c = subst (λ (q : Syntax). LcaName q c.loop-step.name) c.steps-step-items.ensures.value (name_all _ _ _ (same _ _ c.loop-step.auto.step-index-end c.loop-step-test.false) c.loop-step.invariant)
