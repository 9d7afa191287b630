use Rattle.iris_xpath.proofs.Words.{named_at, has_more}
use Rattle.iris_xpath.proofs.steps.test_of.Goals as goal

pub returns-then-eq : goal.returns-then-eq
returns-then-eq c = named_at _ _ _ _ _ _ c.loop-kind-test.true c.kind-item.is c.as_str.ensures.value c.as_str-in-loop-kind.ensures c.if-eq.ensures

pub loop-kind-preserved : goal.loop-kind-preserved
loop-kind-preserved c = has_more _ _ _ _ _ _ c.loop-kind-test.true c.loop-kind.invariant c.kind-item.is c.as_str.ensures.value c.as_str-in-loop-kind.ensures c.if-eq.ensures
