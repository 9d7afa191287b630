use Rattle.iris_xpath.proofs.Anchors.{no_id_more, first_at}
use Rattle.iris_xpath.proofs.anchor.first_id.Goals as goal

pub returns-in-Some : goal.returns-in-Some
returns-in-Some c = first_at _ _ _ _ c.loop-predicate-test.true c.predicate-item.is c.loop-predicate.invariant c.in-Some.ensures

pub loop-predicate-preserved : goal.loop-predicate-preserved
loop-predicate-preserved c = no_id_more _ _ _ c.loop-predicate-test.true c.predicate-item.is c.loop-predicate.invariant c.in_default.ensures
