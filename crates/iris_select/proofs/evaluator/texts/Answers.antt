use Rattle.iris_select.proofs.Ends.{one_text, no_text}
use Rattle.iris_select.proofs.evaluator.texts.Goals as goal

pub loop-end-preserved-in-Continue-1 : goal.loop-end-preserved-in-Continue-1
loop-end-preserved-in-Continue-1 c = one_text c.loop-end.values.items c.push.new.self.items c.loop-end.yielded c.in-Some.end c.in-Some-end.text c.loop-end.invariant c.in-Some-end.is c.in_ok-push.ensures.items

pub loop-end-preserved : goal.loop-end-preserved
loop-end-preserved c = no_text c.loop-end.values.items c.loop-end.yielded c.in-Some.end c.loop-end.invariant c.in_default.is
