use Rattle.std.proofs.Common.{ap, List, ℕ}
use Rattle.iris_xpath.specs.Meaning.{of_text}
use Rattle.iris_need.proofs.Tested.{text_none, text_some}
use Rattle.iris_need.proofs.conditions.texts.Goals as goal

pub loop-end-preserved-in_default : goal.loop-end-preserved-in_default
loop-end-preserved-in_default c = text_none c.args.ends.now c.loop-end.end-index c.end-item.result c.loop-end.values.items c.loop-end-test.true c.end-item.is c.in_default.is c.loop-end.invariant

pub loop-end-preserved : goal.loop-end-preserved
loop-end-preserved c = text_some c.args.ends.now c.loop-end.end-index c.end-item.result c.in-Some.text c.loop-end.values.items c.push.new.self.items _ c.loop-end-test.true c.end-item.is c.in-Some.is c.in_ok-push.ensures.items (ap (λ (t : List ℕ). of_text t) c.as_str.ensures) c.loop-end.invariant
