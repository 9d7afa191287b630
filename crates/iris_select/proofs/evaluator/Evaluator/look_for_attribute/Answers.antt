use Rattle.std.proofs.Common.{◌∙◌, sym}
use Rattle.iris_base.specs.Attribute.{is_id}
use Rattle.iris_select.proofs.MarkingLooks.{look_at_id}
use Rattle.iris_select.proofs.evaluator.Evaluator.look_for_attribute.Goals as goal

pub returns-then-is_id-clause-looks : goal.returns-then-is_id-clause-looks
returns-then-is_id-clause-looks c = look_at_id c.args.self.now c.args.separator (is_id c.args.name.now) (sym c.is_id.ensures ∙ c.if-is_id.true)
