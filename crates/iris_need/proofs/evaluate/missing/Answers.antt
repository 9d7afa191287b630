use Rattle.std.proofs.Common.{◌∙◌}
use Rattle.std.proofs.lemmas.Result.{IfOk-weaker}
use Rattle.iris_need.proofs.Starts.{missing_is}
use Rattle.iris_need.proofs.evaluate.missing.Goals as goal

pub returns : goal.returns
returns c = IfOk-weaker c.looks_of.result _ _ (λ v e. e ∙ missing_is c.args.query.now c.args.start.now c.args.view.now) c.looks_of.ensures
