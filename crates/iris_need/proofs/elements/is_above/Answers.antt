use Rattle.std.proofs.Common.{◌∙◌}
use Rattle.iris_need.proofs.ElementPaths.{prefix_is}
use Rattle.iris_need.proofs.elements.is_above.Goals as goal

pub returns : goal.returns
returns c = c.starts_with.ensures.value ∙ prefix_is c.args.above.now c.args.path.now
