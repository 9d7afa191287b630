use Rattle.iris_need.proofs.Collected.{empty_is}
use Rattle.iris_need.proofs.ElementPaths.{parent_none}
use Rattle.iris_need.proofs.elements.+is_parent.Goals as goal

pub returns-in_default : goal.returns-in_default
returns-in_default t c = parent_none c.args.above.now c.args.path.now (empty_is c.args.path.now c.in_default.ensures.cases)
