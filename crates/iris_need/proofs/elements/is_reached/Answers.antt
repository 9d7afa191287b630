use Rattle.std.proofs.Common.{sym, ◌∙◌}
use Rattle.iris_need.proofs.ElementPaths.{reached_further}
use Rattle.iris_need.proofs.elements.is_reached.Goals as goal

pub returns-then-is_above : goal.returns-then-is_above
returns-then-is_above c = reached_further c.args.separator c.args.above.now c.args.path.now c.ne.result c.in-DoubleSlash.is (sym c.is_above.ensures ∙ c.if-is_above.true) c.ne.ensures
