use Rattle.iris_need.proofs.ElementPaths.{all_paths}
use Rattle.iris_need.proofs.elements.element_paths.Goals as goal
use Rattle.std.proofs.Common.{refl, []}

pub returns : goal.returns
returns c = all_paths c.args.local.now c.as_slice.result.now [] c.new-paths.result.items c.add_paths.new.paths.items c.as_slice.ensures refl c.new-paths.ensures.items c.in_ok-add_paths.ensures
