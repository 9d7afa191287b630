use Rattle.std.proofs.Common.{◌&&◌}
use Rattle.iris_tree.specs.Document.{Place}
use Rattle.iris_xpath.specs.Meaning.{is_reached, passes}
use Rattle.iris_xpath.specs.Places.{element_at}
use Rattle.iris_need.specs.Walk.{path_of}
use Rattle.iris_need.proofs.ElementPaths.{path_more}
use Rattle.iris_need.proofs.elements.step_paths.Goals as goal

pub loop-path-preserved : goal.loop-path-preserved
loop-path-preserved c =
    let test = λ (path : Place). is_reached c.args.step.now.separator (path_of c.args.above.now) path && passes (element_at c.args.local.now path) c.args.step.now.test in
    path_more test c.loop-path.yielded c.in-Some.path c.loop-path.reached.items c.add_reached.new.reached.items c.in_ok-add_reached.ensures c.loop-path.invariant
