use Rattle.std.proofs.Common.{◌≡◌, ◌&&◌, filter}
use Rattle.iris_tree.specs.Document.{Place}
use Rattle.iris_xpath.specs.Meaning.{is_reached, passes}
use Rattle.iris_xpath.specs.Places.{element_at}
use Rattle.iris_need.specs.Walk.{path_of, paths_of}
use Rattle.iris_need.proofs.elements.step_paths.Given as goal

-- those so far to which the step goes
abbrev pub invariant-loop-path : goal.invariant-loop-path
invariant-loop-path l = paths_of l.reached.items ≡ filter (λ (path : Place). is_reached l.step.separator (path_of l.above) path && passes (element_at l.local path) l.step.test) (paths_of l.yielded)
