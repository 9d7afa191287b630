use Rattle.std.proofs.Common.{◌≡◌, ◌++◌, drop, map}
use Rattle.iris_tree.specs.Document.{Place, numbered, plain_places}
use Rattle.iris_need.specs.Walk.{path_of, paths_of}
use Rattle.iris_need.proofs.elements.+add_paths.Given as goal

-- the paths so far, and those that are left, are all
abbrev pub invariant-loop-at : goal.invariant-loop-at
invariant-loop-at l = paths_of l.paths.items ++ map (λ (path : Place). path_of l.above ++ path) (numbered l.at (map plain_places (drop l.at l.siblings))) ≡ paths_of l.fn.paths.items ++ map (λ (path : Place). path_of l.above ++ path) (numbered 0 (map plain_places l.siblings))
