use Rattle.std.proofs.Common.{◌≡◌, ◌++◌, drop, filter}
use Rattle.iris_xpath.specs.Places.{is_above}
use Rattle.iris_need.specs.Program.{element_ends}
use Rattle.iris_need.specs.Walk.{path_of, paths_of}
use Rattle.iris_need.proofs.elements.add_attributes_below.Given as goal

-- the ends so far, and those that are left, are all
abbrev pub invariant-loop-path : goal.invariant-loop-path
invariant-loop-path l = l.ends.items ++ element_ends l.attribute l.local (filter (is_above (path_of l.above)) (paths_of (drop l.path-index l.path-items))) ≡ l.fn.ends.items ++ element_ends l.attribute l.local (filter (is_above (path_of l.above)) (paths_of l.path-items))
