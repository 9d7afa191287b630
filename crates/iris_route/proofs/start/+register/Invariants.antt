use Rattle.std.proofs.Common.{◌≡◌, ◌++◌, map, drop}
use Rattle.iris_tree.specs.Universe.{nodes_of}
use Rattle.iris_tree.specs.Document.{all_names_of}
use Rattle.iris_tree.specs.NodeCode.{size_of}
use Rattle.iris_route.specs.Start.{title_down, put_all}
use Rattle.iris_route.proofs.start.+register.Given as goal

abbrev pub decreases-register : goal.decreases-register
decreases-register l = size_of l.node.now

-- the titles so far, and then those of the children that are left and of all below them, are all that are put in
abbrev pub invariant-loop-child : goal.invariant-loop-child
invariant-loop-child l = record {
  path : l.path.items ≡ l.initial.path.items;
  titles : put_all l.titles (map (λ name. (l.initial.path.items ++ name, title_down l.placed l.initial.path.items l.title name)) (all_names_of (nodes_of (drop l.child-index l.child-items))))
      ≡ put_all l.initial.titles (map (λ name. (l.initial.path.items ++ name, title_down l.placed l.initial.path.items l.title name)) (all_names_of (nodes_of l.child-items)));
}
