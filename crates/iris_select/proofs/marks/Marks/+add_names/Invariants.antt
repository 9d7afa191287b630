use Rattle.std.proofs.Common.{◌≡◌, ◌++◌, map, filter, length, drop}
use Rattle.iris_tree.specs.Universe.{nodes_of, children_of}
use Rattle.iris_tree.specs.Document.{all_names_of}
use Rattle.iris_tree.specs.NodeCode.{size_of}
use Rattle.iris_select.specs.declared.marks.Marks.TheViews.{out-Marks}
use Rattle.iris_select.specs.Marks.{marked, paths_of}
use Rattle.iris_select.proofs.Marking.{among}
use Rattle.iris_select.proofs.marks.Marks.+add_names.Given as goal

abbrev pub decreases-add_names : goal.decreases-add_names
decreases-add_names l = size_of l.node.now

-- the names so far, and those of the siblings that are left, are all names
abbrev pub invariant-loop-child : goal.invariant-loop-child
invariant-loop-child l = record {
  name : l.name ≡ l.fn.name;
  full : l.full.items ++ map (λ path. l.fn.name ++ path) (filter (among (drop (length l.yielded) (children_of l.node)) (drop (length l.yielded) (out-Marks l.self).children.items)) (all_names_of (nodes_of (drop (length l.yielded) (children_of l.node)))))
      ≡ l.fn.full.items ++ map (λ path. l.fn.name ++ path) (filter (marked l.node l.self) (paths_of l.node));
}
