use Rattle.std.proofs.Common.{◌≡◌, ◌++◌, map, drop}
use Rattle.iris_tree.specs.Universe.{nodes_of, children_of}
use Rattle.iris_tree.specs.Document.{all_names_of}
use Rattle.iris_tree.specs.NodeCode.{size_of}
use Rattle.iris_xpath.specs.Walk.{names_from}
use Rattle.iris_select.proofs.marks.+add_all.Given as goal

abbrev pub decreases-add_all : goal.decreases-add_all
decreases-add_all l = size_of l.node.now

-- the names so far, and those of the siblings that are left, are all names
abbrev pub invariant-loop-child : goal.invariant-loop-child
invariant-loop-child l = record {
  name : l.name ≡ l.fn.name;
  full : l.full.items ++ map (λ path. l.fn.name ++ path) (all_names_of (nodes_of (drop l.child-index (children_of l.node)))) ≡ l.fn.full.items ++ names_from l.fn.name l.node;
}
