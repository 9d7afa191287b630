-- Siblings: the nodes right below one node.
use Rattle.std.specs.Prelude.{List}
use Rattle.std.specs.List.{IsDistinct}
use Rattle.std.specs.List.Sorted.{IsPermutation, IsStrictlySortedBy}
use Rattle.iris_base.specs.NameOrder.{label_eq, label_cmp}
use Rattle.iris_tree.specs.Universe.{Node, labels_of}

-- no two of these nodes have the same label
abbrev pub HaveDistinctLabels : List Node → Type 0
HaveDistinctLabels ns = IsDistinct label_eq (labels_of ns)

-- the given nodes rearranged, so that their labels rise
pub record IsLabelOrder (given ordered : List Node) : Type 0 where
  pub same : IsPermutation given ordered
  pub rise : IsStrictlySortedBy label_cmp (labels_of ordered)
