-- How large a tree is, as it is measured.
use Rattle.std.specs.Prelude.{ℕ, ◌+◌, max, Option, None}
use Rattle.iris_base.specs.declared.limits.TheConstants.{MAX_NODES, MAX_LABELS, MAX_CHILDREN, MAX_ATTRIBUTES, MAX_PLAIN, MAX_PLAIN_DEPTH, MAX_LOCAL_BYTES}
use Rattle.iris_tree.specs.NodeCode.{size_of}
use Rattle.iris_tree.specs.TextLen.{saturated}
use Rattle.iris_tree.specs.Universe.{Node}
use Rattle.iris_json.specs.declared.extent.Extent.{Extent}
use Rattle.iris_json.specs.declared.out.Which.{Which}
use Rattle.iris_json.specs.declared.out.Which.TheVariants.{Nodes, Depth, Children, Attributes, Plain, PlainDepth, Local}
use Rattle.iris_json.specs.CityLimits.{levels_of, greatest_count, count_children, count_attributes, count_plain, count_plain_depth, count_local, past_limit}

-- how large a tree is
abbrev pub extent_of : Node → Extent
extent_of tree = record {
  nodes = saturated (size_of tree);
  labels = saturated (levels_of tree);
  children = saturated (greatest_count count_children tree);
  attributes = saturated (greatest_count count_attributes tree);
  plain = saturated (greatest_count count_plain tree);
  plain_depth = saturated (greatest_count count_plain_depth tree);
  local = saturated (greatest_count count_local tree);
}

-- how large a tree is with one child more
abbrev pub extent_with_child : Extent → Extent → Extent
extent_with_child tree child = record {
  nodes = saturated (tree.nodes + child.nodes);
  labels = max tree.labels (saturated (child.labels + 1));
  children = max tree.children child.children;
  attributes = max tree.attributes child.attributes;
  plain = max tree.plain child.plain;
  plain_depth = max tree.plain_depth child.plain_depth;
  local = max tree.local child.local;
}

-- the first limit that is passed, and the count
abbrev pub passed_by_extent : Extent → Option (Which × ℕ)
passed_by_extent tree =
    past_limit Nodes MAX_NODES tree.nodes (past_limit Depth MAX_LABELS tree.labels (past_limit Children MAX_CHILDREN tree.children (past_limit Attributes MAX_ATTRIBUTES tree.attributes
    (past_limit Plain MAX_PLAIN tree.plain (past_limit PlainDepth MAX_PLAIN_DEPTH tree.plain_depth (past_limit Local MAX_LOCAL_BYTES tree.local None))))))
