-- The limits of a city's nodes: how much of each a tree has, and the first that is passed.
use Rattle.std.specs.Prelude.{ℕ, suc, max, nat_lt, length, Option, Some, None, if◌then◌else◌}
use Rattle.iris_base.specs.declared.limits.TheConstants.{MAX_NODES, MAX_LABELS, MAX_CHILDREN, MAX_ATTRIBUTES, MAX_PLAIN, MAX_PLAIN_DEPTH, MAX_LOCAL_BYTES}
use Rattle.iris_tree.specs.LocalText.{local_text}
use Rattle.iris_tree.specs.NodeCode.{size_of}
use Rattle.iris_tree.specs.PlainCounts.{plains_count, plains_depth, plains_attributes}
use Rattle.iris_tree.specs.TextLen.{saturated}
use Rattle.iris_tree.specs.Universe.{Node, node, Nodes, no_nodes, nodes, local_of, children_of}
use Rattle.iris_json.specs.declared.out.Which.{Which}
use Rattle.iris_json.specs.declared.out.Which.TheVariants.{Nodes as nodes_limit, Depth, Children, Attributes, Plain as plain_limit, PlainDepth, Local as local_limit}

-- the labels of the longest name of a node of the tree
abbrev mutual
  pub levels_of : Node → ℕ
  levels_of (node label local below) = suc (levels_below below)

  -- the labels of the longest name below a node, from there on
  pub levels_below : Nodes → ℕ
  levels_below no_nodes = 0
  levels_below (nodes n ns) = max (levels_of n) (levels_below ns)

-- the greatest count of a node of the tree
abbrev mutual
  pub greatest_count : (Node → ℕ) → Node → ℕ
  greatest_count count (node label local below) = max (count (node label local below)) (greatest_below count below)

  -- the greatest count of a node of these trees
  pub greatest_below : (Node → ℕ) → Nodes → ℕ
  greatest_below count no_nodes = 0
  greatest_below count (nodes n ns) = max (greatest_count count n) (greatest_below count ns)

-- ---- of one node

-- its children
abbrev pub count_children : Node → ℕ
count_children n = length (children_of n)

-- its attributes, or those of the plain element that has most
abbrev pub count_attributes : Node → ℕ
count_attributes n = max (length (local_of n).attrs) (plains_attributes (local_of n).plain)

-- its plain elements, at any depth
abbrev pub count_plain : Node → ℕ
count_plain n = plains_count (local_of n).plain

-- the levels of its plain elements
abbrev pub count_plain_depth : Node → ℕ
count_plain_depth n = plains_depth (local_of n).plain

-- the bytes of its canonical local information
abbrev pub count_local : Node → ℕ
count_local n = length (local_text (local_of n))

-- ---- of a whole tree

-- a limit and the count, where it is passed, or else what comes later
abbrev pub past_limit : Which → ℕ → ℕ → Option (Which × ℕ) → Option (Which × ℕ)
past_limit which limit count later = if nat_lt limit count then Some (which, count) else later

-- the first limit of a city's nodes that is passed, and the greatest count found, as a `u64` tells it
abbrev pub passed_limit : Node → Option (Which × ℕ)
passed_limit tree =
    past_limit nodes_limit MAX_NODES (saturated (size_of tree))
    (past_limit Depth MAX_LABELS (saturated (levels_of tree))
    (past_limit Children MAX_CHILDREN (saturated (greatest_count count_children tree))
    (past_limit Attributes MAX_ATTRIBUTES (saturated (greatest_count count_attributes tree))
    (past_limit plain_limit MAX_PLAIN (saturated (greatest_count count_plain tree))
    (past_limit PlainDepth MAX_PLAIN_DEPTH (saturated (greatest_count count_plain_depth tree))
    (past_limit local_limit MAX_LOCAL_BYTES (saturated (greatest_count count_local tree))
    None))))))
