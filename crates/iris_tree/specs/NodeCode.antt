-- How proofs store a node, and how large it is.
use Rattle.std.specs.Prelude.{◌≡◌, ℕ, ◌+◌, ◌≤◌, ◌<◌, zero, suc, slice_index_or, List, [], ◌∷◌, ◌++◌, length, take, drop, refl}
use Rattle.std.specs.Coded.{Coded, code_by, coded×, coded_ℕ, coded_list}
use Rattle.std.proofs.Common.{arith, ap, subst, ◌∙◌, append_assoc, append-nil}
use Rattle.std.proofs.Math.Seq.{take-append_seam, drop-append_seam}
use denote.Param.Weighed.{most}
use Rattle.iris_base.specs.declared.name.Label.{Label}
use Rattle.iris_tree.specs.declared.local.Local.{Local}
use Rattle.iris_tree.specs.Universe.{Node, node, Nodes, no_nodes, nodes, nodes_of, list_of, children_of}

-- a node as the list of all its nodes, parents first, each with how many are right below it
abbrev pub Row : Type 0
Row = ℕ × (Label × Local)

abbrev mutual
  pub rows_of : Node → List Row
  rows_of (node label local below) = (length (list_of below), (label, local)) ∷ all_rows_of below

  pub all_rows_of : Nodes → List Row
  all_rows_of no_nodes = []
  all_rows_of (nodes n ns) = rows_of n ++ all_rows_of ns

-- the nodes that a list of such rows stands for
abbrev pub nodes_from : List Row → List Node
nodes_from [] = []
nodes_from (row ∷ rows) = node row.1.0 row.1.1 (nodes_of (take row.0 (nodes_from rows))) ∷ drop row.0 (nodes_from rows)

-- siblings, listed and stored again, are those siblings
pub nodes_of-list_of : (ns : Nodes) → nodes_of (list_of ns) ≡ ns
nodes_of-list_of no_nodes = refl
nodes_of-list_of (nodes n ns) = ap (nodes n) (nodes_of-list_of ns)

mutual
  nodes_from-rows_of : (n : Node) (rows : List Row) → nodes_from (rows_of n ++ rows) ≡ n ∷ nodes_from rows
  nodes_from-rows_of (node label local below) rows = rw (
    nodes_from-all_rows_of below rows,
    take-append_seam (list_of below) (nodes_from rows),
    drop-append_seam (list_of below) (nodes_from rows),
    nodes_of-list_of below,
  )
      refl

  nodes_from-all_rows_of : (ns : Nodes) (rows : List Row) → nodes_from (all_rows_of ns ++ rows) ≡ list_of ns ++ nodes_from rows
  nodes_from-all_rows_of no_nodes rows = refl
  nodes_from-all_rows_of (nodes n ns) rows =
      ap nodes_from (append_assoc (rows_of n) (all_rows_of ns) rows) ∙ nodes_from-rows_of n (all_rows_of ns ++ rows)
      ∙ ap (λ (ms : List Node). n ∷ ms) (nodes_from-all_rows_of ns rows)

-- what is stored gives the node back: the rows below it, with its own label and local information
abbrev pub stored : Node → Label × (Local × List Row)
stored (node label local below) = (label, (local, all_rows_of below ++ []))

-- the node of what is stored
abbrev pub restored : Label × (Local × List Row) → Node
restored s = node s.0 s.1.0 (nodes_of (nodes_from s.1.1))

restored_below : (ns : Nodes) → nodes_of (nodes_from (all_rows_of ns ++ [])) ≡ ns
restored_below ns = ap nodes_of (nodes_from-all_rows_of ns [] ∙ append-nil (list_of ns)) ∙ nodes_of-list_of ns

-- a node, stored and restored, is that node
pub restored-stored : (n : Node) → restored (stored n) ≡ n
restored-stored (node label local below) = ap (node label local) (restored_below below)

-- how a node is stored
abbrev pub node_code : Coded Label → Coded Local → Coded Node
node_code label local =
    code_by (Label × (Local × List Row)) (coded× label (coded× local (coded_list (coded× coded_ℕ (coded× label local))))) stored restored restored-stored

-- how many nodes it is
abbrev mutual
  pub size_of : Node → ℕ
  size_of (node label local below) = suc (sizes_of below)

  pub sizes_of : Nodes → ℕ
  sizes_of no_nodes = 0
  sizes_of (nodes n ns) = size_of n + sizes_of ns

-- each child is smaller than its parent
pub sizes-nodes_of : (ns : List Node) → most (λ n. size_of n + 1) ns ≤ suc (sizes_of (nodes_of ns))
sizes-nodes_of [] = omega arith
sizes-nodes_of (n ∷ ns) = omega (arith, sizes-nodes_of ns)

-- the same of one child
pub child_is_smaller : (ns : Nodes) (i : ℕ) (d : Node) → i < length (list_of ns) → size_of (slice_index_or (list_of ns) i d) ≤ sizes_of ns
child_is_smaller no_nodes i d within = absurd (omega arith)
child_is_smaller (nodes n ns) zero d within = omega arith
child_is_smaller (nodes n ns) (suc i) d within = omega (arith, child_is_smaller ns i d (omega arith))

-- a child is smaller than its parent
pub size_of-child : (n : Node) (i : ℕ) (d : Node) → i < length (children_of n) → size_of (slice_index_or (children_of n) i d) < size_of n
size_of-child (node label local below) i d within = omega (arith, child_is_smaller below i d within)

-- as a loop over a node's children knows them
pub size_of-found : (size : ℕ) (n : Node) (children : List Node) (i : ℕ) (child : Node) → children ≡ children_of n → i < length children → child ≡ slice_index_or children i child → size_of n ≡ size → size_of child < size
size_of-found size n children i child same within is whole =
    let inside : i < length (children_of n) = subst (λ (ns : List Node). i < length ns) same within in
    let equal : child ≡ slice_index_or (children_of n) i child = is ∙ ap (λ (ns : List Node). slice_index_or ns i child) same in
    let less = size_of-child n i child inside in
    omega (arith, less, ap size_of equal, whole)
