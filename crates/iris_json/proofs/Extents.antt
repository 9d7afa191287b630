-- A tree is measured child by child.
use Rattle.std.proofs.Common.{◌≡◌, ℕ, suc, ◌+◌, ◌-◌, ◌<◌, ◌≤◌, max, Bool, true, false, Option, Some, None, if◌then◌else◌, List, [], ◌∷◌, ◌++◌, length, take, get_or, refl, ap, sym, ◌∙◌, arith}
use Rattle.std.specs.Prelude.{nat_lt}
use Rattle.std.proofs.lemmas.Bool.{ltb-false, le-ltb}
use Rattle.std.proofs.lemmas.List.{take_more, take_all}
use Rattle.iris_base.specs.declared.limits.TheConstants.{MAX_LABELS, MAX_NODES, MAX_CHILDREN, MAX_ATTRIBUTES, MAX_PLAIN, MAX_PLAIN_DEPTH, MAX_LOCAL_BYTES}
use Rattle.iris_tree.specs.NodeCode.{size_of, sizes_of, nodes_of-list_of}
use Rattle.iris_tree.specs.TextLen.{saturated}
use Rattle.iris_tree.specs.Universe.{Node, node, nodes_of, children_of}
use Rattle.iris_json.specs.declared.extent.Extent.{Extent}
use Rattle.iris_json.specs.declared.out.Which.{Which}
use Rattle.iris_json.specs.declared.out.Which.TheVariants as limits
use Rattle.iris_json.specs.CityLimits.{levels_of, levels_below, greatest_count, greatest_below, count_children, count_attributes, count_plain, count_plain_depth, count_local, past_limit, passed_limit}
use Rattle.iris_json.specs.Extents.{extent_of, extent_with_child}

sizes-push : (ns : List Node) (n : Node) → sizes_of (nodes_of (ns ++ n ∷ [])) ≡ sizes_of (nodes_of ns) + size_of n
sizes-push [] n = omega arith
sizes-push (m ∷ ns) n = omega (arith, sizes-push ns n)

levels-push : (ns : List Node) (n : Node) → levels_below (nodes_of (ns ++ n ∷ [])) ≡ max (levels_below (nodes_of ns)) (levels_of n)
levels-push [] n = omega arith
levels-push (m ∷ ns) n = omega (arith, levels-push ns n)

most-push : (count : Node → ℕ) (ns : List Node) (n : Node) → greatest_below count (nodes_of (ns ++ n ∷ [])) ≡ max (greatest_below count (nodes_of ns)) (greatest_count count n)
most-push count [] n = omega arith
most-push count (m ∷ ns) n = omega (arith, most-push count ns n)

-- what was measured of a node after some of its children
abbrev pub so_far : Node → List Node → Extent
so_far n ns = record {
  nodes = saturated (suc (sizes_of (nodes_of ns)));
  labels = saturated (suc (levels_below (nodes_of ns)));
  children = saturated (max (count_children n) (greatest_below count_children (nodes_of ns)));
  attributes = saturated (max (count_attributes n) (greatest_below count_attributes (nodes_of ns)));
  plain = saturated (max (count_plain n) (greatest_below count_plain (nodes_of ns)));
  plain_depth = saturated (max (count_plain_depth n) (greatest_below count_plain_depth (nodes_of ns)));
  local = saturated (max (count_local n) (greatest_below count_local (nodes_of ns)));
}

same_extent : (a b : Extent) → a.nodes ≡ b.nodes → a.labels ≡ b.labels → a.children ≡ b.children → a.attributes ≡ b.attributes → a.plain ≡ b.plain → a.plain_depth ≡ b.plain_depth → a.local ≡ b.local → a ≡ b
same_extent a b nodes labels children attributes plain plain_depth local =
    let fields : ◌≡◌ {A = Extent} (record { nodes = a.nodes; labels = a.labels; children = a.children; attributes = a.attributes; plain = a.plain; plain_depth = a.plain_depth; local = a.local }) (record { nodes = b.nodes; labels = b.labels; children = b.children; attributes = b.attributes; plain = b.plain; plain_depth = b.plain_depth; local = b.local }) =
    rw (nodes, labels, children, attributes, plain, plain_depth, local) refl in
    fields

with_most : (f : Node → ℕ) (n m : Node) (ns : List Node) → max (saturated (max (f n) (greatest_below f (nodes_of ns)))) (saturated (greatest_count f m)) ≡ saturated (max (f n) (greatest_below f (nodes_of (ns ++ m ∷ []))))
with_most f n m ns = omega (arith, most-push f ns m)

with_one : (n m : Node) (ns : List Node) → extent_with_child (so_far n ns) (extent_of m) ≡ so_far n (ns ++ m ∷ [])
with_one n m ns =
    same_extent (extent_with_child (so_far n ns) (extent_of m)) (so_far n (ns ++ m ∷ [])) (omega (arith, sizes-push ns m)) (omega (arith, levels-push ns m))
    (with_most count_children n m ns) (with_most count_attributes n m ns) (with_most count_plain n m ns) (with_most count_plain_depth n m ns) (with_most count_local n m ns)

-- after one child more
pub measured_more : (n : Node) (items : List Node) (i : ℕ) (m : Node) (old new child : Extent) → old ≡ so_far n (take i items) → i < length items → m ≡ get_or items i m → child ≡ extent_of m → new ≡ extent_with_child old child
    → new ≡ so_far n (take (i + 1) items)
measured_more n items i m old new child before within is measured added =
    let more : take i items ++ m ∷ [] ≡ take (i + 1) items = ap (λ (x : Node). take i items ++ x ∷ []) is ∙ sym (take_more items i m within) in
    added ∙ ap (λ (e : Extent). extent_with_child e child) before ∙ ap (extent_with_child (so_far n (take i items))) measured ∙ with_one n m (take i items) ∙ ap (so_far n) more

measured : (n : Node) → so_far n (children_of n) ≡ extent_of n
measured (node label local below) = rw (nodes_of-list_of below) refl

-- after all children
pub measured_all : (n : Node) (items : List Node) (i : ℕ) (e : Extent) → e ≡ so_far n (take i items) → items ≡ children_of n → length items ≤ i → e ≡ extent_of n
measured_all n items i e before are end = before ∙ ap (so_far n) (take_all i items end ∙ are) ∙ measured n

-- ---- the limits

above_none : (which : Which) (limit count : ℕ) (later : Option (Which × ℕ)) → past_limit which limit count later ≡ None → (count ≤ limit) × (later ≡ None)
above_none which limit count later h = by_test (nat_lt limit count) refl h
  where
    by_test : (b : Bool) → nat_lt limit count ≡ b → (if b then Some (which, count) else later) ≡ None → (count ≤ limit) × (later ≡ None)
    by_test true is e = absurd (cc)
    by_test false is e = (ltb-false limit count is, e)

none_above : (which : Which) (limit count : ℕ) (later : Option (Which × ℕ)) → count ≤ limit → later ≡ None → past_limit which limit count later ≡ None
none_above which limit count later within h = rw (le-ltb limit count within) h

-- a tree within all limits
pub record IsWithin (tree : Node) : Type 0 where
  pub nodes : size_of tree ≤ MAX_NODES
  pub labels : levels_of tree ≤ MAX_LABELS
  pub children : greatest_count count_children tree ≤ MAX_CHILDREN
  pub attributes : greatest_count count_attributes tree ≤ MAX_ATTRIBUTES
  pub plain : greatest_count count_plain tree ≤ MAX_PLAIN
  pub plain_depth : greatest_count count_plain_depth tree ≤ MAX_PLAIN_DEPTH
  pub local : greatest_count count_local tree ≤ MAX_LOCAL_BYTES

abbrev from_local : ℕ → Option (Which × ℕ)
from_local local = past_limit limits.Local MAX_LOCAL_BYTES local None

abbrev from_plain_depth : ℕ → ℕ → Option (Which × ℕ)
from_plain_depth depth local = past_limit limits.PlainDepth MAX_PLAIN_DEPTH depth (from_local local)

abbrev from_plain : ℕ → ℕ → ℕ → Option (Which × ℕ)
from_plain plain depth local = past_limit limits.Plain MAX_PLAIN plain (from_plain_depth depth local)

abbrev from_attributes : ℕ → ℕ → ℕ → ℕ → Option (Which × ℕ)
from_attributes attributes plain depth local = past_limit limits.Attributes MAX_ATTRIBUTES attributes (from_plain plain depth local)

abbrev from_children : ℕ → ℕ → ℕ → ℕ → ℕ → Option (Which × ℕ)
from_children children attributes plain depth local = past_limit limits.Children MAX_CHILDREN children (from_attributes attributes plain depth local)

abbrev from_labels : ℕ → ℕ → ℕ → ℕ → ℕ → ℕ → Option (Which × ℕ)
from_labels labels children attributes plain depth local = past_limit limits.Depth MAX_LABELS labels (from_children children attributes plain depth local)

abbrev from_nodes : ℕ → ℕ → ℕ → ℕ → ℕ → ℕ → ℕ → Option (Which × ℕ)
from_nodes nodes labels children attributes plain depth local = past_limit limits.Nodes MAX_NODES nodes (from_labels labels children attributes plain depth local)

all_within : (n l c a p d k : ℕ) → from_nodes n l c a p d k ≡ None → (n ≤ MAX_NODES) × (l ≤ MAX_LABELS) × (c ≤ MAX_CHILDREN) × (a ≤ MAX_ATTRIBUTES) × (p ≤ MAX_PLAIN) × (d ≤ MAX_PLAIN_DEPTH) × (k ≤ MAX_LOCAL_BYTES)
all_within n l c a p d k h =
    let nodes = above_none limits.Nodes MAX_NODES n (from_labels l c a p d k) h in
    let labels = above_none limits.Depth MAX_LABELS l (from_children c a p d k) nodes.1 in
    let children = above_none limits.Children MAX_CHILDREN c (from_attributes a p d k) labels.1 in
    let attributes = above_none limits.Attributes MAX_ATTRIBUTES a (from_plain p d k) children.1 in
    let plain = above_none limits.Plain MAX_PLAIN p (from_plain_depth d k) attributes.1 in
    let depth = above_none limits.PlainDepth MAX_PLAIN_DEPTH d (from_local k) plain.1 in
    let local = above_none limits.Local MAX_LOCAL_BYTES k None depth.1 in
    (nodes.0, labels.0, children.0, attributes.0, plain.0, depth.0, local.0)

within_all : (n l c a p d k : ℕ) → n ≤ MAX_NODES → l ≤ MAX_LABELS → c ≤ MAX_CHILDREN → a ≤ MAX_ATTRIBUTES → p ≤ MAX_PLAIN → d ≤ MAX_PLAIN_DEPTH → k ≤ MAX_LOCAL_BYTES → from_nodes n l c a p d k ≡ None
within_all n l c a p d k nodes labels children attributes plain depth local =
    none_above limits.Nodes MAX_NODES n (from_labels l c a p d k) nodes
    (none_above limits.Depth MAX_LABELS l (from_children c a p d k) labels
    (none_above limits.Children MAX_CHILDREN c (from_attributes a p d k) children
    (none_above limits.Attributes MAX_ATTRIBUTES a (from_plain p d k) attributes
    (none_above limits.Plain MAX_PLAIN p (from_plain_depth d k) plain
    (none_above limits.PlainDepth MAX_PLAIN_DEPTH d (from_local k) depth
    (none_above limits.Local MAX_LOCAL_BYTES k None local refl))))))

less : (n limit : ℕ) → saturated n ≤ limit → limit < saturated (suc limit) → n ≤ limit
less n limit h small = omega (arith, h, small)

also_less : (n limit : ℕ) → n ≤ limit → saturated n ≤ limit
also_less n limit h = omega (arith, h)

pub within_none : (tree : Node) → passed_limit tree ≡ None → IsWithin tree
within_none tree h =
    let w = all_within (saturated (size_of tree)) (saturated (levels_of tree)) (saturated (greatest_count count_children tree)) (saturated (greatest_count count_attributes tree)) (saturated (greatest_count count_plain tree)) (saturated (greatest_count count_plain_depth tree)) (saturated (greatest_count count_local tree)) h in
    record {
      nodes = less (size_of tree) MAX_NODES w.0 (omega arith);
      labels = less (levels_of tree) MAX_LABELS w.1 (omega arith);
      children = less (greatest_count count_children tree) MAX_CHILDREN w.2 (omega arith);
      attributes = less (greatest_count count_attributes tree) MAX_ATTRIBUTES w.3 (omega arith);
      plain = less (greatest_count count_plain tree) MAX_PLAIN w.4 (omega arith);
      plain_depth = less (greatest_count count_plain_depth tree) MAX_PLAIN_DEPTH w.5 (omega arith);
      local = less (greatest_count count_local tree) MAX_LOCAL_BYTES w.6 (omega arith);
    }

pub none_within : (tree : Node) → IsWithin tree → passed_limit tree ≡ None
none_within tree w =
    within_all (saturated (size_of tree)) (saturated (levels_of tree)) (saturated (greatest_count count_children tree)) (saturated (greatest_count count_attributes tree)) (saturated (greatest_count count_plain tree)) (saturated (greatest_count count_plain_depth tree)) (saturated (greatest_count count_local tree))
    (also_less (size_of tree) MAX_NODES w.nodes) (also_less (levels_of tree) MAX_LABELS w.labels) (also_less (greatest_count count_children tree) MAX_CHILDREN w.children)
    (also_less (greatest_count count_attributes tree) MAX_ATTRIBUTES w.attributes)
    (also_less (greatest_count count_plain tree) MAX_PLAIN w.plain) (also_less (greatest_count count_plain_depth tree) MAX_PLAIN_DEPTH w.plain_depth) (also_less (greatest_count count_local tree) MAX_LOCAL_BYTES w.local)
