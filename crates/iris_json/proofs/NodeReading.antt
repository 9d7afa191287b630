-- From a JSON value to a node: its children are read one after another, and put in the order of labels.
use Rattle.std.proofs.Common.{◌≡◌, ℕ, zero, suc, ◌+◌, ◌<◌, ◌≤◌, codes, List, [], ◌∷◌, ◌++◌, length, take, get_or, Some, refl, ap, sym, ◌∙◌, subst, arith}
use Rattle.std.proofs.lemmas.List.{take_more, take_all}
use Rattle.serde_json.specs.declared.value.Value.{Value}
use Rattle.serde_json.specs.Data.{Data, object, Members, Items, no_items, item}
use Rattle.serde_json.specs.Find.{as_object}
use Rattle.serde_json.specs.View.{view, items_view}
use Rattle.iris_base.specs.declared.name.Label.{Label}
use Rattle.iris_tree.specs.declared.local.Local.{Local}
use Rattle.iris_tree.specs.declared.plain.Plain.{Plain}
use Rattle.iris_tree.specs.Attrs.{Pairs}
use Rattle.iris_tree.specs.NodeCode.{nodes_of-list_of}
use Rattle.iris_tree.specs.Siblings.{HaveDistinctLabels, IsLabelOrder}
use Rattle.iris_tree.specs.Universe.{Node, node, Nodes, nodes_of, list_of, label_of, local_of, children_of}
use Rattle.iris_tree.proofs.Siblings.{list_of-nodes_of, label_order_once, label_order_distinct}
use Rattle.iris_json.specs.CityForm.{EachLocalForm, AllLocalForms}
use Rattle.iris_json.specs.CityKeys.{LabelAt, LocalAt, OwnAt, NodesAt, IsNode, is_node, AreNodes, none, more}
use Rattle.iris_json.specs.PlainLine.{AttrsAt, PlainsAt}
use Rattle.iris_json.proofs.PlainReading.{attrs_once, items_once, plains_at_once}
use Rattle.iris_json.proofs.MemberKeys.{object_of}

-- ---- a node by its parts

-- what a value that is a node has
abbrev pub NodeParts : List (List ℕ) → Data → Node → Type 0
NodeParts kinds d n =
    (items : Items) × (given : List Node) × OwnAt kinds d (label_of n) (local_of n) × NodesAt d items × AreNodes kinds items given × IsLabelOrder given (children_of n)

parts : (kinds : List (List ℕ)) (d : Data) (n : Node) → IsNode kinds d n → NodeParts kinds d n
parts kinds d n (is_node same label local items given ordered own at are order) = (items, given, own, at, are, subst (IsLabelOrder given) (sym (list_of-nodes_of ordered)) order)

-- a value that has the parts of a node is one
pub from_parts : (kinds : List (List ℕ)) (d : Data) (n : Node) (items : Items) (given : List Node) → OwnAt kinds d (label_of n) (local_of n) → NodesAt d items → AreNodes kinds items given → IsLabelOrder given (children_of n) → IsNode kinds d n
from_parts kinds d (node label local ns) items given own at are order =
    subst (λ (ms : Nodes). IsNode kinds d (node label local ms)) (nodes_of-list_of ns) (is_node d label local items given (list_of ns) own at are order)

-- the label of a node is that of its value
pub own_label : (kinds : List (List ℕ)) (d : Data) (n : Node) → IsNode kinds d n → LabelAt kinds d (label_of n)
own_label kinds d n is = (parts kinds d n is).2.1

-- nodes with the same parts are the same
same_node : (s t : Node) → label_of s ≡ label_of t → local_of s ≡ local_of t → children_of s ≡ children_of t → s ≡ t
same_node (node a l ms) (node b k ns) labels locals children =
    let below : ms ≡ ns = sym (nodes_of-list_of ms) ∙ ap nodes_of children ∙ nodes_of-list_of ns in
    rw (labels, locals, below) refl

-- ---- lists of nodes

-- what the first of a list of values is
abbrev Splits : List (List ℕ) → Items → List Node → Type 0
Splits kinds no_items ns = ns ≡ []
Splits kinds (item d items) ns = (n : Node) × (rest : List Node) × (ns ≡ n ∷ rest) × IsNode kinds d n × AreNodes kinds items rest

split : (kinds : List (List ℕ)) (items : Items) (ns : List Node) → AreNodes kinds items ns → Splits kinds items ns
split kinds items ns none = refl
split kinds items ns (more d n rest ms one all) = (n, ms, refl, one, all)

-- one more at the end
nodes_more : (kinds : List (List ℕ)) (xs : List Value) (v : Value) (ns : List Node) (n : Node) → AreNodes kinds (items_view xs) ns → IsNode kinds (view v) n → AreNodes kinds (items_view (xs ++ v ∷ [])) (ns ++ n ∷ [])
nodes_more kinds [] v ns n are one =
    subst (λ (ms : List Node). AreNodes kinds (items_view (v ∷ [])) (ms ++ n ∷ [])) (sym (split kinds no_items ns are)) (more (view v) n no_items [] one none)
nodes_more kinds (x ∷ xs) v ns n are one =
    let s = split kinds (items_view (x ∷ xs)) ns are in
    subst (λ (ms : List Node). AreNodes kinds (items_view ((x ∷ xs) ++ v ∷ [])) (ms ++ n ∷ [])) (sym s.2)
    (more (view x) s.0 (items_view (xs ++ v ∷ [])) (s.1 ++ n ∷ []) s.3 (nodes_more kinds xs v s.1 n s.4 one))

-- the value at a place of a list of nodes is a node
pub node_there : (kinds : List (List ℕ)) (vs : List Value) (ns : List Node) (i : ℕ) (v : Value) → AreNodes kinds (items_view vs) ns → i < length vs → v ≡ get_or vs i v → (n : Node) × IsNode kinds (view v) n
node_there kinds [] ns i v are within is = absurd (omega (arith, within))
node_there kinds (x ∷ vs) ns zero v are within is =
    let s = split kinds (items_view (x ∷ vs)) ns are in
    (s.0, subst (λ (w : Value). IsNode kinds (view w) s.0) (sym is) s.3)
node_there kinds (x ∷ vs) ns (suc i) v are within is =
    let s = split kinds (items_view (x ∷ vs)) ns are in
    node_there kinds vs s.1 i v s.4 (omega (arith, within)) is

-- ---- one node at most

-- a value has one label at most
pub label_once : (kinds : List (List ℕ)) (d : Data) (l m : Label) → LabelAt kinds d l → LabelAt kinds d m → l ≡ m
label_once kinds d l m h k =
    let first : l.kind ≡ m.kind = cc (h.0, k.0) in
    let second : l.id ≡ m.id = cc (h.1, k.1) in
    let fields : ◌≡◌ {A = Label} (record { kind = l.kind; id = l.id }) (record { kind = m.kind; id = m.id }) = rw (first, second) refl in
    fields

-- local information of these parts is the one that the value has
pub local_is : (kinds : List (List ℕ)) (d : Data) (attrs : Pairs) (plain : List Plain) → AttrsAt d attrs → PlainsAt d plain → (local : Local) → LocalAt kinds d local → ◌≡◌ {A = Local} (record { attrs = attrs; plain = plain }) local
local_is kinds d attrs plain at also local is =
    let first : attrs ≡ local.attrs = attrs_once d attrs local.attrs at is.attrs_at in
    let second : plain ≡ local.plain = plains_at_once d plain local.plain also is.plain_at in
    let fields : ◌≡◌ {A = Local} (record { attrs = attrs; plain = plain }) (record { attrs = local.attrs; plain = local.plain }) = rw (first, second) refl in
    fields

local_once : (kinds : List (List ℕ)) (d : Data) (k l : Local) → LocalAt kinds d k → LocalAt kinds d l → k ≡ l
local_once kinds d k l h g = local_is kinds d k.attrs k.plain h.attrs_at h.plain_at l g

-- a value is one node at most
mutual
  pub node_once : (kinds : List (List ℕ)) (d : Data) (m n : Node) → IsNode kinds d m → IsNode kinds d n → m ≡ n
  node_once kinds d m n (is_node same label local items given ordered own at are order) is =
      let p = parts kinds d n is in
      let items_are : p.0 ≡ items = items_once (codes "nodes") d p.0 items p.3 at in
      let given_is : given ≡ p.1 = nodes_once kinds items given p.1 are (subst (λ (ds : Items). AreNodes kinds ds p.1) items_are p.4) in
      let children : ordered ≡ children_of n = label_order_once p.1 ordered (children_of n) (subst (λ (ns : List Node). IsLabelOrder ns ordered) given_is order) p.5 in
      same_node (node label local (nodes_of ordered)) n (label_once kinds d label (label_of n) own.1 p.2.1) (local_once kinds d local (local_of n) own.2 p.2.2) (list_of-nodes_of ordered ∙ children)

  pub nodes_once : (kinds : List (List ℕ)) (items : Items) (ms ns : List Node) → AreNodes kinds items ms → AreNodes kinds items ns → ms ≡ ns
  nodes_once kinds items ms ns none are = sym (split kinds no_items ns are)
  nodes_once kinds items ms ns (more d m rest others one all) are =
      let s = split kinds (item d rest) ns are in
      let first : m ≡ s.0 = node_once kinds d m s.0 one s.3 in
      let later : others ≡ s.1 = nodes_once kinds rest others s.1 all s.4 in
      ap (λ (x : Node). x ∷ others) first ∙ ap (λ (xs : List Node). s.0 ∷ xs) later ∙ sym s.2

-- ---- the loop over the children

-- the first i of these values are the nodes ns
pub record ReadSo (kinds : List (List ℕ)) (items : List Value) (i : ℕ) (ns : List Node) : Type 0 where
  pub are : AreNodes kinds (items_view (take i items)) ns
  pub form : AllLocalForms (nodes_of ns)

pub so_start : (kinds : List (List ℕ)) (items : List Value) (ns : List Node) → ns ≡ [] → ReadSo kinds items 0 ns
so_start kinds items [] alone = record { are = none; form = tt }
so_start kinds items (n ∷ ns) alone = absurd (cc)

forms_more : (ns : List Node) (n : Node) → AllLocalForms (nodes_of ns) → EachLocalForm n → AllLocalForms (nodes_of (ns ++ n ∷ []))
forms_more [] n all one = (one, tt)
forms_more (m ∷ ns) n all one = (all.0, forms_more ns n all.1 one)

-- one child more
pub so_step : (kinds : List (List ℕ)) (items : List Value) (i : ℕ) (ns : List Node) → ReadSo kinds items i ns → (v : Value) → i < length items → v ≡ get_or items i v
    → (n : Node) → IsNode kinds (view v) n → EachLocalForm n → (new : List Node) → new ≡ ns ++ n ∷ [] → ReadSo kinds items (i + 1) new
so_step kinds items i ns s v within is n one form new made =
    let before : take i items ++ v ∷ [] ≡ take (i + 1) items = ap (λ (x : Value). take i items ++ x ∷ []) is ∙ sym (take_more items i v within) in
    let are = subst (λ (vs : List Value). AreNodes kinds (items_view vs) (ns ++ n ∷ [])) before (nodes_more kinds (take i items) v ns n s.are one) in
    record {
      are = subst (AreNodes kinds (items_view (take (i + 1) items))) (sym made) are;
      form = subst (λ (ms : List Node). AllLocalForms (nodes_of ms)) (sym made) (forms_more ns n s.form form);
    }

-- ---- the ways out

inside : (kinds : List (List ℕ)) (d : Data) (ms : Members) (t : Node) → Some ms ≡ as_object d → IsNode kinds d t → NodeParts kinds (object ms) t
inside kinds d ms t o is = subst (λ (v : Data). NodeParts kinds v t) (object_of d ms o) (parts kinds d t is)

-- what a node of this object has itself
pub own_of : (kinds : List (List ℕ)) (d : Data) (ms : Members) (t : Node) → Some ms ≡ as_object d → IsNode kinds d t → OwnAt kinds (object ms) (label_of t) (local_of t)
own_of kinds d ms t o is = (inside kinds d ms t o is).2

-- the list of nodes of this object
pub nodes_of_it : (kinds : List (List ℕ)) (d : Data) (ms : Members) (t : Node) → Some ms ≡ as_object d → IsNode kinds d t → (items : Items) × NodesAt (object ms) items
nodes_of_it kinds d ms t o is = let p = inside kinds d ms t o is in (p.0, p.3)

-- what there is below a node of this object, whose list of nodes is vs
pub below_it : (kinds : List (List ℕ)) (d : Data) (ms : Members) (vs : List Value) (t : Node) → Some ms ≡ as_object d → ((items : Items) → NodesAt (object ms) items → items_view vs ≡ items) → IsNode kinds d t
    → (given : List Node) × AreNodes kinds (items_view vs) given × IsLabelOrder given (children_of t)
below_it kinds d ms vs t o same is =
    let p = inside kinds d ms t o is in
    (p.1, subst (λ (items : Items). AreNodes kinds items p.1) (sym (same p.0 p.3)) p.4, p.5)

all_read : (kinds : List (List ℕ)) (items : List Value) (i : ℕ) (ns : List Node) → ReadSo kinds items i ns → length items ≤ i → AreNodes kinds (items_view items) ns
all_read kinds items i ns s end = subst (λ (vs : List Value). AreNodes kinds (items_view vs) ns) (take_all i items end) s.are

-- all of the values are read, and put in order
pub so_found : (kinds : List (List ℕ)) (d : Data) (ms : Members) (items : List Value) (i : ℕ) (ns : List Node) (tree : Node) → ReadSo kinds items i ns
    → Some ms ≡ as_object d → (label : Label) (local : Local) → OwnAt kinds (object ms) label local → NodesAt (object ms) (items_view items) → length items ≤ i
    → label_of tree ≡ label → local_of tree ≡ local → IsLabelOrder ns (children_of tree) → IsNode kinds d tree
so_found kinds d ms items i ns tree s o label local own at end labels locals order =
    let own_it : OwnAt kinds (object ms) (label_of tree) (local_of tree) =
    subst (λ (l : Label). OwnAt kinds (object ms) l (local_of tree)) (sym labels) (subst (λ (k : Local). OwnAt kinds (object ms) label k) (sym locals) own) in
    subst (λ (v : Data). IsNode kinds v tree) (sym (object_of d ms o)) (from_parts kinds (object ms) tree (items_view items) ns own_it at (all_read kinds items i ns s end) order)

-- the values were read, and no two of the nodes have the same label where the value is a node
pub so_distinct : (kinds : List (List ℕ)) (items : List Value) (i : ℕ) (ns : List Node) → ReadSo kinds items i ns → length items ≤ i
    → (given ordered : List Node) → AreNodes kinds (items_view items) given → IsLabelOrder given ordered → HaveDistinctLabels ns
so_distinct kinds items i ns s end given ordered are order =
    subst HaveDistinctLabels (nodes_once kinds (items_view items) given ns are (all_read kinds items i ns s end)) (label_order_distinct given ordered order)
