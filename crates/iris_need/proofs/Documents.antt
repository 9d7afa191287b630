-- Where the nodes of a document stand: by their names, with the levels that their names leave below them.
use Rattle.std.proofs.Common.{◌≡◌, ℕ, zero, suc, ◌+◌, ◌-◌, ◌≤◌, Bool, true, false, cond, List, [], ◌∷◌, ◌++◌, length, map, refl, ap, sym, ◌∙◌, subst, append-nil, append_assoc, arith, Option, Some, None, option_and_then}
use Rattle.std.specs.List.{AllByRecursion}
use Rattle.std.specs.Option.{option_map_or}
use Rattle.std.proofs.lemmas.List.{length-append}
use Rattle.std.proofs.lemmas.List.Elements.{recursion_from_All}
use Rattle.iris_base.specs.declared.name.Label.{Label}
use Rattle.iris_base.specs.declared.limits.TheConstants.{MAX_LABELS}
use Rattle.iris_base.specs.NameOrder.{label_eq, labels_equiv}
use Rattle.iris_base.proofs.Labels.{label_eq-Decides}
use Rattle.iris_tree.specs.declared.local.Local.{Local}
use Rattle.iris_tree.specs.Universe.{Node, node, Nodes, no_nodes, nodes, list_of, label_of, local_of, children_of, ids_of, child_of, part_at, node_at, IsOrdered, AreOrdered}
use Rattle.iris_tree.specs.Document.{place_of, name_of, names_of, all_names_of}
use Rattle.iris_tree.specs.declared.item.Element.TheVariants as elements
use Rattle.iris_fragment.proofs.Cities.{node_last}
use Rattle.iris_xpath.proofs.Below.{first_found, top_found, part_node}
use Rattle.iris_xpath.proofs.Walk.{Finds, finds_all}
use Rattle.iris_tree.specs.Items.{item_of, item_at}
use Rattle.iris_need.specs.Documents.{IsDocument}
use Rattle.iris_need.specs.Program.{room}
use Rattle.iris_need.specs.Run.{ids_in, local_in, no_local}

-- ---- levels

-- a node with at most that many levels below it
abbrev mutual
  pub Shallow : Node → ℕ → Type 0
  Shallow (node l local below) levels = AllShallow below levels

  pub AllShallow : Nodes → ℕ → Type 0
  AllShallow no_nodes levels = Unit {0}
  AllShallow (nodes n ns) zero = ⊥
  AllShallow (nodes n ns) (suc levels) = Shallow n levels × AllShallow ns (suc levels)

-- no name has more labels than that
abbrev NoLonger : ℕ → List (List Label) → Type 0
NoLonger most names = AllByRecursion (λ name. length name ≤ most) names

one_shorter : (most : ℕ) (l : Label) (names : List (List Label)) → NoLonger (suc most) (map (λ name. l ∷ name) names) → NoLonger most names
one_shorter most l [] h = tt
one_shorter most l (name ∷ names) h = (omega (arith, h.0), one_shorter most l names h.1)

first_names : (most : ℕ) (names more : List (List Label)) → NoLonger most (names ++ more) → NoLonger most names
first_names most [] more h = tt
first_names most (name ∷ names) more h = (h.0, first_names most names more h.1)

later_names : (most : ℕ) (names more : List (List Label)) → NoLonger most (names ++ more) → NoLonger most more
later_names most [] more h = h
later_names most (name ∷ names) more h = later_names most names more h.1

some_label : (n : Node) (more : List (List Label)) → NoLonger zero (names_of n ++ more) → ⊥
some_label (node l local below) more h = omega (arith, h.0)

mutual
  shallow : (n : Node) (levels : ℕ) → NoLonger (suc levels) (names_of n) → Shallow n levels
  shallow (node l local below) levels h = all_shallow below levels (one_shorter levels l (all_names_of below) h.1)

  all_shallow : (ns : Nodes) (levels : ℕ) → NoLonger levels (all_names_of ns) → AllShallow ns levels
  all_shallow no_nodes levels h = tt
  all_shallow (nodes n ns) zero h = some_label n (all_names_of ns) h
  all_shallow (nodes n ns) (suc levels) h = (shallow n levels (first_names (suc levels) (names_of n) (all_names_of ns) h), all_shallow ns (suc levels) (later_names (suc levels) (names_of n) (all_names_of ns) h))

-- ---- nodes at their names

-- the node stands at the name, which leaves that many levels below it
pub record Stands (document : Node) (name : List Label) (n : Node) (levels : ℕ) : Type 0 where
  pub there : node_at document name ≡ Some n
  pub ordered : IsOrdered n
  pub bounded : Shallow n levels
  pub levels_left : levels + length name ≡ MAX_LABELS

-- so do these children of the node at the name
abbrev pub AllStand : Node → List Label → Nodes → ℕ → Type 0
AllStand document name no_nodes levels = Unit {0}
AllStand document name (nodes n ns) zero = ⊥
AllStand document name (nodes n ns) (suc levels) = Stands document (name ++ label_of n ∷ []) n levels × AllStand document name ns (suc levels)

-- the node at a name with one label more
pub child_at : (document : Node) (name : List Label) (l : Label) (n : Node) → node_at document name ≡ Some n → node_at document (name ++ l ∷ []) ≡ child_of l (children_of n)
child_at document [] l n h = absurd (cc)
child_at document (a ∷ name) l n h = node_last document a name l ∙ ap (option_and_then (λ p. child_of l (children_of p))) h

one_level : (levels : ℕ) (name : List Label) (l : Label) → suc levels + length name ≡ MAX_LABELS → levels + length (name ++ l ∷ []) ≡ MAX_LABELS
one_level levels name l h = omega (arith, length-append name (l ∷ []))

below_stand : (document : Node) (name : List Label) (n : Node) (ns : Nodes) (levels : ℕ) → node_at document name ≡ Some n → Finds (children_of n) ns → AreOrdered ns → AllShallow ns levels → levels + length name ≡ MAX_LABELS → AllStand document name ns levels
below_stand document name n no_nodes levels there found ordered bounded left = tt
below_stand document name n (nodes c cs) zero there found ordered bounded left = absurd bounded
below_stand document name n (nodes c cs) (suc levels) there found ordered bounded left = (
  record { there = child_at document name (label_of c) n there ∙ found.0; ordered = ordered.0; bounded = bounded.0; levels_left = one_level levels name (label_of c) left },
  below_stand document name n cs (suc levels) there found.1 ordered.2 bounded.1 left,
)

-- the children of a node that stands at a name
pub children_stand : (document : Node) (name : List Label) (l : Label) (local : Local) (below : Nodes) (levels : ℕ) → Stands document name (node l local below) levels → AllStand document name below levels
children_stand document name l local below levels h = below_stand document name (node l local below) below levels h.there (finds_all below h.ordered) h.ordered h.bounded h.levels_left

top_at : (n : Node) → node_at n (label_of n ∷ []) ≡ Some n
top_at n = ap (λ b. cond b (Some n) None) (labels_equiv.refl (label_of n))

-- the top node
pub top_stands : (document : Node) → IsDocument document → Stands document (label_of document ∷ []) document (MAX_LABELS - 1)
top_stands document h = record { there = top_at document; ordered = h.0; bounded = shallow document (MAX_LABELS - 1) (recursion_from_All (λ name. length name ≤ MAX_LABELS) (names_of document) h.1); levels_left = refl }

this_stands : (document : Node) (name : List Label) (n : Node) (levels : ℕ) (l : Label) (c : Node) (b : Bool) → label_eq (label_of n) l ≡ b → Stands document (name ++ label_of n ∷ []) n levels → (o : Option Node) → cond b (Some n) o ≡ Some c
    → (o ≡ Some c → (left : ℕ) × Stands document (name ++ l ∷ []) c left) → (left : ℕ) × Stands document (name ++ l ∷ []) c left
this_stands document name n levels l c true e h o found later =
    let it : n ≡ c = cc in
    (levels, subst (λ (m : Node). Stands document (name ++ l ∷ []) m levels) it (subst (λ (m : Label). Stands document (name ++ m ∷ []) n levels) ((label_eq-Decides (label_of n) l).0 e) h))
this_stands document name n levels l c false e h o found later = later found

child_stands : (document : Node) (name : List Label) (ns : Nodes) (levels : ℕ) (l : Label) (c : Node) → AllStand document name ns levels → child_of l (list_of ns) ≡ Some c → (left : ℕ) × Stands document (name ++ l ∷ []) c left
child_stands document name no_nodes levels l c h found = absurd (cc)
child_stands document name (nodes n ns) zero l c h found = absurd h
child_stands document name (nodes n ns) (suc levels) l c h found =
    this_stands document name n levels l c (label_eq (label_of n) l) refl h.0 (child_of l (list_of ns)) found (λ f. child_stands document name ns (suc levels) l c h.1 f)

stands_below : (document : Node) (above : List Label) (n : Node) (levels : ℕ) (l : Label) (c : Node) → Stands document above n levels → child_of l (children_of n) ≡ Some c → (left : ℕ) × Stands document (above ++ l ∷ []) c left
stands_below document above (node m local ns) levels l c h found = child_stands document above ns levels l c (children_stand document above m local ns levels h) found

stands_at : (document : Node) (above : List Label) (n : Node) (levels : ℕ) (name : List Label) (m : Node) → Stands document above n levels → part_at n name ≡ Some m → (left : ℕ) × Stands document (above ++ name) m left
stands_at document above n levels [] m h found =
    let it : n ≡ m = cc in
    (levels, subst (λ (x : List Label). Stands document x m levels) (sym (append-nil above)) (subst (λ (k : Node). Stands document above k levels) it h))
stands_at document above n levels (l ∷ name) m h found =
    let c = first_found (λ child. part_at child name) (child_of l (children_of n)) m found in
    let s = stands_below document above n levels l c.0 h c.1 in
    let r = stands_at document (above ++ l ∷ []) c.0 s.0 name m s.1 c.2 in
    (r.0, subst (λ (x : List Label). Stands document x m r.0) (append_assoc above (l ∷ []) name) r.1)

-- a node at a name stands there with the levels that the name leaves
pub standing : (document : Node) (name : List Label) (n : Node) → IsDocument document → node_at document name ≡ Some n → (levels : ℕ) × Stands document name n levels
standing document [] n h found = absurd (cc)
standing document (l ∷ name) n h found =
    let top = top_found document (label_eq (label_of document) l) name n found in
    let same : label_of document ≡ l = (label_eq-Decides (label_of document) l).0 top.0 in
    stands_at document (l ∷ []) document (MAX_LABELS - 1) name n (subst (λ (m : Label). Stands document (m ∷ []) document (MAX_LABELS - 1)) same (top_stands document h)) top.1

-- ---- what is seen of a node

-- the room below a node is the number of levels that it leaves
pub room_is : (document : Node) (name : List Label) (n : Node) (levels : ℕ) → Stands document name n levels → room name ≡ levels
unfolding room
room_is document name n levels h = let left = h.levels_left in omega (arith)

-- the ids at the name of a node are those of the node
pub ids_are : (document : Node) (name : List Label) (n : Node) → node_at document name ≡ Some n → ids_in document name ≡ ids_of n
ids_are document name n h = ap (λ (o : Option Node). option_map_or ids_of o []) h

-- the local information at the name of a node is that of the node
pub local_is : (document : Node) (name : List Label) (n : Node) → node_at document name ≡ Some n → local_in document name ≡ local_of n
local_is document name n h = ap (λ (o : Option Node). option_map_or local_of o no_local) h

-- ---- the item of a node

-- the name of the place of a node
pub name_is : (name : List Label) → name_of (place_of name) ≡ name
name_is [] = refl
name_is (l ∷ name) = ap (λ ls. l ∷ ls) (name_is name)

-- the item at the place of a node
pub item_is : (document : Node) (name : List Label) (n : Node) → node_at document name ≡ Some n → item_at document (place_of name) ≡ Some (record { at = name; is = elements.Node n })
item_is document name n h =
    ap (option_and_then (item_of (name_of (place_of name)))) (part_node document name n h) ∙ ap (λ (at : List Label). Some (record { at = at; is = elements.Node n })) (name_is name)
