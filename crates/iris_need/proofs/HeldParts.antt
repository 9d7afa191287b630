-- The part of a document that needs tell of is a document itself, and has the nodes of the whole at their names.
use Rattle.std.proofs.Common.{◌≡◌, ◌≤◌, Bool, true, false, cond, List, [], ◌∷◌, ◌++◌, length, map, Option, Some, None, IsSome, option_map, option_and_then, slice_get, refl, sym, ◌∙◌, ap, subst, append-nil, append_assoc}
use Rattle.std.specs.List.{AllByRecursion}
use Rattle.std.proofs.lemmas.List.Elements.{All-from_recursion, recursion_from_All}
use Rattle.iris_base.specs.declared.name.Label.{Label}
use Rattle.iris_base.specs.declared.limits.TheConstants.{MAX_LABELS}
use Rattle.iris_base.specs.NameOrder.{label_eq, label_cmp, labels_equiv}
use Rattle.iris_base.proofs.Labels.{label_eq-Decides}
use Rattle.iris_tree.specs.Universe.{Node, node, Nodes, no_nodes, nodes, list_of, label_of, local_of, children_of, ids_of, child_of, part_at, node_at, AllAfter, IsOrdered, AreOrdered}
use Rattle.iris_tree.specs.Document.{position, label, Place, below_plain, below_node, names_of, all_names_of}
use Rattle.iris_fragment.specs.declared.piece.Level.{Level}
use Rattle.iris_fragment.specs.declared.piece.Level.TheVariants.{Ids, Full}
use Rattle.iris_xpath.proofs.Below.{first_found, top_found}
use Rattle.iris_need.specs.declared.need.Need.{Need}
use Rattle.iris_need.specs.Documents.{HasNoPlainId, HasIdsAtNodesAlone}
use Rattle.iris_need.specs.HeldParts.{level_at, local_held, nodes_held, held_part, held_below}
use Rattle.iris_need.proofs.Attributes.{IsCity}

-- a child of the node at a name, as far as needs tell of it
abbrev pub held_child : List Need → List Label → Node → Node
held_child needs name n = held_part needs (name ++ label_of n ∷ []) n

-- a part has the label of its node
pub held_label : (needs : List Need) (name : List Label) (n : Node) → label_of (held_part needs name n) ≡ label_of n
held_label needs name (node l local below) = refl

-- ---- in order

held_after : (l : Label) (needs : List Need) (name : List Label) (ns : Nodes) → AllAfter l ns → AllAfter l (held_below needs name ns)
held_after l needs name no_nodes h = tt
held_after l needs name (nodes n ns) h = (ap (label_cmp l) (held_label needs (name ++ label_of n ∷ []) n) ∙ h.0, held_after l needs name ns h.1)

ordered_if : (o : Option Level) (ns : Nodes) → AreOrdered ns → AreOrdered (nodes_held o ns)
ordered_if None ns h = tt
ordered_if (Some level) ns h = h

mutual
  held_ordered : (needs : List Need) (name : List Label) (n : Node) → IsOrdered n → IsOrdered (held_part needs name n)
  held_ordered needs name (node l local below) h = ordered_if (level_at needs name) (held_below needs name below) (below_ordered needs name below h)

  below_ordered : (needs : List Need) (name : List Label) (ns : Nodes) → AreOrdered ns → AreOrdered (held_below needs name ns)
  below_ordered needs name no_nodes h = tt
  below_ordered needs name (nodes n ns) h =
      (held_ordered needs (name ++ label_of n ∷ []) n h.0, subst (λ (l : Label). AllAfter l (held_below needs name ns)) (sym (held_label needs (name ++ label_of n ∷ []) n)) (held_after (label_of n) needs name ns h.1), below_ordered needs name ns h.2)

-- ---- its names

first_names : (P : List Label → Type 0) (names more : List (List Label)) → AllByRecursion P (names ++ more) → AllByRecursion P names
first_names P [] more h = tt
first_names P (name ∷ names) more h = (h.0, first_names P names more h.1)

later_names : (P : List Label → Type 0) (names more : List (List Label)) → AllByRecursion P (names ++ more) → AllByRecursion P more
later_names P [] more h = h
later_names P (name ∷ names) more h = later_names P names more h.1

both_names : (P : List Label → Type 0) (names more : List (List Label)) → AllByRecursion P names → AllByRecursion P more → AllByRecursion P (names ++ more)
both_names P [] more h k = k
both_names P (name ∷ names) more h k = (h.0, both_names P names more h.1 k)

under_label : (P : List Label → Type 0) (l : Label) (names : List (List Label)) → AllByRecursion (λ name. P (l ∷ name)) names → AllByRecursion P (map (λ name. l ∷ name) names)
under_label P l [] h = tt
under_label P l (name ∷ names) h = (h.0, under_label P l names h.1)

without_label : (P : List Label → Type 0) (l : Label) (names : List (List Label)) → AllByRecursion P (map (λ name. l ∷ name) names) → AllByRecursion (λ name. P (l ∷ name)) names
without_label P l [] h = tt
without_label P l (name ∷ names) h = (h.0, without_label P l names h.1)

names_if : (P : List Label → Type 0) (o : Option Level) (ns : Nodes) → AllByRecursion P (all_names_of ns) → AllByRecursion P (all_names_of (nodes_held o ns))
names_if P None ns h = tt
names_if P (Some level) ns h = h

mutual
  held_names : (P : List Label → Type 0) (needs : List Need) (name : List Label) (n : Node) → AllByRecursion P (names_of n) → AllByRecursion P (names_of (held_part needs name n))
  held_names P needs name (node l local below) h =
      (h.0, under_label P l (all_names_of (nodes_held (level_at needs name) (held_below needs name below))) (names_if (λ m. P (l ∷ m)) (level_at needs name) (held_below needs name below) (below_names (λ m. P (l ∷ m)) needs name below (without_label P l (all_names_of below) h.1))))

  below_names : (P : List Label → Type 0) (needs : List Need) (name : List Label) (ns : Nodes) → AllByRecursion P (all_names_of ns) → AllByRecursion P (all_names_of (held_below needs name ns))
  below_names P needs name no_nodes h = tt
  below_names P needs name (nodes n ns) h =
      both_names P (names_of (held_child needs name n)) (all_names_of (held_below needs name ns)) (held_names P needs (name ++ label_of n ∷ []) n (first_names P (names_of n) (all_names_of ns) h)) (below_names P needs name ns (later_names P (names_of n) (all_names_of ns) h))

-- ---- its children

one_child : (needs : List Need) (name : List Label) (b : Bool) (n : Node) (o p : Option Node) → o ≡ option_map (held_child needs name) p → cond b (Some (held_child needs name n)) o ≡ option_map (held_child needs name) (cond b (Some n) p)
one_child needs name true n o p h = refl
one_child needs name false n o p h = h

-- a child of a part is the part of the child
pub child_held : (needs : List Need) (name : List Label) (l : Label) (ns : Nodes) → child_of l (list_of (held_below needs name ns)) ≡ option_map (held_child needs name) (child_of l (list_of ns))
child_held needs name l no_nodes = refl
child_held needs name l (nodes n ns) =
    ap (λ (m : Label). cond (label_eq m l) (Some (held_child needs name n)) (child_of l (list_of (held_below needs name ns)))) (held_label needs (name ++ label_of n ∷ []) n)
    ∙ one_child needs name (label_eq (label_of n) l) n (child_of l (list_of (held_below needs name ns))) (child_of l (list_of ns)) (child_held needs name l ns)

-- the children of a part are the parts of the children
pub children_held : (needs : List Need) (name : List Label) (ns : Nodes) → list_of (held_below needs name ns) ≡ map (held_child needs name) (list_of ns)
children_held needs name no_nodes = refl
children_held needs name (nodes n ns) = ap (λ (ms : List Node). held_child needs name n ∷ ms) (children_held needs name ns)

-- ---- no plain element has an id

no_id_within : (place : Place) (needs : List Need) (name : List Label) (n : Node) → ((p : Place) → HasNoPlainId (below_node n p)) → HasNoPlainId (below_node (held_part needs name n) place)
no_id_within [] needs name n h = tt
no_id_within (position i ∷ place) needs name (node l local below) h = by (level_at needs name)
  where
    by : (o : Option Level) → HasNoPlainId (option_and_then (λ p. below_plain p place) (slice_get (local_held o local).plain i))
    by None = tt
    by (Some Ids) = tt
    by (Some Full) = h (position i ∷ place)
no_id_within (label m ∷ place) needs name (node l local below) h = by (λ at c. no_id_within place needs at c) (level_at needs name)
  where
    -- below a child, if that is so of each
    child : ((at : List Label) (c : Node) → ((p : Place) → HasNoPlainId (below_node c p)) → HasNoPlainId (below_node (held_part needs at c) place)) → (o : Option Node) → child_of m (list_of below) ≡ o → HasNoPlainId (option_and_then (λ c. below_node c place) (option_map (held_child needs name) o))
    child each None e = tt
    child each (Some c) e = each (name ++ label_of c ∷ []) c (λ p. subst (λ (o : Option Node). HasNoPlainId (option_and_then (λ k. below_node k p) o)) e (h (label m ∷ p)))

    by : ((at : List Label) (c : Node) → ((p : Place) → HasNoPlainId (below_node c p)) → HasNoPlainId (below_node (held_part needs at c) place)) → (o : Option Level) → HasNoPlainId (option_and_then (λ c. below_node c place) (child_of m (list_of (nodes_held o (held_below needs name below)))))
    by each None = tt
    by each (Some level) = subst (λ (o : Option Node). HasNoPlainId (option_and_then (λ c. below_node c place) o)) (sym (child_held needs name m below)) (child each (child_of m (list_of below)) refl)

no_id_held : (needs : List Need) (name : List Label) (document : Node) → HasIdsAtNodesAlone document → HasIdsAtNodesAlone (held_part needs name document)
no_id_held needs name document h [] = tt
no_id_held needs name document h (position i ∷ place) = tt
no_id_held needs name document h (label l ∷ place) = by (label_eq (label_of (held_part needs name document)) l)
  where
    within : (p : Place) → HasNoPlainId (below_node document p)
    within p = subst (λ (b : Bool). HasNoPlainId (cond b (below_node document p) None)) (labels_equiv.refl (label_of document)) (h (label (label_of document) ∷ p))

    by : (b : Bool) → HasNoPlainId (cond b (below_node (held_part needs name document) place) None)
    by true = no_id_within place needs name document within
    by false = tt

-- the part of a city is a city
pub held_city : (needs : List Need) (name : List Label) (document : Node) → IsCity document → IsCity (held_part needs name document)
held_city needs name document city = record {
  in_order = (
    held_ordered needs name document city.in_order.0,
    All-from_recursion (λ m. length m ≤ MAX_LABELS) (names_of (held_part needs name document)) (held_names (λ m. length m ≤ MAX_LABELS) needs name document (recursion_from_All (λ m. length m ≤ MAX_LABELS) (names_of document) city.in_order.1)),
  );
  plain_ids = no_id_held needs name document city.plain_ids;
}

-- ---- its nodes at their names

-- there is a need for each of these names, from one down: the first, and those that the labels lead to before the last
abbrev pub AreHeld : List Need → List Label → List Label → Type 0
AreHeld needs above [] = Unit {0}
AreHeld needs above (l ∷ ls) = IsSome (level_at needs above) × AreHeld needs (above ++ l ∷ []) ls

found_label : (ns : Nodes) (l : Label) (c : Node) → child_of l (list_of ns) ≡ Some c → label_of c ≡ l
found_label no_nodes l c h = absurd (cc)
found_label (nodes n ns) l c h = by (label_eq (label_of n) l) refl h (λ found. found_label ns l c found)
  where
    by : (b : Bool) → label_eq (label_of n) l ≡ b → cond b (Some n) (child_of l (list_of ns)) ≡ Some c → (child_of l (list_of ns) ≡ Some c → label_of c ≡ l) → label_of c ≡ l
    by true e found later = let it : n ≡ c = cc in ap label_of (sym it) ∙ (label_eq-Decides (label_of n) l).0 e
    by false e found later = later found

child_there : (needs : List Need) (above : List Label) (n : Node) (l : Label) (c : Node) → IsSome (level_at needs above) → child_of l (children_of n) ≡ Some c → child_of l (children_of (held_part needs above n)) ≡ Some (held_part needs (above ++ l ∷ []) c)
child_there needs above (node m local below) l c held found =
    by (level_at needs above) held ∙ child_held needs above l below ∙ ap (option_map (held_child needs above)) found ∙ ap (λ (k : Label). Some (held_part needs (above ++ k ∷ []) c)) (found_label below l c found)
  where
    by : (o : Option Level) → IsSome o → child_of l (list_of (nodes_held o (held_below needs above below))) ≡ child_of l (list_of (held_below needs above below))
    by None h = absurd (cc)
    by (Some level) h = refl

-- the part of the node to which labels lead
pub part_held : (ls : List Label) (needs : List Need) (above : List Label) (n m : Node) → part_at n ls ≡ Some m → AreHeld needs above ls → part_at (held_part needs above n) ls ≡ Some (held_part needs (above ++ ls) m)
part_held [] needs above n m found held =
    let it : n ≡ m = cc in
    ap (λ (k : Node). Some (held_part needs above k)) it ∙ ap (λ (name : List Label). Some (held_part needs name m)) (sym (append-nil above))
part_held (l ∷ ls) needs above n m found held =
    let c = first_found (λ child. part_at child ls) (child_of l (children_of n)) m found in
    ap (option_and_then (λ child. part_at child ls)) (child_there needs above n l c.0 held.0 c.1)
    ∙ part_held ls needs (above ++ l ∷ []) c.0 m c.2 held.1
    ∙ ap (λ (name : List Label). Some (held_part needs name m)) (append_assoc above (l ∷ []) ls)

-- the node at a name of the part of a document
pub node_held : (needs : List Need) (document : Node) (ls : List Label) (m : Node) → node_at document (label_of document ∷ ls) ≡ Some m → AreHeld needs (label_of document ∷ []) ls
    → node_at (held_part needs (label_of document ∷ []) document) (label_of document ∷ ls) ≡ Some (held_part needs (label_of document ∷ ls) m)
node_held needs document ls m found held =
    let top = top_found document (label_eq (label_of document) (label_of document)) ls m found in
    ap (λ (b : Bool). cond b (part_at (held_part needs (label_of document ∷ []) document) ls) None) (ap (λ (l : Label). label_eq l (label_of document)) (held_label needs (label_of document ∷ []) document) ∙ labels_equiv.refl (label_of document))
    ∙ part_held ls needs (label_of document ∷ []) document m top.1 held

-- one name more
pub one_held : (ls : List Label) (needs : List Need) (above : List Label) (l : Label) → AreHeld needs above ls → IsSome (level_at needs (above ++ ls)) → AreHeld needs above (ls ++ l ∷ [])
one_held [] needs above l h k = (subst (λ (name : List Label). IsSome (level_at needs name)) (append-nil above) k, tt)
one_held (m ∷ ls) needs above l h k = (h.0, one_held ls needs (above ++ m ∷ []) l h.1 (subst (λ (name : List Label). IsSome (level_at needs name)) (sym (append_assoc above (m ∷ []) ls)) k))

-- ---- what the part of a node has

ids_labels : (needs : List Need) (name : List Label) (ns : Nodes) → map label_of (list_of (held_below needs name ns)) ≡ map label_of (list_of ns)
ids_labels needs name no_nodes = refl
ids_labels needs name (nodes n ns) = ap (λ (l : Label). l ∷ map label_of (list_of (held_below needs name ns))) (held_label needs (name ++ label_of n ∷ []) n) ∙ ap (λ (ls : List Label). label_of n ∷ ls) (ids_labels needs name ns)

-- the ids of the node, where there is a need for it
pub ids_held : (needs : List Need) (name : List Label) (n : Node) (level : Level) → level_at needs name ≡ Some level → ids_of (held_part needs name n) ≡ ids_of n
ids_held needs name (node l local below) level h = ap (λ (o : Option Level). map label_of (list_of (nodes_held o (held_below needs name below)))) h ∙ ids_labels needs name below

-- and its local information, where the need is for that too
pub local_kept : (needs : List Need) (name : List Label) (n : Node) → level_at needs name ≡ Some Full → local_of (held_part needs name n) ≡ local_of n
local_kept needs name (node l local below) h = ap (λ (o : Option Level). local_held o local) h
