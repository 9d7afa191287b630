-- Documents with other local information: the nodes are the same, with the same ids.
use Rattle.std.proofs.Common.{◌≡◌, ◌≤◌, length, Bool, true, false, if◌then◌else◌, List, [], ◌∷◌, ◌++◌, map, All, Option, Some, None, option_map, option_and_then, refl, sym, ◌∙◌, ap, subst}
use Rattle.iris_base.specs.declared.limits.TheConstants.{MAX_LABELS}
use Rattle.iris_base.specs.declared.name.Label.{Label}
use Rattle.iris_base.specs.NameOrder.{label_eq, label_cmp, labels_equiv}
use Rattle.iris_base.proofs.Labels.{label_eq-Decides}
use Rattle.iris_tree.specs.declared.local.Local.{Local}
use Rattle.std.specs.declared.cmp.Ordering.TheVariants.{Less}
use Rattle.iris_tree.proofs.Siblings.{greater, unequal_label}
use Rattle.iris_tree.specs.Universe.{AllAfter, IsOrdered, AreOrdered, Node, node, Nodes, no_nodes, nodes, list_of, label_of, local_of, labels_of, ids_of, child_of, part_at}
use Rattle.iris_tree.specs.Document.{local_at, names_of, all_names_of, with_locals, all_with_locals}
use Rattle.iris_tree.proofs.WithLocals.{Locals, ordered_kept}
use Rattle.iris_fragment.specs.Shape.{ids_at}
use Rattle.iris_need.specs.Documents.{IsDocument}

-- ---- labels, ids and names stay

pub label_kept : (n : Node) (f : Locals) → label_of (with_locals n f) ≡ label_of n
label_kept (node label local below) f = refl

labels_kept : (ns : Nodes) (f : Locals) → labels_of (list_of (all_with_locals ns f)) ≡ labels_of (list_of ns)
labels_kept no_nodes f = refl
labels_kept (nodes n ns) f = λ i. label_kept n f i ∷ labels_kept ns f i

ids_kept : (n : Node) (f : Locals) → ids_of (with_locals n f) ≡ ids_of n
ids_kept (node label local below) f = labels_kept below (λ name. f (label ∷ name))

mutual
  names_kept : (n : Node) (f : Locals) → names_of (with_locals n f) ≡ names_of n
  names_kept (node label local below) f = ap (λ (names : List (List Label)). (label ∷ []) ∷ map (λ name. label ∷ name) names) (all_names_kept below (λ name. f (label ∷ name)))

  all_names_kept : (ns : Nodes) (f : Locals) → all_names_of (all_with_locals ns f) ≡ all_names_of ns
  all_names_kept no_nodes f = refl
  all_names_kept (nodes n ns) f = λ i. names_kept n f i ++ all_names_kept ns f i

pub document_kept : (n : Node) (f : Locals) → IsDocument n → IsDocument (with_locals n f)
document_kept n f is = (ordered_kept n f is.0, subst (λ (names : List (List Label)). All (λ name. length name ≤ MAX_LABELS) names) (sym (names_kept n f)) is.1)

-- ---- look-ups

child_kept : (ns : Nodes) (f : Locals) (x : Label) → child_of x (list_of (all_with_locals ns f)) ≡ option_map (λ n. with_locals n f) (child_of x (list_of ns))
child_kept no_nodes f x = refl
child_kept (nodes (node label local below) ns) f x = either (label_eq label x) (child_kept ns f x)
  where
    either : (b : Bool) → child_of x (list_of (all_with_locals ns f)) ≡ option_map (λ n. with_locals n f) (child_of x (list_of ns)) → (if b then Some (with_locals (node label local below) f) else child_of x (list_of (all_with_locals ns f))) ≡ option_map (λ n. with_locals n f) (if b then Some (node label local below) else child_of x (list_of ns))
    either true rest = refl
    either false rest = rest

-- what is found below a label has it
child_label : (ns : List Node) (x : Label) (n : Node) → child_of x ns ≡ Some n → label_of n ≡ x
child_label [] x n h = absurd (cc)
child_label (m ∷ ns) x n h = by (label_eq (label_of m) x) refl h (child_label ns x n)
  where
    by : (b : Bool) → label_eq (label_of m) x ≡ b → (if b then Some m else child_of x ns) ≡ Some n → (child_of x ns ≡ Some n → label_of n ≡ x) → label_of n ≡ x
    by true same h rest =
        let is : m ≡ n = cc in
        subst (λ (k : Node). label_of k ≡ x) is ((label_eq-Decides (label_of m) x).0 same)
    by false other h rest = rest h

local_below : (n : Node) (ls : List Label) (f : Locals) → option_map local_of (part_at (with_locals n f) ls) ≡ option_map (f (label_of n ∷ ls)) (option_map local_of (part_at n ls))
local_below (node label local below) [] f = refl
local_below (node label local below) (x ∷ ls) f =
    ap (λ (o : Option Node). option_map local_of (option_and_then (λ child. part_at child ls) o)) (child_kept below (λ name. f (label ∷ name)) x)
    ∙ by (child_of x (list_of below)) refl (λ child. local_below child ls (λ name. f (label ∷ name)))
  where
    by : (o : Option Node) → child_of x (list_of below) ≡ o
        → ((child : Node) → option_map local_of (part_at (with_locals child (λ name. f (label ∷ name))) ls) ≡ option_map (f (label ∷ label_of child ∷ ls)) (option_map local_of (part_at child ls)))
        → option_map local_of (option_and_then (λ child. part_at child ls) (option_map (λ n. with_locals n (λ name. f (label ∷ name))) o)) ≡ option_map (f (label ∷ x ∷ ls)) (option_map local_of (option_and_then (λ child. part_at child ls) o))
    by None found rest = refl
    by (Some child) found rest =
        rest child
        ∙ ap (λ (l : Label). option_map (f (label ∷ l ∷ ls)) (option_map local_of (part_at child ls))) (child_label (list_of below) x child found)

ids_below : (n : Node) (ls : List Label) (f : Locals) → option_map ids_of (part_at (with_locals n f) ls) ≡ option_map ids_of (part_at n ls)
ids_below n [] f = ap (λ (ids : List Label). Some ids) (ids_kept n f)
ids_below (node label local below) (x ∷ ls) f =
    ap (λ (o : Option Node). option_map ids_of (option_and_then (λ child. part_at child ls) o)) (child_kept below (λ name. f (label ∷ name)) x)
    ∙ by (child_of x (list_of below)) (λ child. ids_below child ls (λ name. f (label ∷ name)))
  where
    by : (o : Option Node) → ((child : Node) → option_map ids_of (part_at (with_locals child (λ name. f (label ∷ name))) ls) ≡ option_map ids_of (part_at child ls)) → option_map ids_of (option_and_then (λ child. part_at child ls) (option_map (λ n. with_locals n (λ name. f (label ∷ name))) o)) ≡ option_map ids_of (option_and_then (λ child. part_at child ls) o)
    by None rest = refl
    by (Some child) rest = rest child

-- at each name the local information is what the change gives for it
pub local_then : (n : Node) (f : Locals) (name : List Label) → local_at (with_locals n f) name ≡ option_map (f name) (local_at n name)
local_then n f [] = refl
local_then n f (x ∷ ls) = by (label_eq (label_of n) x) refl
  where
    by : (b : Bool) → label_eq (label_of n) x ≡ b → local_at (with_locals n f) (x ∷ ls) ≡ option_map (f (x ∷ ls)) (option_map local_of (if b then part_at n ls else None))
    by true same =
        ap (λ (l : Label). option_map local_of (if label_eq l x then part_at (with_locals n f) ls else None)) (label_kept n f)
        ∙ ap (λ (b : Bool). option_map local_of (if b then part_at (with_locals n f) ls else None)) same
        ∙ local_below n ls f ∙ ap (λ (l : Label). option_map (f (l ∷ ls)) (option_map local_of (part_at n ls))) ((label_eq-Decides (label_of n) x).0 same)
    by false other =
        ap (λ (l : Label). option_map local_of (if label_eq l x then part_at (with_locals n f) ls else None)) (label_kept n f)
        ∙ ap (λ (b : Bool). option_map local_of (if b then part_at (with_locals n f) ls else None)) other

-- and the ids are as they were
pub ids_then : (n : Node) (f : Locals) (name : List Label) → ids_at (with_locals n f) name ≡ ids_at n name
ids_then n f [] = refl
ids_then n f (x ∷ ls) =
    ap (λ (l : Label). option_map ids_of (if label_eq l x then part_at (with_locals n f) ls else None)) (label_kept n f)
    ∙ by (label_eq (label_of n) x)
  where
    by : (b : Bool) → option_map ids_of (if b then part_at (with_locals n f) ls else None) ≡ option_map ids_of (if b then part_at n ls else None)
    by true = ids_below n ls f
    by false = refl

-- ---- look-ups among siblings

-- what the node below these siblings' parent has, by the labels below
abbrev local_among : Label → Local → Nodes → List Label → Option Local
local_among label local ns name = option_map local_of (part_at (node label local ns) name)

-- a look-up in the first sibling is one among all
at_first : (label : Label) (local : Local) (n : Node) (ns : Nodes) (name : List Label) (old : Local) → local_at n name ≡ Some old → local_among label local (nodes n ns) name ≡ Some old
at_first label local n ns [] old h = absurd (cc)
at_first label local n ns (x ∷ name) old h = by (label_eq (label_of n) x) h
  where
    by : (b : Bool) → option_map local_of (if b then part_at n name else None) ≡ Some old → option_map local_of (option_and_then (λ child. part_at child name) (if b then Some n else child_of x (list_of ns))) ≡ Some old
    by true h = h
    by false h = absurd (cc)

-- no later sibling has the label of an earlier one
none_later : (y x : Label) (ns : Nodes) → label_eq y x ≡ true → AllAfter y ns → child_of x (list_of ns) ≡ None
none_later y x no_nodes same after = refl
none_later y x (nodes n ns) same after =
    let less : label_cmp x (label_of n) ≡ Less = subst (λ (z : Label). label_cmp z (label_of n) ≡ Less) ((label_eq-Decides y x).0 same) after.0 in
    rw (unequal_label (label_of n) x (greater x (label_of n) less)) (none_later y x ns same after.1)

-- a look-up among the later siblings is one among all
at_later : (label : Label) (local : Local) (n : Node) (ns : Nodes) (name : List Label) (old : Local) → AllAfter (label_of n) ns → local_among label local ns name ≡ Some old → local_among label local (nodes n ns) name ≡ Some old
at_later label local n ns [] old after h = h
at_later label local n ns (x ∷ name) old after h = by (label_eq (label_of n) x) refl
  where
    by : (b : Bool) → label_eq (label_of n) x ≡ b → option_map local_of (option_and_then (λ child. part_at child name) (if b then Some n else child_of x (list_of ns))) ≡ Some old
    by false other = h
    by true same =
        let none : None ≡ Some old = sym (ap (λ (o : Option Node). option_map local_of (option_and_then (λ child. part_at child name) o)) (none_later (label_of n) x ns same after)) ∙ h in
        absurd (cc)

-- a look-up below a node, by its label
at_top : (label : Label) (local : Local) (ns : Nodes) (name : List Label) (old : Local) → local_among label local ns name ≡ Some old → local_at (node label local ns) (label ∷ name) ≡ Some old
at_top label local ns name old h = rw (labels_equiv.refl label) h

-- ---- equal changes

-- changes that agree on the nodes that are there give one document
mutual
  pub locals_there : (n : Node) (f g : Locals) → IsOrdered n → ((name : List Label) (old : Local) → local_at n name ≡ Some old → f name old ≡ g name old) → with_locals n f ≡ with_locals n g
  locals_there (node label local below) f g ordered same =
      λ i. node label (same (label ∷ []) local (at_top label local below [] local refl) i)
      (locals_below label local below (λ name. f (label ∷ name)) (λ name. g (label ∷ name)) ordered (λ name old there. same (label ∷ name) old (at_top label local below name old there)) i)

  locals_below : (label : Label) (local : Local) (ns : Nodes) (f g : Locals) → AreOrdered ns → ((name : List Label) (old : Local) → local_among label local ns name ≡ Some old → f name old ≡ g name old) → all_with_locals ns f ≡ all_with_locals ns g
  locals_below label local no_nodes f g ordered same = refl
  locals_below label local (nodes n ns) f g ordered same =
      λ i. nodes (locals_there n f g ordered.0 (λ name old there. same name old (at_first label local n ns name old there)) i)
      (locals_below label local ns f g ordered.2 (λ name old there. same name old (at_later label local n ns name old ordered.1 there)) i)
