-- The nodes of a document by their names, and documents with other local information at these.
use Rattle.std.proofs.Common.{◌≡◌, Bool, true, false, if◌then◌else◌, List, [], ◌∷◌, ◌++◌, map, All, Option, Some, None, option_map, option_and_then, refl, sym, ◌∙◌, ap, subst}
use Rattle.std.specs.declared.cmp.Ordering.TheVariants.{Less}
use Rattle.std.proofs.lemmas.List.Elements.{All-nil, All-cons, All-map, All-append, All-weaker}
use Rattle.iris_base.specs.declared.name.Label.{Label}
use Rattle.iris_base.specs.NameOrder.{label_eq, label_cmp, labels_equiv}
use Rattle.iris_base.proofs.Labels.{label_eq-Decides}
use Rattle.iris_tree.specs.declared.local.Local.{Local}
use Rattle.iris_tree.specs.Universe.{Node, node, Nodes, no_nodes, nodes, list_of, label_of, local_of, child_of, part_at, AllAfter, IsOrdered, AreOrdered}
use Rattle.iris_tree.specs.Document.{local_at, names_of, all_names_of, with_locals, all_with_locals}
use Rattle.iris_tree.proofs.WithLocals.{Locals}
use Rattle.iris_tree.proofs.Siblings.{greater, unequal_label}

-- ---- look-ups among siblings

-- what the node below these siblings' parent has, by the labels below
abbrev local_below : Label → Local → Nodes → List Label → Option Local
local_below label local ns name = option_map local_of (part_at (node label local ns) name)

-- a look-up in the first sibling is one among all
at_first : (label : Label) (local : Local) (n : Node) (ns : Nodes) (name : List Label) (old : Local) → local_at n name ≡ Some old → local_below label local (nodes n ns) name ≡ Some old
at_first label local n ns [] old h = absurd (cc)
at_first label local n ns (x ∷ name) old h = by (label_eq (label_of n) x) h
  where
    by : (b : Bool) → option_map local_of (if b then part_at n name else None) ≡ Some old → option_map local_of (option_and_then (λ child. part_at child name) (if b then Some n else child_of x (list_of ns))) ≡ Some old
    by true h = h
    by false h = absurd (cc)

-- no later sibling has the label of an earlier one
none_later : (y x : Label) (ns : Nodes) → label_eq y x ≡ true → AllAfter y ns → child_of x (list_of ns) ≡ None
none_later y x no_nodes same after = refl
none_later y x (nodes n ns) same after =
    let less : label_cmp x (label_of n) ≡ Less = subst (λ (z : Label). label_cmp z (label_of n) ≡ Less) ((label_eq-Decides y x).0 same) after.0 in
    rw (unequal_label (label_of n) x (greater x (label_of n) less)) (none_later y x ns same after.1)

-- a look-up among the later siblings is one among all
at_later : (label : Label) (local : Local) (n : Node) (ns : Nodes) (name : List Label) (old : Local) → AllAfter (label_of n) ns → local_below label local ns name ≡ Some old → local_below label local (nodes n ns) name ≡ Some old
at_later label local n ns [] old after h = h
at_later label local n ns (x ∷ name) old after h = by (label_eq (label_of n) x) refl
  where
    by : (b : Bool) → label_eq (label_of n) x ≡ b → option_map local_of (option_and_then (λ child. part_at child name) (if b then Some n else child_of x (list_of ns))) ≡ Some old
    by false other = h
    by true same =
        let none : None ≡ Some old = sym (ap (λ (o : Option Node). option_map local_of (option_and_then (λ child. part_at child name) o)) (none_later (label_of n) x ns same after)) ∙ h in
        absurd (cc)

-- a look-up below a node, by its label
at_top : (label : Label) (local : Local) (ns : Nodes) (name : List Label) (old : Local) → local_below label local ns name ≡ Some old → local_at (node label local ns) (label ∷ name) ≡ Some old
at_top label local ns name old h = rw (labels_equiv.refl label) h

-- ---- names

-- there is a node of that name
abbrev pub IsThere : Node → List Label → Type 0
IsThere n name = (old : Local) × (local_at n name ≡ Some old)

abbrev IsBelow : Label → Local → Nodes → List Label → Type 0
IsBelow label local ns name = (old : Local) × (local_below label local ns name ≡ Some old)

-- each name of a node is that of one
mutual
  pub names_there : (n : Node) → IsOrdered n → All (λ name. IsThere n name) (names_of n)
  names_there (node label local below) ordered =
      let self = node label local below in
      All-cons (λ name. IsThere self name) (label ∷ []) (map (λ name. label ∷ name) (all_names_of below)) (local, at_top label local below [] local refl)
      (All-map (λ name. IsThere self name) (λ name. label ∷ name) (all_names_of below)
      (All-weaker (λ name. IsBelow label local below name) (λ name. IsThere self (label ∷ name)) (λ name there. (there.0, at_top label local below name there.0 there.1)) (all_names_of below) (names_below label local below ordered)))

  names_below : (label : Label) (local : Local) (ns : Nodes) → AreOrdered ns → All (λ name. IsBelow label local ns name) (all_names_of ns)
  names_below label local no_nodes ordered = All-nil (λ name. IsBelow label local no_nodes name)
  names_below label local (nodes n ns) ordered =
      All-append (λ name. IsBelow label local (nodes n ns) name) (names_of n) (all_names_of ns)
      (All-weaker (λ name. IsThere n name) (λ name. IsBelow label local (nodes n ns) name) (λ name there. (there.0, at_first label local n ns name there.0 there.1)) (names_of n) (names_there n ordered.0))
      (All-weaker (λ name. IsBelow label local ns name) (λ name. IsBelow label local (nodes n ns) name) (λ name there. (there.0, at_later label local n ns name there.0 ordered.1 there.1)) (all_names_of ns) (names_below label local ns ordered.2))

-- other local information leaves the names
mutual
  pub names_kept : (n : Node) (f : Locals) → names_of (with_locals n f) ≡ names_of n
  names_kept (node label local below) f = ap (λ (names : List (List Label)). (label ∷ []) ∷ map (λ name. label ∷ name) names) (all_names_kept below (λ name. f (label ∷ name)))

  all_names_kept : (ns : Nodes) (f : Locals) → all_names_of (all_with_locals ns f) ≡ all_names_of ns
  all_names_kept no_nodes f = refl
  all_names_kept (nodes n ns) f = λ i. names_kept n f i ++ all_names_kept ns f i

-- ---- equal changes

-- changes that agree on the nodes that are there give one document
mutual
  pub locals_there : (n : Node) (f g : Locals) → IsOrdered n → ((name : List Label) (old : Local) → local_at n name ≡ Some old → f name old ≡ g name old) → with_locals n f ≡ with_locals n g
  locals_there (node label local below) f g ordered same =
      λ i. node label (same (label ∷ []) local (at_top label local below [] local refl) i)
      (locals_below label local below (λ name. f (label ∷ name)) (λ name. g (label ∷ name)) ordered (λ name old there. same (label ∷ name) old (at_top label local below name old there)) i)

  locals_below : (label : Label) (local : Local) (ns : Nodes) (f g : Locals) → AreOrdered ns → ((name : List Label) (old : Local) → local_below label local ns name ≡ Some old → f name old ≡ g name old) → all_with_locals ns f ≡ all_with_locals ns g
  locals_below label local no_nodes f g ordered same = refl
  locals_below label local (nodes n ns) f g ordered same =
      λ i. nodes (locals_there n f g ordered.0 (λ name old there. same name old (at_first label local n ns name old there)) i)
      (locals_below label local ns f g ordered.2 (λ name old there. same name old (at_later label local n ns name old ordered.1 there)) i)
