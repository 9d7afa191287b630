-- Documents with other local information.
use Rattle.std.proofs.Common.{◌≡◌, ℕ, zero, suc, ◌<◌, Bool, true, false, if◌then◌else◌, List, [], ◌∷◌, length, get_or, set, Option, Some, None, option_and_then, is_some, refl, sym, ◌∙◌, ap, subst, arith}
use Rattle.std.specs.declared.cmp.Ordering.TheVariants.{Less}
use Rattle.iris_base.specs.declared.name.Label.{Label}
use Rattle.iris_base.specs.NameOrder.{label_eq, label_cmp}
use Rattle.iris_base.proofs.Labels.{label_eq-Decides}
use Rattle.iris_tree.specs.declared.local.Local.{Local}
use Rattle.iris_tree.specs.Universe.{Node, node, Nodes, no_nodes, nodes, nodes_of, list_of, label_of, child_of, part_at, AllAfter, IsOrdered, AreOrdered}
use Rattle.iris_tree.specs.Document.{with_locals, all_with_locals, local_put, with_local}
use Rattle.iris_tree.specs.LocalPut.{put_below}
use Rattle.iris_tree.proofs.Siblings.{list_of-nodes_of, not_equal, greater, unequal_label}

-- what a node's local information becomes, by its name and what was there
abbrev pub Locals : Type 0
Locals = List Label → Local → Local

-- ---- what changes nothing

mutual
  -- a change that keeps the local information at each name keeps the node
  pub locals_kept : (n : Node) (f : Locals) → ((l : Label) (m : List Label) (old : Local) → f (l ∷ m) old ≡ old) → with_locals n f ≡ n
  locals_kept (node label local below) f same =
      (λ i. node label (same label [] local i) (all_with_locals below (λ name. f (label ∷ name))))
      ∙ ap (node label local) (all_locals_kept below (λ name. f (label ∷ name)) (λ l m old. same label (l ∷ m) old))

  -- the same of siblings
  pub all_locals_kept : (ns : Nodes) (f : Locals) → ((l : Label) (m : List Label) (old : Local) → f (l ∷ m) old ≡ old) → all_with_locals ns f ≡ ns
  all_locals_kept no_nodes f same = refl
  all_locals_kept (nodes n ns) f same = λ i. nodes (locals_kept n f same i) (all_locals_kept ns f same i)

-- ---- equal changes, and one after another

mutual
  -- two changes that do the same at each name have the same result
  pub locals_same : (n : Node) (f g : Locals) → ((m : List Label) (old : Local) → f m old ≡ g m old) → with_locals n f ≡ with_locals n g
  locals_same (node label local below) f g same =
      λ i. node label (same (label ∷ []) local i) (all_locals_same below (λ name. f (label ∷ name)) (λ name. g (label ∷ name)) (λ m old. same (label ∷ m) old) i)

  -- the same of siblings
  pub all_locals_same : (ns : Nodes) (f g : Locals) → ((m : List Label) (old : Local) → f m old ≡ g m old) → all_with_locals ns f ≡ all_with_locals ns g
  all_locals_same no_nodes f g same = refl
  all_locals_same (nodes n ns) f g same = λ i. nodes (locals_same n f g same i) (all_locals_same ns f g same i)

mutual
  -- one change after another is one change
  pub locals_then : (n : Node) (f g : Locals) → with_locals (with_locals n f) g ≡ with_locals n (λ m old. g m (f m old))
  locals_then (node label local below) f g = ap (node label (g (label ∷ []) (f (label ∷ []) local))) (all_locals_then below (λ name. f (label ∷ name)) (λ name. g (label ∷ name)))

  -- the same of siblings
  pub all_locals_then : (ns : Nodes) (f g : Locals) → all_with_locals (all_with_locals ns f) g ≡ all_with_locals ns (λ m old. g m (f m old))
  all_locals_then no_nodes f g = refl
  all_locals_then (nodes n ns) f g = λ i. nodes (locals_then n f g i) (all_locals_then ns f g i)

-- ---- the order of siblings stays

label_kept : (n : Node) (f : Locals) → label_of (with_locals n f) ≡ label_of n
label_kept (node label local below) f = refl

all_after_kept : (x : Label) (ns : Nodes) (f : Locals) → AllAfter x ns → AllAfter x (all_with_locals ns f)
all_after_kept x no_nodes f h = tt
all_after_kept x (nodes (node label local below) ns) f h = (h.0, all_after_kept x ns f h.1)

mutual
  -- siblings stay in order
  pub ordered_kept : (n : Node) (f : Locals) → IsOrdered n → IsOrdered (with_locals n f)
  ordered_kept (node label local below) f h = all_ordered_kept below (λ name. f (label ∷ name)) h

  -- the same of siblings
  pub all_ordered_kept : (ns : Nodes) (f : Locals) → AreOrdered ns → AreOrdered (all_with_locals ns f)
  all_ordered_kept no_nodes f h = tt
  all_ordered_kept (nodes (node label local below) ns) f h =
      (all_ordered_kept below (λ name. f (label ∷ name)) h.0, all_after_kept label ns f h.1, all_ordered_kept ns f h.2)

-- ---- one value put

put_here : (l x : Label) (path : List Label) (new : Local) → label_eq l x ≡ true → (m : List Label) (old : Local) → local_put (x ∷ path) new (l ∷ m) old ≡ local_put path new m old
put_here l x path new same m old = rw same refl

put_elsewhere : (l x : Label) (path : List Label) (new : Local) → label_eq l x ≡ false → (m : List Label) (old : Local) → local_put (x ∷ path) new (l ∷ m) old ≡ old
put_elsewhere l x path new other m old = rw other refl

-- a node with that label, as its part by the labels below
pub put_at_top : (n : Node) (x : Label) (path : List Label) (new : Local) → label_eq (label_of n) x ≡ true → with_local n (x ∷ path) new ≡ put_below n path new
put_at_top (node label local below) x path new same =
    λ i. node label (put_here label x path new same [] local i)
    (all_locals_same below (λ m. local_put (x ∷ path) new (label ∷ m)) (local_put path new) (put_here label x path new same) i)

-- nothing is put into a node with another label
pub not_put : (n : Node) (x : Label) (path : List Label) (new : Local) → label_eq (label_of n) x ≡ false → with_local n (x ∷ path) new ≡ n
not_put (node label local below) x path new other =
    λ i. node label (put_elsewhere label x path new other [] local i)
    (all_locals_kept below (λ m. local_put (x ∷ path) new (label ∷ m)) (λ l m old. put_elsewhere label x path new other (l ∷ m) old) i)

-- ---- among siblings

not_equal_after : (y x l : Label) → label_cmp y l ≡ Less → label_eq y x ≡ true → label_eq l x ≡ false
not_equal_after y x l before same =
    let is : y ≡ x = (label_eq-Decides y x).0 same in
    let less : label_cmp x l ≡ Less = subst (λ (z : Label). label_cmp z l ≡ Less) is before in
    unequal_label l x (greater x l less)

none_put_after : (y x : Label) (path : List Label) (new : Local) (ns : List Node) → label_eq y x ≡ true → AllAfter y (nodes_of ns) → all_with_locals (nodes_of ns) (local_put (x ∷ path) new) ≡ nodes_of ns
none_put_after y x path new [] same after = refl
none_put_after y x path new (n ∷ ns) same after =
    λ i. nodes (not_put n x path new (not_equal_after y x (label_of n) after.0 same) i) (none_put_after y x path new ns same after.1 i)

after_at : (y : Label) (ns : List Node) (at : ℕ) (d : Node) → AllAfter y (nodes_of ns) → at < length ns → label_cmp y (label_of (get_or ns at d)) ≡ Less
after_at y [] at d after within = absurd (omega arith)
after_at y (n ∷ ns) zero d after within = after.0
after_at y (n ∷ ns) (suc at) d after within = after_at y ns at d after.1 (omega arith)

not_equal_before : (y x l : Label) → label_cmp y l ≡ Less → label_eq l x ≡ true → label_eq y x ≡ false
not_equal_before y x l before same =
    let is : l ≡ x = (label_eq-Decides l x).0 same in
    not_equal y x (subst (λ (z : Label). label_cmp y z ≡ Less) is before)

-- among siblings in order, it is put into the one with that label alone
pub put_among : (ns : List Node) (x : Label) (path : List Label) (new : Local) (at : ℕ) (d : Node) → AreOrdered (nodes_of ns) → at < length ns → label_eq (label_of (get_or ns at d)) x ≡ true
    → all_with_locals (nodes_of ns) (local_put (x ∷ path) new) ≡ nodes_of (set ns at (put_below (get_or ns at d) path new))
put_among [] x path new at d sorted within same = absurd (omega arith)
put_among (n ∷ ns) x path new zero d sorted within same =
    λ i. nodes (put_at_top n x path new same i) (none_put_after (label_of n) x path new ns same sorted.1 i)
put_among (n ∷ ns) x path new (suc at) d sorted within same =
    let other : label_eq (label_of n) x ≡ false = not_equal_before (label_of n) x (label_of (get_or ns at d)) (after_at (label_of n) ns at d sorted.1 (omega arith)) same in
    λ i. nodes (not_put n x path new other i) (put_among ns x path new at d sorted.2 (omega arith) same i)

-- nothing is put where no sibling has that label
pub none_put : (ns : List Node) (x : Label) (path : List Label) (new : Local) → child_of x ns ≡ None → all_with_locals (nodes_of ns) (local_put (x ∷ path) new) ≡ nodes_of ns
none_put [] x path new none = refl
none_put (n ∷ ns) x path new none = by (label_eq (label_of n) x) refl none (none_put ns x path new)
  where
    by : (b : Bool) → label_eq (label_of n) x ≡ b → (if b then Some n else child_of x ns) ≡ None → (child_of x ns ≡ None → all_with_locals (nodes_of ns) (local_put (x ∷ path) new) ≡ nodes_of ns)
        → all_with_locals (nodes_of (n ∷ ns)) (local_put (x ∷ path) new) ≡ nodes_of (n ∷ ns)
    by true same h rest = absurd (cc)
    by false other h rest = λ i. nodes (not_put n x path new other i) (rest h i)

child_label : (ns : List Node) (x : Label) (n : Node) → child_of x ns ≡ Some n → label_eq (label_of n) x ≡ true
child_label [] x n h = absurd (cc)
child_label (m ∷ ns) x n h = by (label_eq (label_of m) x) refl h (child_label ns x n)
  where
    by : (b : Bool) → label_eq (label_of m) x ≡ b → (if b then Some m else child_of x ns) ≡ Some n → (child_of x ns ≡ Some n → label_eq (label_of n) x ≡ true) → label_eq (label_of n) x ≡ true
    by true same h rest =
        let is : m ≡ n = cc in
        subst (λ (k : Node). label_eq (label_of k) x ≡ true) is same
    by false other h rest = rest h

-- ---- as the code has them

-- put at the node itself
pub put_view_here : (label : Label) (old new : Local) (items : List Node) (self : Node) (below : List Label) → node label old (nodes_of items) ≡ self → below ≡ [] → node label new (nodes_of items) ≡ put_below self below new
put_view_here label old new items self below view none =
    sym (ap (node label new) (all_locals_kept (nodes_of items) (local_put [] new) (λ l m local. refl)))
    ∙ ap (λ (n : Node). put_below n [] new) view ∙ ap (λ (path : List Label). put_below self path new) (sym none)

-- no part is below a label that no child has
pub no_part : (self : Node) (siblings items : List Node) (label : Label) (local : Local) (x : Label) (rest below : List Label) → node label local (nodes_of items) ≡ self → siblings ≡ items → below ≡ x ∷ rest → child_of x siblings ≡ None
    → false ≡ is_some (part_at self below)
no_part self siblings items label local x rest below view same is none =
    let gone : child_of x (list_of (nodes_of items)) ≡ None = ap (child_of x) (list_of-nodes_of items ∙ sym same) ∙ none in
    sym (ap (λ (o : Option Node). is_some (option_and_then (λ child. part_at child rest) o)) gone)
    ∙ ap (λ (n : Node). is_some (part_at n (x ∷ rest))) view ∙ ap (λ (path : List Label). is_some (part_at self path)) (sym is)

-- nothing is put there
pub no_put : (self : Node) (siblings items : List Node) (label : Label) (local new : Local) (x : Label) (rest below : List Label) → node label local (nodes_of items) ≡ self → siblings ≡ items → below ≡ x ∷ rest → child_of x siblings ≡ None
    → self ≡ put_below self below new
no_put self siblings items label local new x rest below view same is none =
    let gone : child_of x items ≡ None = ap (child_of x) (sym same) ∙ none in
    sym view ∙ sym (ap (node label local) (none_put items x rest new gone))
    ∙ ap (λ (n : Node). put_below n (x ∷ rest) new) view ∙ ap (λ (path : List Label). put_below self path new) (sym is)

-- the child at that place, once the local information is put at its part
pub put_child : (siblings items : List Node) (x : Label) (rest : List Label) (new : Local) (at : ℕ) (child after : Node) → AreOrdered (nodes_of items) → siblings ≡ items → at < length siblings
    → ((d : Node) → child_of x siblings ≡ Some (get_or siblings at d)) → child ≡ get_or items at child → after ≡ put_below child rest new
    → nodes_of (set items at after) ≡ all_with_locals (nodes_of items) (local_put (x ∷ rest) new)
put_child siblings items x rest new at child after sorted same within found is put =
    let inside : at < length items = subst (λ (ns : List Node). at < length ns) same within in
    let here : child_of x items ≡ Some (get_or items at child) = ap (child_of x) (sym same) ∙ found child ∙ ap (λ (ns : List Node). Some (get_or ns at child)) same in
    ap (λ (n : Node). nodes_of (set items at n)) (put ∙ ap (λ (n : Node). put_below n rest new) is)
    ∙ sym (put_among items x rest new at child sorted inside (child_label items x (get_or items at child) here))

-- a part below a child that was found is a part of the node
pub part_found : (self : Node) (siblings items : List Node) (label : Label) (local : Local) (x : Label) (rest below : List Label) (at : ℕ) (child : Node) (b : Bool) → node label local (nodes_of items) ≡ self → siblings ≡ items → below ≡ x ∷ rest
    → ((d : Node) → child_of x siblings ≡ Some (get_or siblings at d)) → child ≡ get_or items at child → b ≡ is_some (part_at child rest) → b ≡ is_some (part_at self below)
part_found self siblings items label local x rest below at child b view same path found is result =
    let here : child_of x (list_of (nodes_of items)) ≡ Some child = ap (child_of x) (list_of-nodes_of items ∙ sym same) ∙ found child ∙ ap (λ (ns : List Node). Some (get_or ns at child)) same ∙ ap (λ (n : Node). Some n) (sym is) in
    result ∙ sym (ap (λ (o : Option Node). is_some (option_and_then (λ c. part_at c rest) o)) here)
    ∙ ap (λ (n : Node). is_some (part_at n (x ∷ rest))) view ∙ ap (λ (p : List Label). is_some (part_at self p)) (sym path)

-- put below one of the children
pub put_view_below : (self : Node) (items after : List Node) (label : Label) (local new : Local) (x : Label) (rest below : List Label) → node label local (nodes_of items) ≡ self → below ≡ x ∷ rest
    → nodes_of after ≡ all_with_locals (nodes_of items) (local_put (x ∷ rest) new) → node label local (nodes_of after) ≡ put_below self below new
put_view_below self items after label local new x rest below view path put =
    ap (node label local) put ∙ ap (λ (n : Node). put_below n (x ∷ rest) new) view ∙ ap (λ (p : List Label). put_below self p new) (sym path)
