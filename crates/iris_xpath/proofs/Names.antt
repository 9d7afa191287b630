-- The names of a document rise, and they are those at which its nodes stand.
use Rattle.std.proofs.Common.{◌≡◌, Bool, true, false, cond, ◌&&◌, ◌||◌, List, [], ◌∷◌, ◌++◌, map, refl, ap, sym, ◌∙◌, subst, append-nil, Some, None, is_some, option_and_then}
use Rattle.std.specs.List.{AllByRecursion, list_any}
use Rattle.std.specs.List.Sorted.{IsStrictlySortedBy}
use Rattle.std.specs.Cmp.Lexicographic.{slice_cmp, pointwise}
use Rattle.std.specs.Ordering.{ordering_then, is_eq}
use Rattle.std.specs.declared.cmp.Ordering.{Ordering}
use Rattle.std.specs.declared.cmp.Ordering.TheVariants.{Less, Equal}
use Rattle.std.proofs.lemmas.List.Folds.{list_any-append}
use Rattle.iris_base.specs.declared.name.Label.{Label}
use Rattle.iris_base.specs.NameOrder.{label_eq, label_cmp, labels_total, labels_equiv, labels_ties}
use Rattle.iris_base.proofs.Labels.{label_eq-Decides}
use Rattle.iris_tree.specs.Universe.{Node, node, Nodes, no_nodes, nodes, list_of, label_of, child_of, part_at, node_at, AllAfter, IsOrdered, AreOrdered}
use Rattle.iris_tree.specs.Document.{names_of, all_names_of}
use Rattle.iris_xpath.proofs.PlaceOrder.{equal_itself}
use Rattle.iris_xpath.proofs.Passes.{any_map, any_and, any_fails, or_false}

-- names in order, each once
abbrev pub Rise : List (List Label) → Type 0
Rise ns = IsStrictlySortedBy (slice_cmp label_cmp) ns

-- ---- in order

label_itself : (l : Label) → label_cmp l l ≡ Equal
label_itself l = equal_itself (label_cmp l l) (labels_total.antisymm l l)

abbrev BeginsAfter : Label → List Label → Type 0
BeginsAfter l [] = ⊥
BeginsAfter l (m ∷ name) = label_cmp l m ≡ Less

abbrev HasLabel : List Label → Type 0
HasLabel [] = ⊥
HasLabel (l ∷ name) = Unit {0}

all_append : (P : List Label → Type 0) (ms ns : List (List Label)) → AllByRecursion P ms → AllByRecursion P ns → AllByRecursion P (ms ++ ns)
all_append P [] ns h k = k
all_append P (m ∷ ms) ns h k = (h.0, all_append P ms ns h.1 k)

under_label : (l : Label) (ns : List (List Label)) → AllByRecursion HasLabel (map (λ n. l ∷ n) ns)
under_label l [] = tt
under_label l (n ∷ ns) = (tt, under_label l ns)

under_after : (l m : Label) (ns : List (List Label)) → label_cmp l m ≡ Less → AllByRecursion (BeginsAfter l) (map (λ n. m ∷ n) ns)
under_after l m [] h = tt
under_after l m (n ∷ ns) h = (h, under_after l m ns h)

less_under : (l : Label) (n : List Label) (ms : List (List Label)) → AllByRecursion (λ m. slice_cmp label_cmp n m ≡ Less) ms → AllByRecursion (λ m. slice_cmp label_cmp (l ∷ n) m ≡ Less) (map (λ m. l ∷ m) ms)
less_under l n [] h = tt
less_under l n (m ∷ ms) h = (ap (λ (o : Ordering). ordering_then o (slice_cmp label_cmp n m)) (label_itself l) ∙ h.0, less_under l n ms h.1)

less_after : (l : Label) (n m : List Label) → BeginsAfter l m → slice_cmp label_cmp (l ∷ n) m ≡ Less
less_after l n [] h = absurd h
less_after l n (k ∷ m) h = rw h refl

all_less_after : (l : Label) (n : List Label) (ms : List (List Label)) → AllByRecursion (BeginsAfter l) ms → AllByRecursion (λ m. slice_cmp label_cmp (l ∷ n) m ≡ Less) ms
all_less_after l n [] h = tt
all_less_after l n (m ∷ ms) h = (less_after l n m h.0, all_less_after l n ms h.1)

rise_append : (l : Label) (ms ns : List (List Label)) → Rise ms → Rise ns → AllByRecursion (BeginsAfter l) ns → Rise (map (λ m. l ∷ m) ms ++ ns)
unfolding IsStrictlySortedBy
rise_append l [] ns h k after = k
rise_append l (m ∷ ms) ns h k after =
    (all_append (λ n. slice_cmp label_cmp (l ∷ m) n ≡ Less) (map (λ n. l ∷ n) ms) ns (less_under l m ms h.0) (all_less_after l m ns after), rise_append l ms ns h.1 k after)

first_of : (ns : List (List Label)) → AllByRecursion HasLabel ns → AllByRecursion (λ n. slice_cmp label_cmp [] n ≡ Less) ns
first_of [] h = tt
first_of ([] ∷ ns) h = absurd h.0
first_of ((l ∷ n) ∷ ns) h = (refl, first_of ns h.1)

-- the names at or below a node, from the node on
abbrev names_below : Nodes → List (List Label)
names_below ns = [] ∷ all_names_of ns

abbrev names_under : Node → List (List Label)
names_under (node l local below) = names_below below

nodes_have_labels : (ns : Nodes) → AllByRecursion HasLabel (all_names_of ns)
nodes_have_labels no_nodes = tt
nodes_have_labels (nodes (node l local below) ns) = all_append HasLabel (map (λ name. l ∷ name) (names_below below)) (all_names_of ns) (under_label l (names_below below)) (nodes_have_labels ns)

nodes_after : (l : Label) (ns : Nodes) → AllAfter l ns → AllByRecursion (BeginsAfter l) (all_names_of ns)
nodes_after l no_nodes h = tt
nodes_after l (nodes (node m local below) ns) h = all_append (BeginsAfter l) (map (λ name. m ∷ name) (names_below below)) (all_names_of ns) (under_after l m (names_below below) h.0) (nodes_after l ns h.1)

rise_first : (ns : Nodes) → Rise (all_names_of ns) → Rise (names_below ns)
unfolding IsStrictlySortedBy
rise_first ns h = (first_of (all_names_of ns) (nodes_have_labels ns), h)

nothing_rises : Rise []
unfolding IsStrictlySortedBy
nothing_rises = tt

mutual
  below_rise : (n : Node) (more : List (List Label)) → IsOrdered n → Rise more → AllByRecursion (BeginsAfter (label_of n)) more → Rise (names_of n ++ more)
  below_rise (node l local below) more h k after = rise_append l (names_below below) more (rise_first below (nodes_rise below h)) k after

  nodes_rise : (ns : Nodes) → AreOrdered ns → Rise (all_names_of ns)
  nodes_rise no_nodes h = nothing_rises
  nodes_rise (nodes n ns) h = below_rise n (all_names_of ns) h.0 (nodes_rise ns h.2) (nodes_after (label_of n) ns h.1)

-- the names of a document rise
pub names_rise : (document : Node) → IsOrdered document → Rise (names_of document)
names_rise document h = subst (λ (ns : List (List Label)). Rise ns) (append-nil (names_of document)) (below_rise document [] h nothing_rises tt)

-- ---- the names at which nodes stand

-- whether a list has a name
abbrev pub has_name : List (List Label) → List Label → Bool
has_name names name = list_any (λ other. pointwise label_eq other name) names

-- below greater labels there is none
none_later : (l k : Label) (name : List Label) (ns : Nodes) → l ≡ k → AllAfter l ns → has_name (all_names_of ns) (k ∷ name) ≡ false
none_later l k name no_nodes e h = refl
none_later l k name (nodes (node m local below) ns) e h =
    list_any-append (λ other. pointwise label_eq other (k ∷ name)) (map (λ n. m ∷ n) (names_below below)) (all_names_of ns)
    ∙ ap (λ b. b || has_name (all_names_of ns) (k ∷ name))
    (any_map (λ other. pointwise label_eq other (k ∷ name)) (λ n. m ∷ n) (names_below below)
    ∙ any_and (label_eq m k) (λ n. pointwise label_eq n name) (names_below below)
    ∙ ap (λ b. b && has_name (names_below below) name) (labels_equiv.symm m k ∙ ap (λ (x : Label). label_eq x m) (sym e) ∙ labels_ties l m ∙ ap is_eq h.0))
    ∙ none_later l k name ns e h.1

this_or_later : (n : Node) (ns : Nodes) (k : Label) (name : List Label) (b : Bool) → label_eq (label_of n) k ≡ b → AllAfter (label_of n) ns
    → has_name (all_names_of ns) (k ∷ name) ≡ is_some (option_and_then (λ c. part_at c name) (child_of k (list_of ns)))
    → ((b && is_some (part_at n name)) || has_name (all_names_of ns) (k ∷ name)) ≡ is_some (option_and_then (λ c. part_at c name) (cond b (Some n) (child_of k (list_of ns))))
this_or_later n ns k name true e after later =
    ap (λ b. is_some (part_at n name) || b) (none_later (label_of n) k name ns ((label_eq-Decides (label_of n) k).0 e) after) ∙ or_false (is_some (part_at n name))
this_or_later n ns k name false e after later = later

mutual
  has_below : (n : Node) (name : List Label) → IsOrdered n → has_name (names_under n) name ≡ is_some (part_at n name)
  has_below (node l local below) [] h = refl
  has_below (node l local below) (k ∷ name) h = has_child below k name h

  has_child : (ns : Nodes) (k : Label) (name : List Label) → AreOrdered ns → has_name (all_names_of ns) (k ∷ name) ≡ is_some (option_and_then (λ c. part_at c name) (child_of k (list_of ns)))
  has_child no_nodes k name h = refl
  has_child (nodes (node l local below) ns) k name h =
      list_any-append (λ other. pointwise label_eq other (k ∷ name)) (map (λ n. l ∷ n) (names_below below)) (all_names_of ns)
      ∙ ap (λ b. b || has_name (all_names_of ns) (k ∷ name))
      (any_map (λ other. pointwise label_eq other (k ∷ name)) (λ n. l ∷ n) (names_below below)
      ∙ any_and (label_eq l k) (λ n. pointwise label_eq n name) (names_below below)
      ∙ ap (λ b. label_eq l k && b) (has_below (node l local below) name h.0))
      ∙ this_or_later (node l local below) ns k name (label_eq l k) refl h.1 (has_child ns k name h.2)

top_or_none : (n : Node) (name : List Label) (b : Bool) → (b && is_some (part_at n name)) ≡ is_some (cond b (part_at n name) None)
top_or_none n name true = refl
top_or_none n name false = refl

-- a document has the names at which its nodes stand
pub names_are : (document : Node) (name : List Label) → IsOrdered document → has_name (names_of document) name ≡ is_some (node_at document name)
names_are (node l local below) [] h = any_map (λ other. pointwise label_eq other []) (λ n. l ∷ n) (names_below below) ∙ any_fails _ (λ n. refl) (names_below below)
names_are (node l local below) (k ∷ name) h =
    any_map (λ other. pointwise label_eq other (k ∷ name)) (λ n. l ∷ n) (names_below below)
    ∙ any_and (label_eq l k) (λ n. pointwise label_eq n name) (names_below below)
    ∙ ap (λ b. label_eq l k && b) (has_below (node l local below) name h)
    ∙ top_or_none (node l local below) name (label_eq l k)
