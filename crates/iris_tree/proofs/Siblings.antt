-- Siblings in the order of their labels: where a search ends among them, one more of them, and a list put into this order.
use Rattle.std.proofs.Common.{◌≡◌, ℕ, zero, suc, ◌<◌, ◌≤◌, Bool, true, false, if◌then◌else◌, List, [], ◌∷◌, length, get_or, Option, Some, None, IsSome, Result, Ok, Err, IfOk, IfErr, refl, sym, ◌∙◌, ap, subst, arith, inl, inr, ◌⊎◌, ◌+◌}
use Rattle.std.specs.declared.cmp.Ordering.{Ordering}
use Rattle.std.specs.declared.cmp.Ordering.TheVariants.{Less, Equal, Greater}
use Rattle.std.specs.Ordering.{ordering_reverse, is_eq, is_lt}
use Rattle.std.specs.List.{insert, All, AllByRecursion, AllAdjacentBelow, IsAllAdjacentAnswer, Contains, IsDistinct}
use Rattle.std.specs.List.Sorted.{IsStrictlySortedBy, IsBinarySearchResult, IsSearchInRange, IsPermutation, IsSortedBy}
use Rattle.std.proofs.lemmas.Map.Keys.{sorted_from_all_adjacent, IsDistinct-from_sorted, IsDistinct-IsPermutation}
use Rattle.std.proofs.lemmas.List.Sorted.{IsPermutation-refl, IsPermutation-sym, IsPermutation-map, Contains-permutation, All-permutation}
use Rattle.std.proofs.lemmas.List.Elements.{All-from_recursion}
use Rattle.iris_base.specs.declared.name.Label.{Label}
use Rattle.iris_base.specs.NameOrder.{label_cmp, label_eq, labels_equiv, labels_total, labels_ties}
use Rattle.iris_tree.specs.declared.local.Local.{Local}
use Rattle.iris_tree.proofs.Rising.{later_key, turned_less, turned_greater, comparisons_rise}
use Rattle.iris_tree.specs.Universe.{Node, node, nodes_of, list_of, label_of, local_of, children_of, labels_of, child_of, insert_node, with_child, IsGap, AllAfter, IsOrdered, AreOrdered}
use Rattle.iris_tree.specs.NodeCode.{nodes_of-list_of}
use Rattle.iris_tree.specs.Siblings.{HaveDistinctLabels, IsLabelOrder}

-- a list of nodes, stored as siblings, is that list
pub list_of-nodes_of : (ns : List Node) → list_of (nodes_of ns) ≡ ns
list_of-nodes_of [] = refl
list_of-nodes_of (n ∷ ns) = ap (λ (ms : List Node). n ∷ ms) (list_of-nodes_of ns)

-- ---- the order of labels

-- a lesser label is not equal
pub not_equal : (a b : Label) → label_cmp a b ≡ Less → label_eq a b ≡ false
not_equal a b less = labels_ties a b ∙ ap is_eq less

-- an order of labels turned round
pub greater : (a b : Label) → label_cmp a b ≡ Less → label_cmp b a ≡ Greater
greater a b before = turned_less labels_total a b before

less : (a b : Label) → label_cmp a b ≡ Greater → label_cmp b a ≡ Less
less a b after = turned_greater labels_total a b after

label_at : (ns : List Node) (i : ℕ) (d : Node) → get_or (labels_of ns) i (label_of d) ≡ label_of (get_or ns i d)
label_at [] i d = refl
label_at (n ∷ ns) zero d = refl
label_at (n ∷ ns) (suc i) d = label_at ns i d

length-labels_of : (ns : List Node) → length (labels_of ns) ≡ length ns
length-labels_of [] = refl
length-labels_of (n ∷ ns) = ap suc (length-labels_of ns)

-- ---- where a search ends

equal_label : (a b : Label) → label_cmp a b ≡ Equal → label_eq a b ≡ true
equal_label a b same = labels_ties a b ∙ ap is_eq same

-- a greater label is not equal
pub unequal_label : (a b : Label) → label_cmp a b ≡ Greater → label_eq a b ≡ false
unequal_label a b more = labels_ties a b ∙ ap is_eq more

later_label : (n : Node) (ns : List Node) (i : ℕ) (d : Node) → AllByRecursion (λ l. label_cmp (label_of n) l ≡ Less) (labels_of ns) → i < length ns → label_cmp (label_of n) (label_of (get_or ns i d)) ≡ Less
later_label n ns i d h within = later_key label_cmp label_of (label_of n) ns i d h within

-- the first node with a label is the one at which its label was found
pub found_at : (ns : List Node) (x : Label) (at : ℕ) (d : Node) → IsStrictlySortedBy label_cmp (labels_of ns) → at < length ns → label_cmp (label_of (get_or ns at d)) x ≡ Equal → child_of x ns ≡ Some (get_or ns at d)
unfolding IsStrictlySortedBy
found_at [] x at d sorted within same = absurd (omega arith)
found_at (n ∷ ns) x zero d sorted within same = rw (equal_label (label_of n) x same) refl
found_at (n ∷ ns) x (suc at) d sorted within same =
    let before : label_cmp (label_of n) x ≡ Less =
    labels_total.antisymm (label_of n) x ∙ ap ordering_reverse (sym (labels_total.congr (label_of (get_or ns at d)) x (label_of n) same) ∙ greater (label_of n) (label_of (get_or ns at d)) (later_label n ns at d sorted.0 (omega arith))) in
    rw (not_equal (label_of n) x before) (found_at ns x at d sorted.1 (omega arith) same)

gap_after : (n : Node) (ns : List Node) (x : Label) (at : ℕ) → IsGap (n ∷ ns) x (suc at) → IsGap ns x at
gap_after n ns x at gap = ((λ i d lt. gap.0 (suc i) d (omega arith)), (λ i d le lt. gap.1 (suc i) d (omega arith) (omega arith)))

gap_front : (n : Node) (ns : List Node) (x : Label) → IsGap (n ∷ ns) x 0 → IsGap ns x 0
gap_front n ns x gap = ((λ i d lt. absurd (omega arith)), (λ i d le lt. gap.1 (suc i) d (omega arith) (omega arith)))

-- no node has the label of a gap
pub none_in_gap : (ns : List Node) (x : Label) (at : ℕ) → at ≤ length ns → IsGap ns x at → child_of x ns ≡ None
none_in_gap [] x at within gap = refl
none_in_gap (n ∷ ns) x zero within gap = rw (unequal_label (label_of n) x (gap.1 0 n (omega arith) (omega arith))) (none_in_gap ns x 0 (omega arith) (gap_front n ns x gap))
none_in_gap (n ∷ ns) x (suc at) within gap = rw (not_equal (label_of n) x (gap.0 0 n (omega arith))) (none_in_gap ns x at (omega arith) (gap_after n ns x at gap))

-- a node put into the gap of its label is put in label order
pub insert_in_gap : (ns : List Node) (child : Node) (at : ℕ) → at ≤ length ns → IsGap ns (label_of child) at → insert ns at child ≡ insert_node child ns
insert_in_gap [] child zero within gap = refl
insert_in_gap [] child (suc at) within gap = absurd (omega arith)
insert_in_gap (n ∷ ns) child zero within gap = rw (less (label_of n) (label_of child) (gap.1 0 n (omega arith) (omega arith))) refl
insert_in_gap (n ∷ ns) child (suc at) within gap =
    rw (greater (label_of n) (label_of child) (gap.0 0 n (omega arith))) (ap (λ (ms : List Node). n ∷ ms) (insert_in_gap ns child at (omega arith) (gap_after n ns (label_of child) at gap)))

-- ---- one more sibling

labels_after : (x : Label) (ns : List Node) → AllAfter x (nodes_of ns) → AllByRecursion (λ l. label_cmp x l ≡ Less) (labels_of ns)
labels_after x [] h = tt
labels_after x (n ∷ ns) h = (h.0, labels_after x ns h.1)

-- siblings in order have labels that rise strictly
pub labels_sorted : (ns : List Node) → AreOrdered (nodes_of ns) → IsStrictlySortedBy label_cmp (labels_of ns)
unfolding IsStrictlySortedBy
labels_sorted [] h = tt
labels_sorted (n ∷ ns) h = (labels_after (label_of n) ns h.1, labels_sorted ns h.2)

-- a node with a greater label than x keeps all labels after x
pub all_after : (x : Label) (child : Node) (ns : List Node) → label_cmp x (label_of child) ≡ Less → AllAfter x (nodes_of ns) → AllAfter x (nodes_of (insert_node child ns))
all_after x child [] before h = (before, tt)
all_after x child (n ∷ ns) before h =
    elim (is_lt (label_cmp (label_of child) (label_of n))) as (λ (b : Bool). AllAfter x (nodes_of (if b then child ∷ n ∷ ns else n ∷ insert_node child ns))) [
      | true ↦ (before, h)
      | false ↦ (h.0, all_after x child ns before h.1)
    ]

-- what is after y is after any x before y
pub all_before : (x y : Label) (ns : List Node) → label_cmp x y ≡ Less → AllAfter y (nodes_of ns) → AllAfter x (nodes_of ns)
all_before x y [] before h = tt
all_before x y (n ∷ ns) before h = (labels_total.trans x y (label_of n) before h.0, all_before x y ns before h.1)

-- a node put into the gap of its label keeps the order
ordered_in_gap : (ns : List Node) (child : Node) (at : ℕ) → at ≤ length ns → IsGap ns (label_of child) at → IsOrdered child → AreOrdered (nodes_of ns) → AreOrdered (nodes_of (insert_node child ns))
ordered_in_gap [] child at within gap new sorted = (new, tt, tt)
ordered_in_gap (n ∷ ns) child zero within gap new sorted =
    let before = less (label_of n) (label_of child) (gap.1 0 n (omega arith) (omega arith)) in
    rw before (new, (before, all_before (label_of child) (label_of n) ns before sorted.1), sorted)
ordered_in_gap (n ∷ ns) child (suc at) within gap new sorted =
    let before = gap.0 0 n (omega arith) in
    rw (greater (label_of n) (label_of child) before)
    (sorted.0, all_after (label_of n) child ns before sorted.1, ordered_in_gap ns child at (omega arith) (gap_after n ns (label_of child) at gap) new sorted.2)

-- what a binary search for a label says
pub searched : (ns : List Node) (x : Label) (r : Result ℕ ℕ) → IsStrictlySortedBy label_cmp (labels_of ns) → IsSearchInRange r (length ns) → IsBinarySearchResult (λ n. label_cmp (label_of n) x) ns r
    → (IfOk r (λ at. (at < length ns) × ((d : Node) → child_of x ns ≡ Some (get_or ns at d)))) × (IfErr r (λ at. (at ≤ length ns) × (child_of x ns ≡ None) × IsGap ns x at))
searched ns x (Ok at) sorted within same = ((within, (λ d. found_at ns x at d sorted within (same d))), tt)
searched ns x (Err at) sorted within parted =
    let parts = parted (comparisons_rise labels_total label_of ns x sorted) in
    let gap : IsGap ns x at = ((λ i d lt. parts.0 i d (omega arith) lt), (λ i d le lt. parts.1 i d le lt)) in
    (tt, (within, none_in_gap ns x at within gap, gap))

-- the node at the place where a label was found, seen as the parent's child of that label
pub found_here : (x : Label) (siblings items children : List Node) (at : ℕ) (child : Node) → ((d : Node) → child_of x siblings ≡ Some (get_or siblings at d)) → child ≡ get_or items at child → siblings ≡ items → items ≡ children
    → Some child ≡ child_of x children
found_here x siblings items children at child found is same whole = ap Some (is ∙ ap (λ (ns : List Node). get_or ns at child) (sym same)) ∙ sym (found child) ∙ ap (child_of x) (same ∙ whole)

-- the parent has a child with a label that was found
pub twin_found : (x y : Label) (siblings children : List Node) (at : ℕ) → x ≡ y → ((d : Node) → child_of x siblings ≡ Some (get_or siblings at d)) → siblings ≡ children → (d : Node) → IsSome (child_of y children)
twin_found x y siblings children at label found same d =
    subst (λ (o : Option Node). IsSome o) (sym (found d) ∙ ap (child_of x) same ∙ ap (λ (l : Label). child_of l children) label) refl

-- and has none with a label that was not found
pub no_twin : (x y : Label) (siblings children : List Node) → x ≡ y → child_of x siblings ≡ None → siblings ≡ children → IsSome (child_of y children) → ⊥
no_twin x y siblings children label none same some =
    let bad : IsSome {T = Node} None = subst (λ (o : Option Node). IsSome o) (ap (λ (l : Label). child_of l children) (sym label) ∙ sym (ap (child_of x) same) ∙ none) some in
    cc

-- what an insertion into the gap left
inserted : (x : Label) (siblings old new : List Node) (child : Node) (at : ℕ) (done : Bool) → new ≡ (if done then insert old at child else old) → done ≡ true → x ≡ label_of child → siblings ≡ old → at ≤ length siblings → IsGap siblings x at
    → (new ≡ insert_node child old) × (at ≤ length old) × IsGap old (label_of child) at
inserted x siblings old new child at done items is_done label same within gap =
    let place : at ≤ length old = subst (λ (ns : List Node). at ≤ length ns) same within in
    let there : IsGap old (label_of child) at = subst (λ (l : Label). IsGap old l at) label (subst (λ (ns : List Node). IsGap ns x at) same gap) in
    (items ∙ ap (λ (b : Bool). if b then insert old at child else old) is_done ∙ insert_in_gap old child at place there, place, there)

-- it keeps the order
pub inserted_ordered : (x : Label) (siblings old new : List Node) (child : Node) (at : ℕ) (done : Bool) → new ≡ (if done then insert old at child else old) → done ≡ true → x ≡ label_of child → siblings ≡ old → at ≤ length siblings → IsGap siblings x at
    → IsOrdered child → AreOrdered (nodes_of old) → AreOrdered (nodes_of new)
inserted_ordered x siblings old new child at done items is_done label same within gap below sorted =
    let left = inserted x siblings old new child at done items is_done label same within gap in
    subst (λ (ns : List Node). AreOrdered (nodes_of ns)) (sym left.0) (ordered_in_gap old child at left.1 left.2 below sorted)

-- it gives the node with one child more
pub inserted_view : (x label : Label) (local : Local) (self : Node) (siblings old new : List Node) (child : Node) (at : ℕ) (done : Bool) → new ≡ (if done then insert old at child else old) → done ≡ true → x ≡ label_of child → siblings ≡ old
    → at ≤ length siblings → IsGap siblings x at → node label local (nodes_of old) ≡ self → node label local (nodes_of new) ≡ with_child self child
inserted_view x label local self siblings old new child at done items is_done label_is same within gap view =
    let left = inserted x siblings old new child at done items is_done label_is same within gap in
    ap (λ (ns : List Node). node label local (nodes_of ns)) (left.0 ∙ ap (insert_node child) (sym (list_of-nodes_of old))) ∙ ap (λ (n : Node). with_child n child) view

-- ---- all siblings at once

-- a node is its parts
pub node_parts : (n : Node) → node (label_of n) (local_of n) (nodes_of (children_of n)) ≡ n
node_parts (node label local below) = ap (node label local) (nodes_of-list_of below)

-- the test that a sort of siblings goes by
abbrev pub is_before : Node → Node → Bool
is_before m n = is_lt (label_cmp (label_of m) (label_of n))

is_less : (o : Ordering) → true ≡ is_lt o → o ≡ Less
is_less Less h = refl
is_less Equal h = absurd (cc)
is_less Greater h = absurd (cc)

-- labels that rise from each node to the next rise over the whole list
pub labels_rise : (ns : List Node) → AllAdjacentBelow (λ m n. true ≡ is_before m n) ns (length ns) → IsStrictlySortedBy label_cmp (labels_of ns)
unfolding IsStrictlySortedBy
labels_rise [] h = tt
labels_rise (n ∷ ns) h = sorted_from_all_adjacent labels_total (labels_of (n ∷ ns)) (label_of n) (λ k lt. rw (label_at (n ∷ ns) k n, label_at (n ∷ ns) (k + 1) n) (is_less _ (h k n (omega (arith, length-labels_of (n ∷ ns))))))

neither_less : (a b : Label) (o : Ordering) → label_cmp a b ≡ o → is_lt o ≡ false → is_lt (label_cmp b a) ≡ false → label_eq a b ≡ true
neither_less a b Less same h g = absurd (cc)
neither_less a b Equal same h g = equal_label a b same
neither_less a b Greater same h g = let back : is_lt (label_cmp b a) ≡ true = ap is_lt (less a b same) in absurd (cc)

distinct_at : (ks : List Label) (i j : ℕ) (d : Label) → IsDistinct label_eq ks → i < j → j < length ks → label_eq (get_or ks i d) (get_or ks j d) ≡ false
unfolding IsDistinct
distinct_at [] i j d h lt within = absurd (omega arith)
distinct_at (a ∷ ks) i zero d h lt within = absurd (omega arith)
distinct_at (a ∷ ks) zero (suc j) d h lt within = All-from_recursion (λ b. label_eq a b ≡ false) ks h.0 j d (omega arith)
distinct_at (a ∷ ks) (suc i) (suc j) d h lt within = distinct_at ks i j d h.1 (omega arith) (omega arith)

distinct_moved : (xs ys : List Node) → IsPermutation xs ys → HaveDistinctLabels xs → HaveDistinctLabels ys
distinct_moved xs ys moved distinct = IsDistinct-IsPermutation label_eq labels_equiv.symm (labels_of xs) (labels_of ys) (IsPermutation-map label_of xs ys moved) distinct

-- where a sort leaves a label that is not less than the next one, two of the sorted nodes have the same label
pub twins_stay : (given sorted : List Node) → IsPermutation given sorted → IsSortedBy is_before sorted → (k : ℕ) × (k + 1 < length sorted) × ((d : Node) → false ≡ is_before (get_or sorted k d) (get_or sorted (k + 1) d)) → HaveDistinctLabels given → ⊥
twins_stay given [] moved up stuck distinct = let within = stuck.1 in absurd (omega arith)
twins_stay given (n ∷ ns) moved up stuck distinct =
    let k = stuck.0 in
    let ks = labels_of (n ∷ ns) in
    let within : k + 1 < length ks = omega (arith, stuck.1, length-labels_of (n ∷ ns)) in
    let apart = distinct_at ks k (k + 1) (label_of n) (distinct_moved given (n ∷ ns) moved distinct) (omega arith) within in
    let a = label_of (get_or (n ∷ ns) k n) in
    let b = label_of (get_or (n ∷ ns) (k + 1) n) in
    let twins : label_eq a b ≡ true = neither_less a b (label_cmp a b) refl (sym (stuck.2 n)) (up k n (omega arith) stuck.1) in
    let other : label_eq a b ≡ false = ap (λ (l : Label). label_eq l b) (sym (label_at (n ∷ ns) k n)) ∙ ap (label_eq (get_or ks k (label_of n))) (sym (label_at (n ∷ ns) (k + 1) n)) ∙ apart in
    cc

-- where a test of the sorted nodes for rising labels answers false, two have the same label
pub twins_told : (given sorted shown : List Node) (answer : Bool) → IsPermutation given sorted → IsSortedBy is_before sorted → shown ≡ sorted → answer ≡ false → IsAllAdjacentAnswer (λ m n b. b ≡ is_before m n) shown answer → HaveDistinctLabels given → ⊥
twins_told given sorted shown true moved up same told stuck distinct = absurd (cc)
twins_told given sorted shown false moved up same told stuck distinct =
    twins_stay given sorted moved up (subst (λ (ns : List Node). (k : ℕ) × (k + 1 < length ns) × ((d : Node) → false ≡ is_before (get_or ns k d) (get_or ns (k + 1) d))) same stuck) distinct

-- at the other answer the labels rise
pub rising_told : (sorted shown : List Node) (answer : Bool) → shown ≡ sorted → answer ≡ true → IsAllAdjacentAnswer (λ m n b. b ≡ is_before m n) shown answer → IsStrictlySortedBy label_cmp (labels_of sorted)
rising_told sorted shown true same told rise = subst (λ (ns : List Node). IsStrictlySortedBy label_cmp (labels_of ns)) same (labels_rise shown rise)
rising_told sorted shown false same told rise = absurd (cc)

-- labels in rising order are distinct
pub distinct_from_rising : (ks : List Label) → IsStrictlySortedBy label_cmp ks → IsDistinct label_eq ks
distinct_from_rising ks rise = subst (λ (eq : Label → Label → Bool). IsDistinct eq ks) (λ i a b. sym (labels_ties a b) i) (IsDistinct-from_sorted label_cmp ks rise)

-- nodes that have an order by their labels have distinct labels
pub label_order_distinct : (given ordered : List Node) → IsLabelOrder given ordered → HaveDistinctLabels given
label_order_distinct given ordered order = distinct_moved ordered given (IsPermutation-sym given ordered order.same) (distinct_from_rising (labels_of ordered) order.rise)

all_after_from : (x : Label) (ns : List Node) → AllByRecursion (λ l. label_cmp x l ≡ Less) (labels_of ns) → AllAfter x (nodes_of ns)
all_after_from x [] h = tt
all_after_from x (n ∷ ns) h = (h.0, all_after_from x ns h.1)

-- siblings whose labels rise, each in order, are in order
pub ordered_from_rising : (ns : List Node) → All IsOrdered ns → IsStrictlySortedBy label_cmp (labels_of ns) → AreOrdered (nodes_of ns)
unfolding IsStrictlySortedBy
ordered_from_rising [] each rise = tt
ordered_from_rising (n ∷ ns) each rise =
    (each 0 n (omega arith), all_after_from (label_of n) ns rise.0, ordered_from_rising ns (λ k d lt. each (suc k) d (omega arith)) rise.1)

-- a node over siblings that were put into the order of their labels, each in order, is in order
pub ordered_node : (label : Label) (local : Local) (given ordered : List Node) → IsLabelOrder given ordered → AllByRecursion IsOrdered given → IsOrdered (node label local (nodes_of ordered))
ordered_node label local given ordered order each = ordered_from_rising ordered (All-permutation IsOrdered given ordered order.same (All-from_recursion IsOrdered given each)) order.rise

-- siblings in order are the order of themselves
pub already_in_order : (ns : List Node) → AreOrdered (nodes_of ns) → IsLabelOrder ns ns
already_in_order ns ordered = record { same = IsPermutation-refl ns; rise = labels_sorted ns ordered }

-- ---- an order by labels is the only one

in_cons : (n m : Node) (ns : List Node) → Contains (m ∷ ns) n → (n ≡ m) ⊎ Contains ns n
in_cons n m ns (zero, within, is) = inl (sym is)
in_cons n m ns (suc k, within, is) = inr (k, omega arith, is)

in_tail : (n m : Node) (ns : List Node) → Contains ns n → Contains (m ∷ ns) n
in_tail n m ns (k, within, is) = (suc k, omega arith, is)

in_head : (n : Node) (ns : List Node) → Contains (n ∷ ns) n
in_head n ns = (0, omega arith, refl)

above_head : (m n : Node) (ns : List Node) → AllByRecursion (λ l. label_cmp (label_of m) l ≡ Less) (labels_of ns) → Contains ns n → label_cmp (label_of m) (label_of n) ≡ Less
above_head m n ns rise (k, within, is) = subst (λ (o : Node). label_cmp (label_of m) (label_of o) ≡ Less) is (later_label m ns k n rise within)

not_below_itself : (m n : Node) → n ≡ m → label_cmp (label_of m) (label_of n) ≡ Less → ⊥
not_below_itself m n same below =
    let here : label_cmp (label_of m) (label_of m) ≡ Less = subst (λ (o : Node). label_cmp (label_of m) (label_of o) ≡ Less) same below in
    let back = greater (label_of m) (label_of m) here in
    cc

same_head : (m n : Node) (ms ns : List Node) → AllByRecursion (λ l. label_cmp (label_of m) l ≡ Less) (labels_of ms) → AllByRecursion (λ l. label_cmp (label_of n) l ≡ Less) (labels_of ns)
    → (m ≡ n) ⊎ Contains ns m → (n ≡ m) ⊎ Contains ms n → m ≡ n
same_head m n ms ns over_m over_n (inl same) there = same
same_head m n ms ns over_m over_n (inr inside) (inl same) = sym same
same_head m n ms ns over_m over_n (inr inside) (inr there) =
    let a = above_head m n ms over_m there in
    let b = greater (label_of n) (label_of m) (above_head n m ns over_n inside) in
    absurd (cc)

-- an element of one tail is in the other
tail_of : (m n o : Node) (ms ns : List Node) → m ≡ n → AllByRecursion (λ l. label_cmp (label_of m) l ≡ Less) (labels_of ms) → Contains ms o → (o ≡ n) ⊎ Contains ns o → Contains ns o
tail_of m n o ms ns same over inside (inl at_head) = absurd (not_below_itself m o (at_head ∙ sym same) (above_head m o ms over inside))
tail_of m n o ms ns same over inside (inr there) = there

same_rising : (ms ns : List Node) → IsStrictlySortedBy label_cmp (labels_of ms) → IsStrictlySortedBy label_cmp (labels_of ns)
    → ((n : Node) → Contains ms n → Contains ns n) → ((n : Node) → Contains ns n → Contains ms n) → ms ≡ ns
unfolding IsStrictlySortedBy
same_rising [] [] rise_m rise_n to from = refl
same_rising [] (n ∷ ns) rise_m rise_n to from = let none = (from n (in_head n ns)).1 in absurd (omega arith)
same_rising (m ∷ ms) [] rise_m rise_n to from = let none = (to m (in_head m ms)).1 in absurd (omega arith)
same_rising (m ∷ ms) (n ∷ ns) rise_m rise_n to from =
    let head = same_head m n ms ns rise_m.0 rise_n.0 (in_cons m n ns (to m (in_head m ms))) (in_cons n m ms (from n (in_head n ns))) in
    let rest = same_rising ms ns rise_m.1 rise_n.1
    (λ o inside. tail_of m n o ms ns head rise_m.0 inside (in_cons o n ns (to o (in_tail o m ms inside))))
    (λ o inside. tail_of n m o ns ms (sym head) rise_n.0 inside (in_cons o m ms (from o (in_tail o n ns inside)))) in
    λ i. head i ∷ rest i

-- nodes have at most one order by their labels
pub label_order_once : (given xs ys : List Node) → IsLabelOrder given xs → IsLabelOrder given ys → xs ≡ ys
label_order_once given xs ys first second =
    same_rising xs ys first.rise second.rise
    (λ n inside. Contains-permutation given ys n second.same (Contains-permutation xs given n (IsPermutation-sym given xs first.same) inside))
    (λ n inside. Contains-permutation given xs n first.same (Contains-permutation ys given n (IsPermutation-sym given ys second.same) inside))
