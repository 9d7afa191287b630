-- Which nodes marks tell of, and their names.
use Rattle.std.proofs.Common.{◌≡◌, ℕ, zero, suc, ◌+◌, ◌<◌, ◌≤◌, Bool, true, false, cond, ◌&&◌, ◌||◌, List, [], ◌∷◌, ◌++◌, map, filter, length, min, drop, get_or, set, Bor, refl, ap, sym, ◌∙◌, subst, append-nil, append_assoc, Option, Some, None, IsSome, MatchOption, option_and_then, arith}
use Rattle.std.specs.List.{zip}
use Rattle.std.specs.Ordering.{is_eq}
use Rattle.std.proofs.lemmas.List.{map-append, length-drop, length_push}
use Rattle.std.proofs.lemmas.List.Elements.{filter-append}
use Rattle.iris_base.specs.declared.name.Label.{Label}
use Rattle.iris_base.specs.NameOrder.{label_eq, labels_equiv, labels_ties}
use Rattle.iris_base.proofs.Labels.{label_eq-Decides}
use Rattle.iris_tree.specs.Universe.{Node, node, Nodes, no_nodes, nodes, nodes_of, label_of, children_of, child_of, part_at, AllAfter, IsOrdered, AreOrdered}
use Rattle.iris_tree.specs.NodeCode.{nodes_of-list_of}
use Rattle.iris_tree.specs.Document.{Edge, position, label, Place, place_of, names_of, all_names_of}
use Rattle.iris_xpath.specs.Looks.{is_sought}
use Rattle.iris_xpath.specs.Places.{edge_eq}
use Rattle.iris_xpath.specs.Walk.{names_from}
use Rattle.iris_xpath.specs.declared.expression.Separator.{Separator}
use Rattle.iris_xpath.specs.declared.expression.Separator.TheVariants.{Slash, DoubleSlash}
use Rattle.iris_xpath.proofs.Passes.{or_false, or_assoc, or_comm}
use Rattle.iris_select.specs.declared.marks.Marks.{Marks}
use Rattle.iris_select.specs.declared.marks.Marks.TheViews.{out-Marks}
use Rattle.iris_select.specs.declared.spot.Edge.TheVariants as edges
use Rattle.iris_select.specs.declared.spot.Edge.{Edge as CodeEdge}
use Rattle.iris_select.specs.Marks.{marked, marked_among, paths_of, IsMarked, HaveSameMarks}
use Rattle.iris_select.specs.Parts.{edge_of, place_at}

-- ---- no marks

zip_nothing : {A B : Type 0} (xs : List A) → zip {K = A} {X = B} xs [] ≡ []
zip_nothing [] = refl
zip_nothing (x ∷ xs) = refl

-- siblings without marks
pub none_among : (ns : List Node) (l : Label) (path : List Label) → marked_among ns [] l path ≡ false
none_among [] l path = refl
none_among (n ∷ ns) l path = refl

pub not_marked : (n : Node) (m : Marks) (path : List Label) → (out-Marks m).own ≡ false → (out-Marks m).whole ≡ false → (out-Marks m).children.items ≡ [] → marked n m path ≡ false
not_marked n m [] own all below = rw (own, all) refl
not_marked n m (l ∷ path) own all below =
    ap (λ b. b || marked_among (children_of n) (out-Marks m).children.items l path) all
    ∙ ap (λ (ms : List Marks). marked_among (children_of n) ms l path) below
    ∙ none_among (children_of n) l path

-- ---- marks of siblings

never : (b : Bool) → (b && false) ≡ false
never true = refl
never false = refl

-- no marks for one more of them
pub one_more : (ns : List Node) (ms : List Marks) (m : Marks) (l : Label) (path : List Label) → ((n : Node) (q : List Label) → marked n m q ≡ false) → marked_among ns (ms ++ m ∷ []) l path ≡ marked_among ns ms l path
one_more [] ms m l path h = refl
one_more (n ∷ ns) [] m l path h =
    ap (λ b. (label_eq (label_of n) l && b) || marked_among ns [] l path) (h n path)
    ∙ ap (λ b. b || marked_among ns [] l path) (never (label_eq (label_of n) l))
    ∙ none_among ns l path
one_more (n ∷ ns) (k ∷ ms) m l path h = ap (λ b. (label_eq (label_of n) l && marked n k path) || b) (one_more ns ms m l path h)

swap_extra : (a b c : Bool) → ((a || b) || c) ≡ ((a || c) || b)
swap_extra a b c = or_assoc a b c ∙ ap (λ x. a || x) (or_comm b c) ∙ sym (or_assoc a c b)

-- what is marked more below one of them
here_more : (b x y extra more : Bool) → (b ≡ true → x ≡ (y || extra)) → ((b && x) || more) ≡ (((b && y) || more) || (b && extra))
here_more true x y extra more h = ap (λ z. z || more) (h refl) ∙ swap_extra y extra more
here_more false x y extra more h = sym (or_false more)

-- marks put in the place of those of one of them
pub marks_put : (ns : List Node) (ms : List Marks) (at : ℕ) (c : Node) (k m : Marks) (l : Label) (path : List Label) (extra : Bool) → at < length ns → at < length ms → k ≡ get_or ms at k → c ≡ get_or ns at c
    → (label_eq (label_of c) l ≡ true → marked c m path ≡ (marked c k path || extra)) → marked_among ns (set ms at m) l path ≡ (marked_among ns ms l path || (label_eq (label_of c) l && extra))
marks_put [] ms at c k m l path extra within also was is h = absurd (omega arith)
marks_put (n ∷ ns) [] at c k m l path extra within also was is h = absurd (omega arith)
marks_put (n ∷ ns) (j ∷ ms) zero c k m l path extra within also was is h =
    ap (λ (a : Node). (label_eq (label_of a) l && marked a m path) || marked_among ns ms l path) (sym is)
    ∙ here_more (label_eq (label_of c) l) (marked c m path) (marked c k path) extra (marked_among ns ms l path) h
    ∙ ap (λ (a : Node). ((label_eq (label_of a) l && marked a k path) || marked_among ns ms l path) || (label_eq (label_of c) l && extra)) is
    ∙ ap (λ (a : Marks). ((label_eq (label_of n) l && marked n a path) || marked_among ns ms l path) || (label_eq (label_of c) l && extra)) was
marks_put (n ∷ ns) (j ∷ ms) (suc at) c k m l path extra within also was is h =
    ap (λ b. (label_eq (label_of n) l && marked n j path) || b) (marks_put ns ms at c k m l path extra (omega arith) (omega arith) was is h)
    ∙ sym (or_assoc (label_eq (label_of n) l && marked n j path) (marked_among ns ms l path) (label_eq (label_of c) l && extra))

-- ---- names

-- the names from a node on, by the paths to them
pub names_form : (name : List Label) (n : Node) → names_from name n ≡ name ∷ map (λ m. name ++ m) (all_names_of (nodes_of (children_of n)))
names_form name (node l local below) = ap (λ (ns : Nodes). name ∷ map (λ m. name ++ m) (all_names_of ns)) (sym (nodes_of-list_of below))

pub under_label : (n : Node) → names_of n ≡ map (λ path. label_of n ∷ path) (paths_of n)
under_label (node l local below) = ap (λ (ns : Nodes). map (λ path. l ∷ path) ([] ∷ all_names_of ns)) (sym (nodes_of-list_of below))

one_label : (name : List Label) (l : Label) (paths : List (List Label)) → map (λ m. (name ++ l ∷ []) ++ m) paths ≡ map (λ m. name ++ m) (map (λ m. l ∷ m) paths)
one_label name l [] = refl
one_label name l (path ∷ paths) = ap (λ m. m ∷ map (λ m. (name ++ l ∷ []) ++ m) paths) (append_assoc name (l ∷ []) path) ∙ ap (λ ms. (name ++ l ∷ path) ∷ ms) (one_label name l paths)

-- the names of a node's child, and of all below it
pub names_child : (name : List Label) (n : Node) → map (λ m. name ++ m) (names_of n) ≡ names_from (name ++ label_of n ∷ []) n
names_child name (node l local below) =
    ap (λ ms. (name ++ l ∷ []) ∷ ms) (sym (one_label name l (all_names_of below)))

-- of the first of some siblings, and of the others
pub names_first : (name : List Label) (n : Node) (ns : List Node) → map (λ m. name ++ m) (all_names_of (nodes_of (n ∷ ns))) ≡ names_from (name ++ label_of n ∷ []) n ++ map (λ m. name ++ m) (all_names_of (nodes_of ns))
names_first name n ns =
    map-append (λ m. name ++ m) (names_of n) (all_names_of (nodes_of ns))
    ∙ ap (λ ms. ms ++ map (λ m. name ++ m) (all_names_of (nodes_of ns))) (names_child name n)

-- ---- marked names

pub filter_alike : {A : Type 0} (t u : A → Bool) → ((x : A) → t x ≡ u x) → (xs : List A) → filter t xs ≡ filter u xs
filter_alike t u h [] = refl
filter_alike t u h (x ∷ xs) = ap (λ b. cond b (x ∷ filter t xs) (filter t xs)) (h x) ∙ ap (λ ys. cond (u x) (x ∷ ys) ys) (filter_alike t u h xs)

filter_all : {A : Type 0} (xs : List A) → filter (λ x. true) xs ≡ xs
filter_all [] = refl
filter_all (x ∷ xs) = ap (λ ys. x ∷ ys) (filter_all xs)

filter_none : {A : Type 0} (xs : List A) → filter (λ x. false) xs ≡ []
filter_none [] = refl
filter_none (x ∷ xs) = filter_none xs

map_kept : {A B : Type 0} (f : A → B) (b : Bool) (x : A) (xs : List A) → map f (cond b (x ∷ xs) xs) ≡ cond b (f x ∷ map f xs) (map f xs)
map_kept f true x xs = refl
map_kept f false x xs = refl

pub filter_map_is : {A B : Type 0} (t : B → Bool) (f : A → B) (xs : List A) → filter t (map f xs) ≡ map f (filter (λ x. t (f x)) xs)
filter_map_is t f [] = refl
filter_map_is t f (x ∷ xs) = ap (λ ys. cond (t (f x)) (f x ∷ ys) ys) (filter_map_is t f xs) ∙ sym (map_kept f (t (f x)) x (filter (λ y. t (f y)) xs))

-- the names of the first of some siblings, kept by a test of paths
filter_first : (t : List Label → Bool) (n : Node) (ns : Nodes) → filter t (all_names_of (nodes n ns)) ≡ map (λ path. label_of n ∷ path) (filter (λ path. t (label_of n ∷ path)) (paths_of n)) ++ filter t (all_names_of ns)
filter_first t n ns =
    filter-append t (names_of n) (all_names_of ns)
    ∙ ap (λ ms. filter t ms ++ filter t (all_names_of ns)) (under_label n)
    ∙ ap (λ ms. ms ++ filter t (all_names_of ns)) (filter_map_is t (λ path. label_of n ∷ path) (paths_of n))

-- each of these names has a label
pub filter_labelled : (t u : List Label → Bool) → ((l : Label) (path : List Label) → t (l ∷ path) ≡ u (l ∷ path)) → (ns : Nodes) → filter t (all_names_of ns) ≡ filter u (all_names_of ns)
filter_labelled t u h no_nodes = refl
filter_labelled t u h (nodes n ns) =
    filter_first t n ns
    ∙ ap (λ ms. map (λ path. label_of n ∷ path) ms ++ filter t (all_names_of ns)) (filter_alike _ _ (λ path. h (label_of n) path) (paths_of n))
    ∙ ap (λ ms. map (λ path. label_of n ∷ path) (filter (λ path. u (label_of n ∷ path)) (paths_of n)) ++ ms) (filter_labelled t u h ns)
    ∙ sym (filter_first u n ns)

-- and after a label, another one
filter_after : (t u : List Label → Bool) (k : Label) → ((l : Label) (path : List Label) → label_eq k l ≡ false → t (l ∷ path) ≡ u (l ∷ path)) → (ns : Nodes) → AllAfter k ns → filter t (all_names_of ns) ≡ filter u (all_names_of ns)
filter_after t u k h no_nodes after = refl
filter_after t u k h (nodes n ns) after =
    filter_first t n ns
    ∙ ap (λ ms. map (λ path. label_of n ∷ path) ms ++ filter t (all_names_of ns)) (filter_alike _ _ (λ path. h (label_of n) path (labels_ties k (label_of n) ∙ ap is_eq after.0)) (paths_of n))
    ∙ ap (λ ms. map (λ path. label_of n ∷ path) (filter (λ path. u (label_of n ∷ path)) (paths_of n)) ++ ms) (filter_after t u k h ns after.1)
    ∙ sym (filter_first u n ns)

-- whether the node at a path that begins with one of these siblings is marked
abbrev pub among : List Node → List Marks → List Label → Bool
among ns ms [] = false
among ns ms (l ∷ path) = marked_among ns ms l path

-- a label that is before those of all siblings is none of theirs
none_after : (ns : List Node) (ms : List Marks) (l : Label) (path : List Label) → AllAfter l (nodes_of ns) → marked_among ns ms l path ≡ false
none_after [] ms l path after = refl
none_after (n ∷ ns) [] l path after = refl
none_after (n ∷ ns) (m ∷ ms) l path after =
    ap (λ b. (b && marked n m path) || marked_among ns ms l path) (labels_equiv.symm (label_of n) l ∙ labels_ties l (label_of n) ∙ ap is_eq after.0)
    ∙ none_after ns ms l path after.1

-- the names of the marked nodes at and below siblings, by the first of them
pub marked_first : (n : Node) (ns : List Node) (m : Marks) (ms : List Marks) → AreOrdered (nodes_of (n ∷ ns))
    → filter (among (n ∷ ns) (m ∷ ms)) (all_names_of (nodes_of (n ∷ ns))) ≡ map (λ path. label_of n ∷ path) (filter (marked n m) (paths_of n)) ++ filter (among ns ms) (all_names_of (nodes_of ns))
marked_first n ns m ms ordered =
    filter_first (among (n ∷ ns) (m ∷ ms)) n (nodes_of ns)
    ∙ ap (λ qs. map (λ path. label_of n ∷ path) qs ++ filter (among (n ∷ ns) (m ∷ ms)) (all_names_of (nodes_of ns)))
    (filter_alike _ _ (λ path.
    ap (λ b. (b && marked n m path) || marked_among ns ms (label_of n) path) (labels_equiv.refl (label_of n))
    ∙ ap (λ b. marked n m path || b) (none_after ns ms (label_of n) path ordered.1)
    ∙ or_false (marked n m path)) (paths_of n))
    ∙ ap (λ qs. map (λ path. label_of n ∷ path) (filter (marked n m) (paths_of n)) ++ qs)
    (filter_after _ _ (label_of n) (λ l path unlike. ap (λ b. (b && marked n m path) || marked_among ns ms l path) unlike) (nodes_of ns) ordered.1)

-- with the name of the node above them
pub marked_names_first : (name : List Label) (n : Node) (ns : List Node) (m : Marks) (ms : List Marks) → AreOrdered (nodes_of (n ∷ ns))
    → map (λ path. name ++ path) (filter (among (n ∷ ns) (m ∷ ms)) (all_names_of (nodes_of (n ∷ ns))))
    ≡ map (λ path. (name ++ label_of n ∷ []) ++ path) (filter (marked n m) (paths_of n)) ++ map (λ path. name ++ path) (filter (among ns ms) (all_names_of (nodes_of ns)))
marked_names_first name n ns m ms ordered =
    ap (map (λ path. name ++ path)) (marked_first n ns m ms ordered)
    ∙ map-append (λ path. name ++ path) (map (λ path. label_of n ∷ path) (filter (marked n m) (paths_of n))) (filter (among ns ms) (all_names_of (nodes_of ns)))
    ∙ ap (λ qs. qs ++ map (λ path. name ++ path) (filter (among ns ms) (all_names_of (nodes_of ns)))) (sym (one_label name (label_of n) (filter (marked n m) (paths_of n))))

-- siblings without marks, or none at all, give no name
pub marked_names_end : (name : List Label) (ns : List Node) (ms : List Marks) → min (length ns) (length ms) ≡ 0 → map (λ path. name ++ path) (filter (among ns ms) (all_names_of (nodes_of ns))) ≡ []
marked_names_end name [] ms none = refl
marked_names_end name (n ∷ ns) [] none =
    ap (map (λ path. name ++ path)) (filter_labelled (among (n ∷ ns) []) (λ path. false) (λ l path. none_among (n ∷ ns) l path) (nodes_of (n ∷ ns)) ∙ filter_none (all_names_of (nodes_of (n ∷ ns))))
marked_names_end name (n ∷ ns) (m ∷ ms) none = absurd (omega arith)

-- the one in hand, and those that are left
in_hand : {A : Type 0} (xs : List A) (k : ℕ) (x : A) → k < length xs → x ≡ get_or xs k x → drop k xs ≡ x ∷ drop (k + 1) xs
in_hand [] k x within is = absurd (omega arith)
in_hand (y ∷ ys) zero x within is = let e : suc 0 ≡ 0 + 1 = omega arith in ap (λ z. z ∷ ys) (sym is) ∙ ap (λ m. x ∷ drop m (y ∷ ys)) e
in_hand (y ∷ ys) (suc k) x within is = let e : suc (k + 1) ≡ suc k + 1 = omega arith in in_hand ys k x (omega arith) is ∙ ap (λ m. x ∷ drop m (y ∷ ys)) e

nothing_left : {A : Type 0} (xs : List A) (k : ℕ) → length xs ≤ k → drop k xs ≡ []
nothing_left [] zero past = refl
nothing_left [] (suc k) past = refl
nothing_left (x ∷ xs) zero past = absurd (omega arith)
nothing_left (x ∷ xs) (suc k) past = nothing_left xs k (omega arith)

whole_marked : (n : Node) (m : Marks) → (out-Marks m).whole ≡ true → (path : List Label) → marked n m path ≡ true
whole_marked n m all [] = ap (λ b. (out-Marks m).own || b) all ∙ or_comm (out-Marks m).own true
whole_marked n m all (l ∷ path) = ap (λ b. b || marked_among (children_of n) (out-Marks m).children.items l path) all

-- a node marked with all below it
pub marked_whole : (name : List Label) (n : Node) (m : Marks) → (out-Marks m).whole ≡ true → map (λ path. name ++ path) (filter (marked n m) (paths_of n)) ≡ names_from name n
marked_whole name n m all =
    ap (map (λ path. name ++ path)) (filter_alike (marked n m) (λ path. true) (whole_marked n m all) (paths_of n) ∙ filter_all (paths_of n))
    ∙ ap (λ first. first ∷ map (λ path. name ++ path) (all_names_of (nodes_of (children_of n)))) (append-nil name)
    ∙ sym (names_form name n)

-- ---- going over siblings

pub children_ordered : (n : Node) (ns : List Node) → ns ≡ children_of n → IsOrdered n → AreOrdered (nodes_of ns)
children_ordered (node l local below) ns same ordered = subst (λ (ms : Nodes). AreOrdered ms) (sym (nodes_of-list_of below) ∙ ap nodes_of (sym same)) ordered

order_left : (k : ℕ) (ns : List Node) → AreOrdered (nodes_of ns) → AreOrdered (nodes_of (drop k ns))
order_left zero ns ordered = ordered
order_left (suc k) [] ordered = tt
order_left (suc k) (n ∷ ns) ordered = order_left k ns ordered.2

-- a label put at the end of a name and taken away again
popped_some : (after name : List Label) (l bottom : Label) → name ++ l ∷ [] ≡ after ++ bottom ∷ [] → after ≡ name
popped_some [] [] l b h = refl
popped_some [] (x ∷ name) l b h = let e : length (name ++ l ∷ []) ≡ 0 = let same : name ++ l ∷ [] ≡ [] = cc in ap length same in absurd (omega (arith, length_push name l))
popped_some (x ∷ after) [] l b h = let e : 0 ≡ length (after ++ b ∷ []) = let same : [] ≡ after ++ b ∷ [] = cc in ap length same in absurd (omega (arith, length_push after b))
popped_some (x ∷ after) (y ∷ name) l b h =
    let first : y ≡ x = cc in
    let rest : name ++ l ∷ [] ≡ after ++ b ∷ [] = cc in
    ap (λ m. m ∷ after) (sym first) ∙ ap (λ m. y ∷ m) (popped_some after name l b rest)

pub popped : (o : Option Label) (pushed after name : List Label) (l : Label) → MatchOption o ((pushed ≡ []) × (after ≡ [])) (λ bottom. pushed ≡ after ++ bottom ∷ []) → pushed ≡ name ++ l ∷ [] → after ≡ name
popped None pushed after name l gone is = let e : length (name ++ l ∷ []) ≡ 0 = ap length (sym is ∙ gone.0) in absurd (omega (arith, length_push name l))
popped (Some b) pushed after name l gone is = popped_some after name l b (sym is ∙ gone)

-- the names of siblings that are left, without and with marks
abbrev pub names_left : List Label → List Node → List (List Label)
names_left name ns = map (λ m. name ++ m) (all_names_of (nodes_of ns))

abbrev pub marked_left : List Label → List Node → List Marks → List (List Label)
marked_left name ns ms = map (λ path. name ++ path) (filter (among ns ms) (all_names_of (nodes_of ns)))

-- at the first of them
pub all_start : (name : List Label) (n : Node) (before full : List (List Label)) → full ≡ before ++ name ∷ [] → full ++ names_left name (children_of n) ≡ before ++ names_from name n
all_start name n before full is =
    ap (λ ms. ms ++ names_left name (children_of n)) is
    ∙ append_assoc before (name ∷ []) (names_left name (children_of n))
    ∙ ap (λ ms. before ++ ms) (sym (names_form name n))

-- from one to the next
pub all_step : (name : List Label) (ns : List Node) (k : ℕ) (c : Node) (before full total : List (List Label)) → k < length ns → c ≡ get_or ns k c → full ≡ before ++ names_from (name ++ label_of c ∷ []) c
    → before ++ names_left name (drop k ns) ≡ total → full ++ names_left name (drop (k + 1) ns) ≡ total
all_step name ns k c before full total within is more so_far =
    ap (λ ms. ms ++ names_left name (drop (k + 1) ns)) more
    ∙ append_assoc before (names_from (name ++ label_of c ∷ []) c) (names_left name (drop (k + 1) ns))
    ∙ ap (λ ms. before ++ ms) (sym (names_first name c (drop (k + 1) ns)) ∙ ap (λ (left : List Node). names_left name left) (sym (in_hand ns k c within is)))
    ∙ so_far

-- and past the last
pub all_end : (name : List Label) (ns : List Node) (k : ℕ) (full total : List (List Label)) → length ns ≤ k → full ++ names_left name (drop k ns) ≡ total → full ≡ total
all_end name ns k full total past so_far =
    sym (append-nil full) ∙ ap (λ (left : List Node). full ++ names_left name left) (sym (nothing_left ns k past)) ∙ so_far

own_first : (name : List Label) (own : Bool) (paths : List (List Label)) → map (λ path. name ++ path) (cond own ([] ∷ paths) paths) ≡ cond own (name ∷ []) [] ++ map (λ path. name ++ path) paths
own_first name true paths = ap (λ m. m ∷ map (λ path. name ++ path) paths) (append-nil name)
own_first name false paths = refl

-- the same with marks
pub marked_start : (name : List Label) (n : Node) (m : Marks) (before full : List (List Label)) → (out-Marks m).whole ≡ false → full ≡ before ++ cond (out-Marks m).own (name ∷ []) []
    → full ++ marked_left name (children_of n) (out-Marks m).children.items ≡ before ++ map (λ path. name ++ path) (filter (marked n m) (paths_of n))
marked_start name n m before full part is =
    let own = (out-Marks m).own in
    let below = all_names_of (nodes_of (children_of n)) in
    let left = marked_left name (children_of n) (out-Marks m).children.items in
    ap (λ ms. ms ++ left) is
    ∙ append_assoc before (cond own (name ∷ []) []) left
    ∙ ap (λ ms. before ++ ms)
    (sym (own_first name own (filter (among (children_of n) (out-Marks m).children.items) below))
    ∙ ap (λ paths. map (λ path. name ++ path) (cond own ([] ∷ paths) paths))
    (sym (filter_labelled (marked n m) (among (children_of n) (out-Marks m).children.items) (λ l path. ap (λ b. b || marked_among (children_of n) (out-Marks m).children.items l path) part) (nodes_of (children_of n))))
    ∙ ap (λ b. map (λ path. name ++ path) (cond b ([] ∷ filter (marked n m) below) (filter (marked n m) below))) (sym (ap (λ b. own || b) part ∙ or_false own)))

pub marked_step : (name : List Label) (ns : List Node) (ms : List Marks) (k : ℕ) (c : Node) (m : Marks) (before full total : List (List Label)) → AreOrdered (nodes_of ns) → k < length ns → k < length ms → c ≡ get_or ns k c → m ≡ get_or ms k m
    → full ≡ before ++ map (λ path. (name ++ label_of c ∷ []) ++ path) (filter (marked c m) (paths_of c)) → before ++ marked_left name (drop k ns) (drop k ms) ≡ total → full ++ marked_left name (drop (k + 1) ns) (drop (k + 1) ms) ≡ total
marked_step name ns ms k c m before full total ordered within also is are more so_far =
    let here = in_hand ns k c within is in
    let marks_here = in_hand ms k m also are in
    let these = map (λ path. (name ++ label_of c ∷ []) ++ path) (filter (marked c m) (paths_of c)) in
    let left = marked_left name (drop (k + 1) ns) (drop (k + 1) ms) in
    ap (λ names. names ++ left) more
    ∙ append_assoc before these left
    ∙ ap (λ names. before ++ names)
    (sym (marked_names_first name c (drop (k + 1) ns) m (drop (k + 1) ms) (subst (λ (rest : List Node). AreOrdered (nodes_of rest)) here (order_left k ns ordered)))
    ∙ ap (λ (rest : List Node). marked_left name rest (m ∷ drop (k + 1) ms)) (sym here)
    ∙ ap (λ (rest : List Marks). marked_left name (drop k ns) rest) (sym marks_here))
    ∙ so_far

pub marked_end : (name : List Label) (ns : List Node) (ms : List Marks) (k : ℕ) (full total : List (List Label)) → k ≡ min (length ns) (length ms) → full ++ marked_left name (drop k ns) (drop k ms) ≡ total → full ≡ total
marked_end name ns ms k full total past so_far =
    sym (append-nil full)
    ∙ ap (λ names. full ++ names) (sym (marked_names_end name (drop k ns) (drop k ms) (omega (arith, length-drop k ns, length-drop k ms))))
    ∙ so_far

-- ---- marks that are set

own_marked : (n : Node) (m new : Marks) → (out-Marks new).own ≡ true → (out-Marks new).whole ≡ (out-Marks m).whole → (out-Marks new).children.items ≡ (out-Marks m).children.items → (path : List Label) → marked n new path ≡ (marked n m path || is_sought Slash [] (place_of path))
own_marked n m new own all below [] = ap (λ b. b || (out-Marks new).whole) own ∙ sym (or_comm ((out-Marks m).own || (out-Marks m).whole) true)
own_marked n m new own all below (l ∷ path) =
    ap (λ b. b || marked_among (children_of n) (out-Marks new).children.items l path) all
    ∙ ap (λ (ms : List Marks). (out-Marks m).whole || marked_among (children_of n) ms l path) below
    ∙ sym (or_false (marked n m (l ∷ path)))

-- the node itself, alone
pub marked_own : (n : Node) (s : Separator) (path : List CodeEdge) (m new : Marks) → s ≡ Slash → length path ≡ 0 → (out-Marks new).own ≡ true → (out-Marks new).whole ≡ (out-Marks m).whole → (out-Marks new).children.items ≡ (out-Marks m).children.items
    → IsMarked n s (place_at path) m new
marked_own n s [] m new is none own all below = subst (λ t. IsMarked n t [] m new) (sym is) (record { each = λ path some. own_marked n m new own all below path })
marked_own n s (e ∷ path) m new is none own all below = absurd (omega arith)

-- with all below it
pub marked_all : (n : Node) (s : Separator) (path : List CodeEdge) (m new : Marks) → s ≡ DoubleSlash → length path ≡ 0 → (out-Marks new).whole ≡ true → IsMarked n s (place_at path) m new
marked_all n s [] m new is none all =
    let so : IsMarked n DoubleSlash [] m new = record { each = λ path some. whole_marked n new all path ∙ sym (or_comm (marked n m path) true) } in
    subst (λ t. IsMarked n t [] m new) (sym is) so
marked_all n s (e ∷ path) m new is none all = absurd (omega arith)

pub not_at_node : (s : Separator) (i : ℕ) (place : Place) (path : List Label) → is_sought s (position i ∷ place) (place_of path) ≡ false
not_at_node Slash i place [] = refl
not_at_node Slash i place (l ∷ path) = refl
not_at_node DoubleSlash i place [] = refl
not_at_node DoubleSlash i place (l ∷ path) = refl

nothing_marked : (b c : Bool) → c ≡ false → b ≡ (b || c)
nothing_marked b c h = sym (ap (λ a. b || a) h ∙ or_false b)

-- no node stands at a position
pub no_node : (n : Node) (s : Separator) (edge : CodeEdge) (path rest : List CodeEdge) (m : Marks) → path ≡ edge ∷ rest → ((at : ℕ) (c : Bor Node) → edge ≡ edges.Node at c → ⊥) → IsMarked n s (place_at path) m m
no_node n s (edges.Position i) path rest m is other =
    record { each = λ names some. nothing_marked _ _ (ap (λ (p : List CodeEdge). is_sought s (place_at p) (place_of names)) is ∙ not_at_node s i (place_at rest) names) }
no_node n s (edges.Node at c) path rest m is other = absurd (other at c refl)

-- a step down the path
pub sought_step : (s : Separator) (e f : Edge) (p q : Place) → is_sought s (e ∷ p) (f ∷ q) ≡ (edge_eq e f && is_sought s p q)
sought_step Slash e f p q = refl
sought_step DoubleSlash e f p q = refl

pub sought_end : (s : Separator) (e : Edge) (p : Place) → is_sought s (e ∷ p) [] ≡ false
sought_end Slash e p = refl
sought_end DoubleSlash e p = refl

other_label : (n : Node) (l k : Label) (path : List Label) (b : Bool) → label_eq l k ≡ b → child_of l (children_of n) ≡ None → IsSome (part_at n (k ∷ path)) → b ≡ false
other_label n l k path true e none some =
    let same : l ≡ k = (label_eq-Decides l k).0 e in
    let bad : IsSome {T = Node} None = subst (λ (o : Option Node). IsSome (option_and_then (λ c. part_at c path) o)) (ap (λ x. child_of x (children_of n)) (sym same) ∙ none) some in
    absurd (cc)
other_label n l k path false e none some = refl

missing : (n : Node) (s : Separator) (l : Label) (place : Place) (m : Marks) → child_of l (children_of n) ≡ None → (path : List Label) → IsSome (part_at n path) → marked n m path ≡ (marked n m path || is_sought s (label l ∷ place) (place_of path))
missing n s l place m none [] some = nothing_marked _ _ (sought_end s (label l) place)
missing n s l place m none (k ∷ path) some =
    nothing_marked _ _ (sought_step s (label l) (label k) place (place_of path) ∙ ap (λ b. b && is_sought s place (place_of path)) (other_label n l k path (label_eq l k) refl none some))

-- none stands at a label that no child has
pub no_child : (n : Node) (s : Separator) (edge : CodeEdge) (l : Label) (path rest : List CodeEdge) (m : Marks) → path ≡ edge ∷ rest → edge_of edge ≡ label l → child_of l (children_of n) ≡ None → IsMarked n s (place_at path) m m
no_child n s edge l path rest m is to none =
    subst (λ (p : Place). IsMarked n s p m m) (sym (ap place_at is ∙ ap (λ e. e ∷ place_at rest) to)) (record { each = missing n s l (place_at rest) m none })

label_or_later : (n c : Node) (l : Label) (o : Option Node) (b : Bool) → label_eq (label_of n) l ≡ b → cond b (Some n) o ≡ Some c → (o ≡ Some c → label_of c ≡ l) → label_of c ≡ l
label_or_later n c l o true e found later =
    let it : n ≡ c = cc in
    ap (λ (m : Node). label_of m) (sym it) ∙ (label_eq-Decides (label_of n) l).0 e
label_or_later n c l o false e found later = later found

-- a child has the label by which it is found
pub child_label : (l : Label) (ns : List Node) (c : Node) → child_of l ns ≡ Some c → label_of c ≡ l
child_label l [] c found = absurd (cc)
child_label l (n ∷ ns) c found = label_or_later n c l (child_of l ns) (label_eq (label_of n) l) refl found (λ h. child_label l ns c h)

below_child : (n c : Node) (l k : Label) (path : List Label) → child_of l (children_of n) ≡ Some c → label_eq (label_of c) k ≡ true → IsSome (part_at n (k ∷ path)) → IsSome (part_at c path)
below_child n c l k path found same some =
    let labels : k ≡ l = sym ((label_eq-Decides (label_of c) k).0 same) ∙ child_label l (children_of n) c found in
    subst (λ (o : Option Node). IsSome (option_and_then (λ d. part_at d path) o)) (ap (λ x. child_of x (children_of n)) labels ∙ found) some

child_marked : (n c : Node) (l : Label) (s : Separator) (place : Place) (old new before sub : Marks) (wide : List Marks) (at : ℕ) → (out-Marks new).own ≡ (out-Marks old).own → (out-Marks new).whole ≡ (out-Marks old).whole
    → (out-Marks new).children.items ≡ set wide at sub → HaveSameMarks wide (out-Marks old).children.items → at < length (children_of n) → at < length wide → before ≡ get_or wide at before → c ≡ get_or (children_of n) at c → child_of l (children_of n) ≡ Some c
    → IsMarked c s place before sub
    → (path : List Label) → IsSome (part_at n path) → marked n new path ≡ (marked n old path || is_sought s (label l ∷ place) (place_of path))
child_marked n c l s place old new before sub wide at own all below same within also was is found deeper [] some =
    ap (λ b. b || (out-Marks new).whole) own ∙ ap (λ b. (out-Marks old).own || b) all ∙ nothing_marked _ _ (sought_end s (label l) place)
child_marked n c l s place old new before sub wide at own all below same within also was is found deeper (k ∷ path) some =
    let ns = children_of n in
    let ms = (out-Marks old).children.items in
    let extra = is_sought s place (place_of path) in
    ap (λ b. b || marked_among ns (out-Marks new).children.items k path) all
    ∙ ap (λ (now : List Marks). (out-Marks old).whole || marked_among ns now k path) below
    ∙ ap (λ b. (out-Marks old).whole || b) (marks_put ns wide at c before sub k path extra within also was is (λ so. deeper.each path (below_child n c l k path found so some)))
    ∙ ap (λ b. (out-Marks old).whole || (b || (label_eq (label_of c) k && extra))) (same ns k path)
    ∙ sym (or_assoc (out-Marks old).whole (marked_among ns ms k path) (label_eq (label_of c) k && extra))
    ∙ ap (λ (x : Label). marked n old (k ∷ path) || (label_eq x k && extra)) (child_label l ns c found)
    ∙ ap (λ b. marked n old (k ∷ path) || b) (sym (sought_step s (label l) (label k) place (place_of path)))

-- below the child with the next label
pub marked_below : (n c : Node) (l : Label) (s : Separator) (edge : CodeEdge) (path rest : List CodeEdge) (old new before sub : Marks) (wide : List Marks) (at : ℕ) → path ≡ edge ∷ rest → edge_of edge ≡ label l
    → (out-Marks new).own ≡ (out-Marks old).own → (out-Marks new).whole ≡ (out-Marks old).whole → (out-Marks new).children.items ≡ set wide at sub → HaveSameMarks wide (out-Marks old).children.items
    → at < length (children_of n) → at < length wide → before ≡ get_or wide at before → c ≡ get_or (children_of n) at c → child_of l (children_of n) ≡ Some c → IsMarked c s (place_at rest) before sub → IsMarked n s (place_at path) old new
marked_below n c l s edge path rest old new before sub wide at is to own all below same within also was here found deeper =
    subst (λ (p : Place). IsMarked n s p old new) (sym (ap place_at is ∙ ap (λ e. e ∷ place_at rest) to))
    (record { each = child_marked n c l s (place_at rest) old new before sub wide at own all below same within also was here found deeper })
