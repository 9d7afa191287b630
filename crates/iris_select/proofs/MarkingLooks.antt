-- The looks of an evaluation, by the nodes that it marked.
use Rattle.std.proofs.Common.{◌≡◌, Bool, true, false, cond, ◌&&◌, ◌||◌, List, [], ◌∷◌, ◌++◌, map, filter, drop, refl, ap, sym, ◌∙◌, subst, append-nil, Option, Some, None, IsSome, option_and_then, slice_get}
use Rattle.std.proofs.Common.{Bor}
use Rattle.std.specs.List.{list_any}
use Rattle.std.specs.Cmp.Lexicographic.{pointwise}
use Rattle.iris_base.specs.declared.name.Label.{Label}
use Rattle.iris_base.specs.NameOrder.{label_eq, labels_equiv}
use Rattle.iris_base.proofs.Labels.{label_eq-Decides}
use Rattle.iris_tree.specs.declared.plain.Plain.{Plain}
use Rattle.iris_tree.specs.declared.plain.Plain.TheViews.{out-Plain}
use Rattle.iris_tree.specs.Universe.{Node, label_of, local_of, children_of, child_of, part_at, node_at, IsOrdered}
use Rattle.iris_tree.specs.Document.{position, label, Place, place_of, name_of, Part, whole, a_node, a_plain, below_plain, below_node, part_at_place, places, names_of}
use Rattle.iris_xpath.specs.Looks.{Looks, ids, full, attribute_looks, is_look, look_at, is_sought, looks_from, is_full_at}
use Rattle.iris_xpath.specs.Places.{edge_eq, place_eq}
use Rattle.iris_xpath.specs.declared.expression.Separator.{Separator}
use Rattle.iris_xpath.specs.declared.expression.Separator.TheVariants.{Slash, DoubleSlash}
use Rattle.iris_xpath.proofs.Below.{begins, first_found, part_node}
use Rattle.iris_xpath.proofs.Names.{has_name, names_are}
use Rattle.iris_xpath.proofs.Passes.{any_alike, any_fails, and_never, or_false, or_comm}
use Rattle.iris_select.specs.declared.evaluator.Evaluator.{Evaluator}
use Rattle.iris_select.specs.declared.spot.Edge.TheVariants as edges
use Rattle.iris_select.specs.declared.spot.Edge.{Edge as CodeEdge}
use Rattle.iris_select.specs.Evaluating.{place_in}
use Rattle.iris_select.specs.Marks.{marked, paths_of, IsMarked, has_look, HasLooked}
use Rattle.iris_select.specs.Parts.{Child, children, places_in, place_at}
use Rattle.iris_select.proofs.Marking.{under_label, filter_alike, filter_map_is, sought_step, sought_end, not_at_node}
use Rattle.iris_select.proofs.Parts.{any_in, at_below}

-- ---- a look at the node of a name

abbrev is_node : Option Part → Bool
is_node None = false
is_node (Some whole) = false
is_node (Some (a_node n)) = true
is_node (Some (a_plain p)) = false

full_look : (name other : List Label) (o : Option Part) → is_look (is_full_at name) full other o ≡ (is_node o && pointwise label_eq name other)
full_look name other None = refl
full_look name other (Some whole) = refl
full_look name other (Some (a_node n)) = refl
full_look name other (Some (a_plain p)) = refl

no_node_then : (f : Plain → Option Part) → ((q : Plain) → is_node (f q) ≡ false) → (o : Option Plain) → is_node (option_and_then f o) ≡ false
no_node_then f h None = refl
no_node_then f h (Some q) = h q

plain_no_node : (place : Place) (q : Plain) → is_node (below_plain q place) ≡ false
plain_no_node [] q = refl
plain_no_node (position i ∷ place) q = no_node_then (λ kid. below_plain kid place) (λ kid. plain_no_node place kid) (slice_get (out-Plain q).kids i)
plain_no_node (label l ∷ place) q = refl

same_label : (b : Bool) (m : Node) (k l : Label) (p : Place) (x y : Bool) → label_eq k l ≡ b → (label_eq k l ≡ true → (is_node (option_and_then (λ c. below_node c p) (child_of l (children_of m))) && x) ≡ y)
    → (is_node (option_and_then (λ c. below_node c p) (child_of l (children_of m))) && (label_eq k l && x)) ≡ (label_eq k l && y)
same_label true m k l p x y e h = ap (λ b. is_node (option_and_then (λ c. below_node c p) (child_of l (children_of m))) && (b && x)) e ∙ h e ∙ sym (ap (λ b. b && y) e)
same_label false m k l p x y e h = ap (λ b. is_node (option_and_then (λ c. below_node c p) (child_of l (children_of m))) && (b && x)) e ∙ and_never _ ∙ sym (ap (λ b. b && y) e)

-- below a node, only the place of the name is one of a node with that name
look_below : (m : Node) (name : List Label) (n : Node) → part_at m name ≡ Some n → (p : Place) → (is_node (below_node m p) && pointwise label_eq name (name_of p)) ≡ place_eq (place_of name) p
look_below m [] n found [] = refl
look_below m [] n found (position i ∷ p) = ap (λ b. b && true) (no_node_then (λ q. below_plain q p) (λ q. plain_no_node p q) (slice_get (local_of m).plain i))
look_below m [] n found (label l ∷ p) = and_never _
look_below m (k ∷ name) n found [] = refl
look_below m (k ∷ name) n found (position i ∷ p) = and_never _
look_below m (k ∷ name) n found (label l ∷ p) =
    same_label (label_eq k l) m k l p (pointwise label_eq name (name_of p)) (place_eq (place_of name) p) refl (λ same.
    let c = first_found (λ child. part_at child name) (child_of k (children_of m)) n found in
    let there : child_of l (children_of m) ≡ Some c.0 = ap (λ x. child_of x (children_of m)) (sym ((label_eq-Decides k l).0 same)) ∙ c.1 in
    ap (λ (o : Option Node). is_node (option_and_then (λ d. below_node d p) o) && pointwise label_eq name (name_of p)) there
    ∙ look_below c.0 name n c.2 p)

-- a node with a name has the document's label first
abbrev pub IsFound : Node → List Label → Node → Type 0
IsFound document name n = node_at document name ≡ Some n

top_found : (b : Bool) (o : Option Node) (n : Node) → cond b o None ≡ Some n → (b ≡ true) × (o ≡ Some n)
top_found true o n h = (refl, h)
top_found false o n h = absurd (cc)

no_name : (document n : Node) (A : Type 0) → node_at document [] ≡ Some n → A
no_name document n A h = absurd (cc)

top_label : (b : Bool) (document : Node) (k l : Label) (p : Place) (x y : Bool) → label_eq k l ≡ b → label_eq (label_of document) k ≡ true → (is_node (below_node document p) && x) ≡ y
    → (is_node (cond (label_eq (label_of document) l) (below_node document p) None) && (label_eq k l && x)) ≡ (label_eq k l && y)
top_label true document k l p x y e top h =
    let same : label_eq (label_of document) l ≡ true = ap (label_eq (label_of document)) (sym ((label_eq-Decides k l).0 e)) ∙ top in
    ap (λ b. is_node (cond b (below_node document p) None) && (label_eq k l && x)) same
    ∙ ap (λ b. is_node (below_node document p) && (b && x)) e ∙ h ∙ sym (ap (λ b. b && y) e)
top_label false document k l p x y e top h =
    ap (λ b. is_node (cond (label_eq (label_of document) l) (below_node document p) None) && (b && x)) e ∙ and_never _ ∙ sym (ap (λ b. b && y) e)

look_is : (document : Node) (name : List Label) (n : Node) → IsFound document name n → (p : Place) → look_at document (is_full_at name) full p ≡ place_eq (place_of name) p
look_is document [] n found p = no_name document n _ found
look_is document (k ∷ name) n found [] = refl
look_is document (k ∷ name) n found (position i ∷ p) = refl
look_is document (k ∷ name) n found (label l ∷ p) =
    let top = top_found (label_eq (label_of document) k) (part_at document name) n found in
    full_look (k ∷ name) (l ∷ name_of p) (part_at_place document (label l ∷ p))
    ∙ top_label (label_eq k l) document k l p (pointwise label_eq name (name_of p)) (place_eq (place_of name) p) refl top.0 (look_below document name n top.1 p)

-- ---- the place of the name, of all places

abbrev is_end : Place → Bool
is_end [] = true
is_end (e ∷ place) = false

ends_there : (p q : Place) → place_eq p q ≡ begins is_end p q
ends_there [] [] = refl
ends_there [] (f ∷ q) = refl
ends_there (e ∷ p) [] = refl
ends_there (e ∷ p) (f ∷ q) = ap (λ b. edge_eq e f && b) (ends_there p q)

and_swap : (a b : Bool) → (a && b) ≡ (b && a)
and_swap true true = refl
and_swap true false = refl
and_swap false true = refl
and_swap false false = refl

at_end : (document n : Node) (w : Place → Bool) → list_any (λ q. is_end q && w q) (places_in document (a_node n)) ≡ w []
at_end document n w =
    any_in document (a_node n) (λ q. is_end q && w q)
    ∙ ap (λ b. w [] || b) (any_fails _ (λ (c : Child). any_fails _ (λ q. refl) (places_in document c.part)) (children document (a_node n)))
    ∙ or_false (w [])

-- the node of a name is looked into where its place is sought
pub looks_sought : (document : Node) (name : List Label) (n : Node) (s : Separator) (above : Place) → IsOrdered document → IsFound document name n → looks_from document (is_full_at name) s full above ≡ is_sought s above (place_of name)
looks_sought document name n s above ordered found =
    any_alike _ _ (λ place. and_swap (is_sought s above place) (look_at document (is_full_at name) full place) ∙ ap (λ b. b && is_sought s above place) (look_is document name n found place ∙ ends_there (place_of name) place)) (places document)
    ∙ at_below document is_end (is_sought s above) whole (place_of name) (a_node n) ordered (part_node document name n found)
    ∙ at_end document n (λ q. is_sought s above (place_of name ++ q))
    ∙ ap (is_sought s above) (append-nil (place_of name))

-- ---- the place in hand

-- from a plain element no node is sought
plain_seeks : (m : Node) (place : Place) (p : Plain) (s : Separator) → below_node m place ≡ Some (a_plain p) → (name : List Label) → is_sought s place (place_of name) ≡ false
plain_seeks m [] p s there name = absurd (cc)
plain_seeks m (position i ∷ place) p s there name = not_at_node s i place name
plain_seeks m (label l ∷ place) p s there [] = sought_end s (label l) place
plain_seeks m (label l ∷ place) p s there (k ∷ name) =
    let c = first_found (λ child. below_node child place) (child_of l (children_of m)) (a_plain p) there in
    sought_step s (label l) (label k) place (place_of name) ∙ ap (λ b. label_eq l k && b) (plain_seeks c.0 place p s c.2 name) ∙ and_never (label_eq l k)

part_found : (b : Bool) (o : Option Part) (x : Part) → cond b o None ≡ Some x → (b ≡ true) × (o ≡ Some x)
part_found true o x h = (refl, h)
part_found false o x h = absurd (cc)

pub seeks_plain : (document : Node) (place : Place) (p : Plain) (s : Separator) → part_at_place document place ≡ Some (a_plain p) → (name : List Label) → is_sought s place (place_of name) ≡ false
seeks_plain document [] p s there name = absurd (cc)
seeks_plain document (position i ∷ place) p s there name = absurd (cc)
seeks_plain document (label l ∷ place) p s there [] = sought_end s (label l) place
seeks_plain document (label l ∷ place) p s there (k ∷ name) =
    let c = part_found (label_eq (label_of document) l) (below_node document place) (a_plain p) there in
    sought_step s (label l) (label k) place (place_of name) ∙ ap (λ b. label_eq l k && b) (plain_seeks document place p s c.1 name) ∙ and_never (label_eq l k)

plain_not_whole : (q : Plain) (place : Place) → below_plain q place ≡ Some whole → ⊥
plain_not_whole q [] there = cc
plain_not_whole q (position i ∷ place) there = let c = first_found (λ kid. below_plain kid place) (slice_get (out-Plain q).kids i) whole there in plain_not_whole c.0 place c.2
plain_not_whole q (label l ∷ place) there = cc

node_not_whole : (m : Node) (place : Place) → below_node m place ≡ Some whole → ⊥
node_not_whole m [] there = cc
node_not_whole m (position i ∷ place) there = let c = first_found (λ q. below_plain q place) (slice_get (local_of m).plain i) whole there in plain_not_whole c.0 place c.2
node_not_whole m (label l ∷ place) there = let c = first_found (λ child. below_node child place) (child_of l (children_of m)) whole there in node_not_whole c.0 place c.2

-- the document stands at its own place alone
pub whole_place : (document : Node) (place : Place) → part_at_place document place ≡ Some whole → place ≡ []
whole_place document [] there = refl
whole_place document (position i ∷ place) there = absurd (cc)
whole_place document (label l ∷ place) there = absurd (node_not_whole document place (part_found (label_eq (label_of document) l) (below_node document place) whole there).1)

top_sought : (document : Node) (l k : Label) (p : Place) (s : Separator) (name : List Label) → label_eq (label_of document) l ≡ true → label_eq (label_of document) k ≡ true → is_sought s (label l ∷ p) (label k ∷ place_of name) ≡ is_sought s p (place_of name)
top_sought document l k p s name first other =
    let same : label_eq l k ≡ true = ap (λ x. label_eq x k) (sym ((label_eq-Decides (label_of document) l).0 first)) ∙ other in
    sought_step s (label l) (label k) p (place_of name) ∙ ap (λ b. b && is_sought s p (place_of name)) same

-- a node is sought from a node as from the top node on
pub sought_below : (document n : Node) (trail : List CodeEdge) (s : Separator) (k : Label) (name : List Label) → part_at_place document (place_at trail) ≡ Some (a_node n) → label_eq (label_of document) k ≡ true
    → is_sought s (place_at trail) (place_of (k ∷ name)) ≡ is_sought s (place_at (drop 1 trail)) (place_of name)
sought_below document n [] s k name there top = absurd (cc)
sought_below document n (edges.Position i ∷ trail) s k name there top = absurd (cc)
sought_below document n (edges.Node at c ∷ trail) s k name there top =
    top_sought document (label_of c.now) k (place_at trail) s name (part_found (label_eq (label_of document) (label_of c.now)) (below_node document (place_at trail)) (a_node n) there).0 top

-- ---- looks

some_found : (b : Bool) (o : Option Node) → IsSome (cond b o None) → (b ≡ true) × IsSome o
some_found true o some = (refl, some)
some_found false o some = absurd (cc)

the_found : (o : Option Node) → IsSome o → (n : Node) × (o ≡ Some n)
the_found None some = absurd (cc)
the_found (Some n) some = (n, refl)

after_top : (b : Bool) (now before looks sought : Bool) → b ≡ true → now ≡ (before || sought) → looks ≡ sought → (b && now) ≡ ((b && before) || looks)
after_top true now before looks sought top is same = is ∙ ap (λ x. before || x) (sym same)
after_top false now before looks sought top is same = absurd (cc)

look_each : (old new : Evaluator) (s : Separator) (path : Place) → new.top ≡ old.top → IsOrdered old.top.now → IsMarked old.top.now s path old.marks new.marks
    → ((l : Label) (name : List Label) → label_eq (label_of old.top.now) l ≡ true → is_sought s (place_in old) (place_of (l ∷ name)) ≡ is_sought s path (place_of name))
    → (name : List Label) → IsSome (node_at old.top.now name) → has_look new name ≡ (has_look old name || looks_from old.top.now (is_full_at name) s full (place_in old))
look_each old new s path same ordered marks sought [] some = absurd (cc)
look_each old new s path same ordered marks sought (l ∷ name) some =
    let there = some_found (label_eq (label_of old.top.now) l) (part_at old.top.now name) some in
    let it = the_found (node_at old.top.now (l ∷ name)) some in
    ap (λ (top : Bor Node). label_eq (label_of top.now) l && marked top.now new.marks name) same
    ∙ after_top (label_eq (label_of old.top.now) l) (marked old.top.now new.marks name) (marked old.top.now old.marks name) (looks_from old.top.now (is_full_at (l ∷ name)) s full (place_in old)) (is_sought s path (place_of name)) there.0
    (marks.each name there.1)
    (looks_sought old.top.now (l ∷ name) it.0 s (place_in old) ordered it.1 ∙ sought l name there.0)

-- what is marked at the end of a path from the top node is looked into
pub look_made : (old new : Evaluator) (s : Separator) (path : Place) → new.top ≡ old.top → IsOrdered old.top.now → IsMarked old.top.now s path old.marks new.marks
    → ((l : Label) (name : List Label) → label_eq (label_of old.top.now) l ≡ true → is_sought s (place_in old) (place_of (l ∷ name)) ≡ is_sought s path (place_of name))
    → HasLooked old new (λ looks. looks_from old.top.now looks s full (place_in old))
look_made old new s path same ordered marks sought = record { each = look_each old new s path same ordered marks sought }

no_look : (e : Evaluator) (s : Separator) → IsOrdered e.top.now → ((l : Label) (name : List Label) → is_sought s (place_in e) (place_of (l ∷ name)) ≡ false)
    → (name : List Label) → IsSome (node_at e.top.now name) → has_look e name ≡ (has_look e name || looks_from e.top.now (is_full_at name) s full (place_in e))
no_look e s ordered none [] some = absurd (cc)
no_look e s ordered none (l ∷ name) some =
    let it = the_found (node_at e.top.now (l ∷ name)) some in
    sym (ap (λ b. has_look e (l ∷ name) || b) (looks_sought e.top.now (l ∷ name) it.0 s (place_in e) ordered it.1 ∙ none l name) ∙ or_false (has_look e (l ∷ name)))

-- nothing is looked into at a plain element
pub look_at_plain : (e : Evaluator) (s : Separator) (p : Plain) → IsOrdered e.top.now → part_at_place e.top.now (place_in e) ≡ Some (a_plain p) → HasLooked e e (λ looks. looks_from e.top.now looks s full (place_in e))
look_at_plain e s p ordered there = record { each = no_look e s ordered (λ l name. seeks_plain e.top.now (place_in e) p s there (l ∷ name)) }

-- nor, without `//`, at the document
pub look_at_document : (e : Evaluator) (s : Separator) → s ≡ Slash → IsOrdered e.top.now → part_at_place e.top.now (place_in e) ≡ Some whole → HasLooked e e (λ looks. looks_from e.top.now looks s full (place_in e))
look_at_document e s is ordered there =
    record { each = no_look e s ordered (λ l name. ap (λ t. is_sought t (place_in e) (place_of (l ∷ name))) is ∙ ap (λ (place : Place). is_sought Slash place (place_of (l ∷ name))) (whole_place e.top.now (place_in e) there)) }

-- with `//` there is no node that is not sought from the document
pub sought_anywhere : (document : Node) (place path : Place) (s : Separator) → s ≡ DoubleSlash → part_at_place document place ≡ Some whole → path ≡ [] → (l : Label) (name : List Label) → is_sought s place (place_of (l ∷ name)) ≡ is_sought s path (place_of name)
sought_anywhere document place path s is there none l name =
    ap (λ t. is_sought t place (place_of (l ∷ name))) is
    ∙ ap (λ (p : Place). is_sought DoubleSlash p (place_of (l ∷ name))) (whole_place document place there)
    ∙ sym (ap (λ (p : Place). is_sought DoubleSlash p (place_of name)) none)
    ∙ sym (ap (λ t. is_sought t path (place_of name)) is)

ids_look : (name other : List Label) (o : Option Part) → is_look (is_full_at name) ids other o ≡ false
ids_look name other None = refl
ids_look name other (Some whole) = refl
ids_look name other (Some (a_node n)) = refl
ids_look name other (Some (a_plain p)) = refl

-- a look at ids is into no node
pub look_at_ids : (e : Evaluator) (s : Separator) → HasLooked e e (λ looks. looks_from e.top.now looks s ids (place_in e))
look_at_ids e s = record {
  each = λ name some.
      sym (ap (λ b. has_look e name || b)
      (any_fails _ (λ place. ap (λ b. is_sought s (place_in e) place && b) (ids_look name (name_of place) (part_at_place e.top.now place)) ∙ and_never (is_sought s (place_in e) place)) (places e.top.now))
      ∙ or_false (has_look e name));
}

-- without a look the attribute `@id` is told
pub look_at_id : (e : Evaluator) (s : Separator) (is_id : Bool) → is_id ≡ true → HasLooked e e (λ looks. attribute_looks e.top.now looks s is_id (place_in e))
look_at_id e Slash is_id is = record { each = λ name some. sym (ap (λ b. has_look e name || attribute_looks e.top.now (is_full_at name) Slash b (place_in e)) is ∙ or_false (has_look e name)) }
look_at_id e DoubleSlash is_id is = subst (λ b. HasLooked e e (λ looks. attribute_looks e.top.now looks DoubleSlash b (place_in e))) (sym is) (look_at_ids e DoubleSlash)

-- ---- names

names_equal : (name : List Label) → pointwise label_eq name name ≡ true
names_equal [] = refl
names_equal (l ∷ name) = ap (λ b. b && pointwise label_eq name name) (labels_equiv.refl l) ∙ names_equal name

filter_among : (t u : List Label → Bool) (names : List (List Label)) → ((name : List Label) → has_name names name ≡ true → t name ≡ u name) → filter t names ≡ filter u names
filter_among t u [] h = refl
filter_among t u (name ∷ names) h =
    ap (λ b. cond b (name ∷ filter t names) (filter t names)) (h name (ap (λ b. b || has_name names name) (names_equal name)))
    ∙ ap (λ ms. cond (u name) (name ∷ ms) ms)
    (filter_among t u names (λ other found. h other (ap (λ b. pointwise label_eq name other || b) found ∙ or_comm (pointwise label_eq name other) true)))

-- the names that an evaluation adds, from its marks, are those of its looks, in the order of names
pub names_looked : (e : Evaluator) (t : List Label → Bool) → IsOrdered e.top.now → ((name : List Label) → IsSome (node_at e.top.now name) → has_look e name ≡ t name)
    → map (λ path. label_of e.top.now ∷ path) (filter (marked e.top.now e.marks) (paths_of e.top.now)) ≡ filter t (names_of e.top.now)
names_looked e t ordered told =
    let l = label_of e.top.now in
    ap (map (λ path. l ∷ path)) (filter_alike (marked e.top.now e.marks) (λ path. has_look e (l ∷ path)) (λ path. sym (ap (λ b. b && marked e.top.now e.marks path) (labels_equiv.refl l))) (paths_of e.top.now))
    ∙ sym (filter_map_is (has_look e) (λ path. l ∷ path) (paths_of e.top.now))
    ∙ ap (filter (has_look e)) (sym (under_label e.top.now))
    ∙ filter_among (has_look e) t (names_of e.top.now) (λ name found. told name (sym (names_are e.top.now name ordered) ∙ found))

-- where nothing is marked nothing was looked into
pub nothing_looked : (e : Evaluator) → ((n : Node) (path : List Label) → marked n e.marks path ≡ false) → (name : List Label) → has_look e name ≡ false
nothing_looked e none [] = refl
nothing_looked e none (l ∷ name) = ap (λ b. label_eq (label_of e.top.now) l && b) (none e.top.now name) ∙ and_never _

-- of an evaluation that began with no marks
pub names_of_looks : (start e : Evaluator) (looks : Looks → Bool) → IsOrdered start.top.now → e.top ≡ start.top → ((n : Node) (path : List Label) → marked n start.marks path ≡ false) → HasLooked start e looks
    → map (λ path. label_of e.top.now ∷ path) (filter (marked e.top.now e.marks) (paths_of e.top.now)) ≡ filter (λ name. looks (is_full_at name)) (names_of e.top.now)
names_of_looks start e looks ordered same none looked =
    names_looked e (λ name. looks (is_full_at name)) (subst (λ (top : Bor Node). IsOrdered top.now) (sym same) ordered)
    (λ name some. looked.each name (subst (λ (top : Bor Node). IsSome (node_at top.now name)) same some) ∙ ap (λ b. b || looks (is_full_at name)) (nothing_looked start none name))
