-- All places below a node, and what of a document lies at or below a place.
use Rattle.std.proofs.Common.{◌≡◌, ℕ, ◌+◌, Bool, true, false, cond, not, ◌&&◌, ◌||◌, List, [], ◌∷◌, ◌++◌, map, refl, ap, sym, ◌∙◌, subst, append-nil, append_assoc, Option, Some, None, option_and_then, slice_get}
use Rattle.std.specs.List.{list_any}
use Rattle.std.specs.Ordering.{is_eq}
use Rattle.std.proofs.lemmas.List.{map-append}
use Rattle.std.proofs.lemmas.List.Folds.{list_any-append}
use Rattle.std.proofs.lemmas.Slice.Eq.{bytes_eq-Decides}
use Rattle.iris_base.specs.declared.name.Label.{Label}
use Rattle.iris_base.specs.NameOrder.{label_eq, labels_equiv, labels_ties}
use Rattle.iris_base.proofs.Labels.{label_eq-Decides}
use Rattle.iris_tree.specs.declared.local.Local.{Local}
use Rattle.iris_tree.specs.declared.plain.Plain.{Plain}
use Rattle.iris_tree.specs.declared.plain.Plain.TheViews.{out-Plain}
use Rattle.iris_tree.specs.declared.plain.Plain.TheFolds.{fold_out-Plain}
use Rattle.iris_tree.specs.Universe.{Node, node, Nodes, no_nodes, nodes, list_of, label_of, local_of, children_of, child_of, part_at, node_at, AllAfter, IsOrdered, AreOrdered}
use Rattle.iris_tree.specs.Document.{Edge, position, label, Place, place_of, a_node, below_plain, below_node, part_at_place, numbered, plain_places, plain_places_step, node_places, all_node_places, places}
use Rattle.iris_xpath.specs.Places.{edge_eq, place_eq, is_above, IsElementPath, element_at, element_paths}
use Rattle.iris_xpath.specs.Meaning.{is_reached}
use Rattle.iris_xpath.specs.declared.expression.Separator.{Separator}
use Rattle.iris_xpath.specs.declared.expression.Separator.TheVariants.{Slash, DoubleSlash}
use Rattle.iris_xpath.proofs.Passes.{any_alike, any_fails, any_map, or_false}

-- ---- places below a node

-- a node's own place, its plain elements and all nodes below it
abbrev pub below : Node → List Place
below (node l local ns) = [] ∷ element_paths local ++ all_node_places ns

-- the places of a node are those below it, under its label
pub node_form : (n : Node) → node_places n ≡ map (λ place. label (label_of n) ∷ place) (below n)
node_form (node l local ns) = refl

-- the one place is at the front of the other, and what follows it there passes the test
abbrev pub begins : (Place → Bool) → Place → Place → Bool
begins test [] place = test place
begins test (e ∷ front) [] = false
begins test (e ∷ front) (f ∷ place) = edge_eq e f && begins test front place

-- whatever the place is
abbrev pub always : Place → Bool
always place = true

-- a place with one edge
abbrev pub is_edge : Place → Bool
is_edge [] = false
is_edge (e ∷ []) = true
is_edge (e ∷ f ∷ place) = false

-- a place with an edge
abbrev pub has_edge : Place → Bool
has_edge [] = false
has_edge (e ∷ place) = true

-- a place below, by a step
abbrev pub goes_down : Separator → Place → Bool
goes_down Slash place = is_edge place
goes_down DoubleSlash place = has_edge place

-- ---- a test of plain elements sees paths that begin with positions

edge_alike : (t u : Place → Bool) (e : Edge) → ((place : Place) → t (e ∷ place) ≡ u (e ∷ place)) → (ps : List Place) → list_any t (map (λ place. e ∷ place) ps) ≡ list_any u (map (λ place. e ∷ place) ps)
edge_alike t u e h [] = refl
edge_alike t u e h (p ∷ ps) = ap (λ b. b || list_any t (map (λ place. e ∷ place) ps)) (h p) ∙ ap (λ b. u (e ∷ p) || b) (edge_alike t u e h ps)

-- the places of a plain element are those below it, under its position
pub plain_form : (p : Plain) (i : ℕ) → plain_places p i ≡ map (λ place. position i ∷ place) ([] ∷ numbered 0 (map plain_places (out-Plain p).kids))
plain_form p i = ap (λ (f : ℕ → List Place). f i) (fold_out-Plain (ℕ → List Place) plain_places_step p)

numbered_alike : (t u : Place → Bool) → ((path : Place) → IsElementPath path → t path ≡ u path) → (ps : List Plain) (i : ℕ) → list_any t (numbered i (map plain_places ps)) ≡ list_any u (numbered i (map plain_places ps))
numbered_alike t u h [] i = refl
numbered_alike t u h (p ∷ ps) i =
    let later = numbered (i + 1) (map plain_places ps) in
    list_any-append t (plain_places p i) later
    ∙ ap (λ (qs : List Place). list_any t qs || list_any t later) (plain_form p i)
    ∙ ap (λ b. b || list_any t later) (edge_alike t u (position i) (λ place. h (position i ∷ place) tt) ([] ∷ numbered 0 (map plain_places (out-Plain p).kids)))
    ∙ ap (λ (qs : List Place). list_any u qs || list_any t later) (sym (plain_form p i))
    ∙ ap (λ b. list_any u (plain_places p i) || b) (numbered_alike t u h ps (i + 1))
    ∙ sym (list_any-append u (plain_places p i) later)

-- tests that agree on paths of plain elements find the same among them
pub elements_alike : (t u : Place → Bool) → ((path : Place) → IsElementPath path → t path ≡ u path) → (local : Local) → list_any t (element_paths local) ≡ list_any u (element_paths local)
elements_alike t u h local = numbered_alike t u h local.plain 0

-- a test that fails on such paths finds nothing among them
pub elements_fail : (t : Place → Bool) → ((path : Place) → IsElementPath path → t path ≡ false) → (local : Local) → list_any t (element_paths local) ≡ false
elements_fail t h local = elements_alike t (λ path. false) h local ∙ any_fails (λ path. false) (λ path. refl) (element_paths local)

-- of nodes, paths that begin with labels
pub nodes_alike : (t u : Place → Bool) → ((l : Label) (path : Place) → t (label l ∷ path) ≡ u (label l ∷ path)) → (ns : Nodes) → list_any t (all_node_places ns) ≡ list_any u (all_node_places ns)
nodes_alike t u h no_nodes = refl
nodes_alike t u h (nodes n ns) =
    list_any-append t (node_places n) (all_node_places ns)
    ∙ ap (λ (qs : List Place). list_any t qs || list_any t (all_node_places ns)) (node_form n)
    ∙ ap (λ b. b || list_any t (all_node_places ns)) (edge_alike t u (label (label_of n)) (λ place. h (label_of n) place) (below n))
    ∙ ap (λ (qs : List Place). list_any u qs || list_any t (all_node_places ns)) (sym (node_form n))
    ∙ ap (λ b. list_any u (node_places n) || b) (nodes_alike t u h ns)
    ∙ sym (list_any-append u (node_places n) (all_node_places ns))

-- a test that fails on them finds nothing among nodes
pub nodes_fail : (t : Place → Bool) → ((l : Label) (path : Place) → t (label l ∷ path) ≡ false) → (ns : Nodes) → list_any t (all_node_places ns) ≡ false
nodes_fail t h ns = nodes_alike t (λ path. false) h ns ∙ any_fails (λ path. false) (λ path. refl) (all_node_places ns)

with_an_edge : (t : Place → Bool) (path : Place) → IsElementPath path → t path ≡ (has_edge path && t path)
with_an_edge t [] h = absurd h
with_an_edge t (e ∷ path) h = refl

-- the node's own place, and those below it
pub first_and_below : (t : Place → Bool) (n : Node) → list_any t (below n) ≡ (t [] || list_any (λ q. has_edge q && t q) (below n))
first_and_below t (node l local ns) =
    ap (λ b. t [] || b)
    (list_any-append t (element_paths local) (all_node_places ns)
    ∙ ap (λ b. b || list_any t (all_node_places ns)) (elements_alike t (λ q. has_edge q && t q) (with_an_edge t) local)
    ∙ ap (λ b. list_any (λ q. has_edge q && t q) (element_paths local) || b) (nodes_alike t (λ q. has_edge q && t q) (λ m path. refl) ns)
    ∙ sym (list_any-append (λ q. has_edge q && t q) (element_paths local) (all_node_places ns)))

-- ---- a place at the front of another

-- an edge is itself
pub edge_itself : (e : Edge) → edge_eq e e ≡ true
edge_itself (position i) = (bytes_eq-Decides (i ∷ []) (i ∷ [])).1 refl
edge_itself (label l) = labels_equiv.refl l

above_not_same : (b c d : Bool) → ((b && c) && not (b && d)) ≡ (b && (c && not d))
above_not_same true c d = refl
above_not_same false c d = refl

-- a step goes to the places that go on from one, by an edge or by some
pub reached_begins : (s : Separator) (above place : Place) → is_reached s above place ≡ begins (goes_down s) above place
reached_begins Slash [] [] = refl
reached_begins Slash [] (f ∷ []) = refl
reached_begins Slash [] (f ∷ g ∷ place) = refl
reached_begins Slash (e ∷ above) [] = refl
reached_begins Slash (e ∷ above) (f ∷ place) = ap (λ b. edge_eq e f && b) (reached_begins Slash above place)
reached_begins DoubleSlash [] [] = refl
reached_begins DoubleSlash [] (f ∷ place) = refl
reached_begins DoubleSlash (e ∷ above) [] = refl
reached_begins DoubleSlash (e ∷ above) (f ∷ place) =
    above_not_same (edge_eq e f) (is_above above place) (place_eq above place) ∙ ap (λ b. edge_eq e f && b) (reached_begins DoubleSlash above place)

-- what is at or below a place begins with it
pub above_begins : (above place : Place) → is_above above place ≡ begins always above place
above_begins [] place = refl
above_begins (e ∷ above) [] = refl
above_begins (e ∷ above) (f ∷ place) = ap (λ b. edge_eq e f && b) (above_begins above place)

-- in two parts
pub begins_twice : (t : Place → Bool) (front more place : Place) → begins t (front ++ more) place ≡ begins (begins t more) front place
begins_twice t [] more place = refl
begins_twice t (e ∷ front) more [] = refl
begins_twice t (e ∷ front) more (f ∷ place) = ap (λ b. edge_eq e f && b) (begins_twice t front more place)

-- ---- what lies below an edge

under : (t test : Place → Bool) (e : Edge) (front : Place) (ps : List Place) → list_any (λ q. begins t (e ∷ front) q && test q) (map (λ p. e ∷ p) ps) ≡ list_any (λ p. begins t front p && test (e ∷ p)) ps
under t test e front ps =
    any_map (λ q. begins t (e ∷ front) q && test q) (λ p. e ∷ p) ps ∙ any_alike _ _ (λ p. ap (λ b. (b && begins t front p) && test (e ∷ p)) (edge_itself e)) ps

not_under : (t test : Place → Bool) (e f : Edge) (front : Place) (ps : List Place) → edge_eq e f ≡ false → list_any (λ q. begins t (e ∷ front) q && test q) (map (λ p. f ∷ p) ps) ≡ false
not_under t test e f front ps h =
    any_map (λ q. begins t (e ∷ front) q && test q) (λ p. f ∷ p) ps ∙ any_fails _ (λ p. ap (λ b. (b && begins t front p) && test (f ∷ p)) h) ps

not_later : (t test : Place → Bool) (l : Label) (front : Place) (ns : Nodes) → AllAfter l ns → list_any (λ q. begins t (label l ∷ front) q && test q) (all_node_places ns) ≡ false
not_later t test l front no_nodes h = refl
not_later t test l front (nodes n ns) h =
    let passes = λ (q : Place). begins t (label l ∷ front) q && test q in
    list_any-append passes (node_places n) (all_node_places ns)
    ∙ ap (λ (qs : List Place). list_any passes qs || list_any passes (all_node_places ns)) (node_form n)
    ∙ ap (λ b. b || list_any passes (all_node_places ns)) (not_under t test (label l) (label (label_of n)) front (below n) (labels_ties l (label_of n) ∙ ap is_eq h.0))
    ∙ not_later t test l front ns h.1

first_or_later : (t test : Place → Bool) (front : Place) (n : Node) (ns : Nodes) (l : Label) (c : Node) (b : Bool) → label_eq (label_of n) l ≡ b → AllAfter (label_of n) ns → cond b (Some n) (child_of l (list_of ns)) ≡ Some c
    → (child_of l (list_of ns) ≡ Some c → list_any (λ q. begins t (label l ∷ front) q && test q) (all_node_places ns) ≡ list_any (λ p. begins t front p && test (label l ∷ p)) (below c))
    → list_any (λ q. begins t (label l ∷ front) q && test q) (node_places n ++ all_node_places ns) ≡ list_any (λ p. begins t front p && test (label l ∷ p)) (below c)
first_or_later t test front n ns l c true e after found later =
    let same : label_of n ≡ l = (label_eq-Decides (label_of n) l).0 e in
    let it : n ≡ c = cc in
    let passes = λ (q : Place). begins t (label l ∷ front) q && test q in
    list_any-append passes (node_places n) (all_node_places ns)
    ∙ ap (λ b. list_any passes (node_places n) || b) (not_later t test l front ns (subst (λ (m : Label). AllAfter m ns) same after))
    ∙ or_false (list_any passes (node_places n))
    ∙ ap (list_any passes) (node_form n)
    ∙ ap (λ (m : Label). list_any passes (map (λ p. label m ∷ p) (below n))) same
    ∙ under t test (label l) front (below n)
    ∙ ap (λ (m : Node). list_any (λ p. begins t front p && test (label l ∷ p)) (below m)) it
first_or_later t test front n ns l c false e after found later =
    let passes = λ (q : Place). begins t (label l ∷ front) q && test q in
    list_any-append passes (node_places n) (all_node_places ns)
    ∙ ap (λ (qs : List Place). list_any passes qs || list_any passes (all_node_places ns)) (node_form n)
    ∙ ap (λ b. b || list_any passes (all_node_places ns)) (not_under t test (label l) (label (label_of n)) front (below n) (labels_equiv.symm l (label_of n) ∙ e))
    ∙ later found

-- below the one of these nodes with that label
among_nodes : (t test : Place → Bool) (front : Place) (ns : Nodes) (l : Label) (c : Node) → AreOrdered ns → child_of l (list_of ns) ≡ Some c
    → list_any (λ q. begins t (label l ∷ front) q && test q) (all_node_places ns) ≡ list_any (λ p. begins t front p && test (label l ∷ p)) (below c)
among_nodes t test front no_nodes l c ordered found = absurd (cc)
among_nodes t test front (nodes n ns) l c ordered found =
    first_or_later t test front n ns l c (label_eq (label_of n) l) refl ordered.1 found (λ h. among_nodes t test front ns l c ordered.2 h)

no_element : (t test : Place → Bool) (l : Label) (front path : Place) → IsElementPath path → (begins t (label l ∷ front) path && test path) ≡ false
no_element t test l front [] h = absurd h
no_element t test l front (position i ∷ path) h = refl
no_element t test l front (label m ∷ path) h = absurd h

below_child : (t test : Place → Bool) (l : Label) (front : Place) (n c : Node) → IsOrdered n → child_of l (children_of n) ≡ Some c
    → list_any (λ q. begins t (label l ∷ front) q && test q) (below n) ≡ list_any (λ p. begins t front p && test (label l ∷ p)) (below c)
below_child t test l front (node m local ns) c ordered found =
    let passes = λ (q : Place). begins t (label l ∷ front) q && test q in
    list_any-append passes (element_paths local) (all_node_places ns)
    ∙ ap (λ b. b || list_any passes (all_node_places ns)) (elements_fail passes (no_element t test l front) local)
    ∙ among_nodes t test front ns l c ordered found

-- what is so of this one, and of what is found later, is so of what is found
one_or_later : (P : Node → Type 0) (b : Bool) (n : Node) (o : Option Node) (c : Node) → cond b (Some n) o ≡ Some c → P n → (o ≡ Some c → P c) → P c
one_or_later P true n o c found here later = let it : n ≡ c = cc in subst P it here
one_or_later P false n o c found here later = later found

child_ordered : (ns : Nodes) (l : Label) (c : Node) → AreOrdered ns → child_of l (list_of ns) ≡ Some c → IsOrdered c
child_ordered no_nodes l c ordered found = absurd (cc)
child_ordered (nodes n ns) l c ordered found = one_or_later (λ m. IsOrdered m) (label_eq (label_of n) l) n (child_of l (list_of ns)) c found ordered.0 (λ h. child_ordered ns l c ordered.2 h)

child_in_order : (n : Node) (l : Label) (c : Node) → IsOrdered n → child_of l (children_of n) ≡ Some c → IsOrdered c
child_in_order (node m local ns) l c ordered found = child_ordered ns l c ordered found

-- the first of two look-ups that find something finds something
pub first_found : {A B : Type 0} (f : A → Option B) (o : Option A) (b : B) → option_and_then f o ≡ Some b → (a : A) × (o ≡ Some a) × (f a ≡ Some b)
first_found f None b h = absurd (cc)
first_found f (Some a) b h = (a, refl, h)

-- at or below a node, by the labels that lead to it
below_labels : (t test : Place → Bool) (n : Node) (name : List Label) (m : Node) → IsOrdered n → part_at n name ≡ Some m
    → list_any (λ q. begins t (place_of name) q && test q) (below n) ≡ list_any (λ q. t q && test (place_of name ++ q)) (below m)
below_labels t test n [] m ordered found = let it : n ≡ m = cc in ap (λ (k : Node). list_any (λ q. t q && test q) (below k)) it
below_labels t test n (l ∷ name) m ordered found =
    let c = first_found (λ child. part_at child name) (child_of l (children_of n)) m found in
    below_child t test l (place_of name) n c.0 ordered c.1
    ∙ below_labels t (λ p. test (label l ∷ p)) c.0 name m (child_in_order n l c.0 ordered c.1) c.2

-- ---- nodes at their names

-- a node that is found is found below the top node
pub top_found : (document : Node) (b : Bool) (name : List Label) (n : Node) → cond b (part_at document name) None ≡ Some n → (b ≡ true) × (part_at document name ≡ Some n)
top_found document true name n h = (refl, h)
top_found document false name n h = absurd (cc)

-- of all places of a document, those at or below the node at a name
pub below_name : (t test : Place → Bool) (document : Node) (name : List Label) (n : Node) → IsOrdered document → node_at document name ≡ Some n
    → list_any (λ q. begins t (place_of name) q && test q) (places document) ≡ list_any (λ q. t q && test (place_of name ++ q)) (below n)
below_name t test document [] n ordered found = absurd (cc)
below_name t test document (l ∷ name) n ordered found =
    let top = top_found document (label_eq (label_of document) l) name n found in
    let passes = λ (q : Place). begins t (label l ∷ place_of name) q && test q in
    ap (list_any passes) (node_form document)
    ∙ ap (λ (m : Label). list_any passes (map (λ p. label m ∷ p) (below document))) ((label_eq-Decides (label_of document) l).0 top.0)
    ∙ under t test (label l) (place_of name) (below document)
    ∙ below_labels t (λ p. test (label l ∷ p)) document name n ordered top.1

-- ---- what stands at a place

below_part : (n : Node) (name : List Label) (m : Node) (q : Place) → part_at n name ≡ Some m → below_node n (place_of name ++ q) ≡ below_node m q
below_part n [] m q found = let it : n ≡ m = cc in ap (λ (k : Node). below_node k q) it
below_part n (l ∷ name) m q found =
    let c = first_found (λ child. part_at child name) (child_of l (children_of n)) m found in
    ap (λ (o : Option Node). option_and_then (λ child. below_node child (place_of name ++ q)) o) c.1 ∙ below_part c.0 name m q c.2

-- what stands below a node's place
pub part_below : (document : Node) (name : List Label) (n : Node) (q : Place) → node_at document name ≡ Some n → part_at_place document (place_of name ++ q) ≡ below_node n q
part_below document [] n q found = absurd (cc)
part_below document (l ∷ name) n q found =
    let top = top_found document (label_eq (label_of document) l) name n found in
    ap (λ b. cond b (below_node document (place_of name ++ q)) None) top.0 ∙ below_part document name n q top.1

-- a node stands at the place of its name
pub part_node : (document : Node) (name : List Label) (n : Node) → node_at document name ≡ Some n → part_at_place document (place_of name) ≡ Some (a_node n)
part_node document name n found = ap (part_at_place document) (sym (append-nil (place_of name))) ∙ part_below document name n [] found

below_element : (n : Node) (path : Place) → IsElementPath path → below_node n path ≡ element_at (local_of n) path
below_element n [] h = absurd h
below_element n (position i ∷ path) h = refl
below_element n (label l ∷ path) h = absurd h

-- a plain element of a node stands at its path below the node's place
pub part_element : (document : Node) (name : List Label) (n : Node) (path : Place) → node_at document name ≡ Some n → IsElementPath path → part_at_place document (place_of name ++ path) ≡ element_at (local_of n) path
part_element document name n path found h = part_below document name n path found ∙ below_element n path h

-- what stands below one of some plain elements is no node, where that is so of each
pub kid_part : (path : Place) (o : Option Plain) (m : Node) → ((kid : Plain) → below_plain kid path ≡ Some (a_node m) → ⊥) → option_and_then (λ kid. below_plain kid path) o ≡ Some (a_node m) → ⊥
kid_part path None m h e = cc
kid_part path (Some kid) m h e = h kid e

-- a plain element is no node, nor is anything below it
pub plain_part : (p : Plain) (path : Place) (m : Node) → below_plain p path ≡ Some (a_node m) → ⊥
plain_part p [] m e = cc
plain_part p (position i ∷ path) m e = kid_part path (slice_get (out-Plain p).kids i) m (λ kid h. plain_part kid path m h) e
plain_part p (label l ∷ path) m e = cc

-- no plain element of a node is a node
pub never_a_node : (m n : Node) (path : Place) → IsElementPath path → Some (a_node m) ≡ element_at (local_of n) path → ⊥
never_a_node m n [] is e = is
never_a_node m n (position i ∷ path) is e = kid_part path (slice_get (local_of n).plain i) m (λ p h. plain_part p path m h) (sym e)
never_a_node m n (label l ∷ path) is e = is

-- one label more
pub one_label_more : (name : List Label) (l : Label) (q : Place) → place_of (name ++ l ∷ []) ++ q ≡ place_of name ++ label l ∷ q
one_label_more name l q = ap (λ (p : Place). p ++ q) (map-append label name (l ∷ [])) ∙ append_assoc (place_of name) (label l ∷ []) q
