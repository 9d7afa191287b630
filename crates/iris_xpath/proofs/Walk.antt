-- The walk finds what the query means, in a document in order.
use Rattle.std.proofs.Common.{◌≡◌, ℕ, Bool, true, false, cond, ◌&&◌, ◌||◌, List, [], ◌∷◌, ◌++◌, map, filter, refl, ap, sym, ◌∙◌, append_assoc, Option, Some, None, option_and_then, slice_get, ◌+◌}
use Rattle.std.specs.Ordering.{is_eq}
use Rattle.std.specs.declared.cmp.Ordering.TheVariants.{Less}
use Rattle.std.proofs.lemmas.List.{map-append}
use Rattle.std.proofs.lemmas.List.Elements.{filter-append}
use Rattle.iris_base.specs.declared.name.Label.{Label}
use Rattle.iris_base.specs.NameOrder.{label_eq, label_cmp, labels_equiv, labels_ties}
use Rattle.iris_tree.specs.declared.local.Local.{Local}
use Rattle.iris_tree.specs.declared.plain.Plain.{Plain}
use Rattle.iris_tree.specs.declared.plain.Plain.TheViews.{out-Plain}
use Rattle.iris_tree.specs.Universe.{Node, node, Nodes, no_nodes, nodes, list_of, label_of, child_of, AllAfter, IsOrdered, AreOrdered}
use Rattle.iris_tree.specs.Document.{Edge, position, label, Place, place_of, a_node, below_node, part_at_place, numbered, plain_places, node_places, all_node_places, names_of, all_names_of}
use Rattle.iris_xpath.specs.Syntax.{Syntax}
use Rattle.iris_xpath.specs.Meaning as tree
use Rattle.iris_xpath.specs.Thin.{Main}
use Rattle.iris_xpath.specs.ThinQuery.{is_thin, thin_of}
use Rattle.iris_xpath.specs.ThinMeaning.{fits, tested_with_a_look, selected, full_names}
use Rattle.iris_xpath.proofs.Below.{is_edge, plain_form}
use Rattle.iris_xpath.proofs.SelectedPlaces.{Parts, is_end, reached, looked, plain_never, selected_is, full_names_are}
use Rattle.iris_xpath.proofs.ThinQuery.{selected_thin}
use Rattle.iris_xpath.specs.Walk.{led_to, all_led_to, looked_at, all_looked_at}

-- ---- lists

map_same : {A B : Type 0} (f g : A → B) → ((x : A) → f x ≡ g x) → (xs : List A) → map f xs ≡ map g xs
map_same f g h [] = refl
map_same f g h (x ∷ xs) = ap (λ y. y ∷ map f xs) (h x) ∙ ap (λ ys. g x ∷ ys) (map_same f g h xs)

map_map : {A B C : Type 0} (f : B → C) (g : A → B) (xs : List A) → map f (map g xs) ≡ map (λ x. f (g x)) xs
map_map f g [] = refl
map_map f g (x ∷ xs) = ap (λ ys. f (g x) ∷ ys) (map_map f g xs)

map_cond : {A B : Type 0} (f : A → B) (b : Bool) (x : A) (xs ys : List A) → map f xs ≡ map f ys → map f (cond b (x ∷ xs) xs) ≡ cond b (f x ∷ map f ys) (map f ys)
map_cond f true x xs ys h = ap (λ zs. f x ∷ zs) h
map_cond f false x xs ys h = h

filter_map_same : {A B : Type 0} (t : B → Bool) (f : A → B) (xs : List A) → filter t (map f xs) ≡ map f (filter (λ x. t (f x)) xs)
filter_map_same t f [] = refl
filter_map_same t f (x ∷ xs) = ap (λ ys. cond (t (f x)) (f x ∷ ys) ys) (filter_map_same t f xs) ∙ sym (map_cond f (t (f x)) x _ _ refl)

filter_none : {A : Type 0} (xs : List A) → filter (λ x. false) xs ≡ []
filter_none [] = refl
filter_none (x ∷ xs) = filter_none xs

filter_and : {A : Type 0} (b : Bool) (t : A → Bool) (xs : List A) → filter (λ x. b && t x) xs ≡ cond b (filter t xs) []
filter_and true t xs = refl
filter_and false t xs = filter_none xs

-- ---- places of plain elements

filter_plain : (t : Place → Bool) (i : ℕ) → ((place : Place) → t (position i ∷ place) ≡ false) → (ps : List Place) → filter t (map (λ place. position i ∷ place) ps) ≡ []
filter_plain t i h [] = refl
filter_plain t i h (p ∷ ps) = rw (h p) (filter_plain t i h ps)

-- a test that fails below each position fails at all plain elements
no_plain : (t : Place → Bool) → ((i : ℕ) (place : Place) → t (position i ∷ place) ≡ false) → (ps : List Plain) (i : ℕ) → filter t (numbered i (map plain_places ps)) ≡ []
no_plain t h [] i = refl
no_plain t h (p ∷ ps) i =
    filter-append t (plain_places p i) (numbered (i + 1) (map plain_places ps)) ∙ ap (λ (qs : List Place). filter t qs ++ filter t (numbered (i + 1) (map plain_places ps))) (plain_form p i)
    ∙ ap (λ (qs : List Place). qs ++ filter t (numbered (i + 1) (map plain_places ps))) (filter_plain t i (h i) ([] ∷ numbered 0 (map plain_places (out-Plain p).kids))) ∙ no_plain t h ps (i + 1)

-- ---- the child of a label is that child

found_again : (x y : Label) (n : Node) (o : Option Node) → label_cmp x y ≡ Less → cond (label_eq x y) (Some n) o ≡ o
found_again x y n o h = rw (labels_ties x y ∙ ap is_eq h) refl

-- the label of each of these leads to it among those
abbrev pub Finds : List Node → Nodes → Type 0
Finds ms no_nodes = Unit {0}
Finds ms (nodes n ns) = (child_of (label_of n) ms ≡ Some n) × Finds ms ns

finds_later : (n : Node) (ms : List Node) (ns : Nodes) → AllAfter (label_of n) ns → Finds ms ns → Finds (n ∷ ms) ns
finds_later n ms no_nodes after h = tt
finds_later n ms (nodes k ks) after h = (found_again (label_of n) (label_of k) n (child_of (label_of k) ms) after.0 ∙ h.0, finds_later n ms ks after.1 h.1)

-- the children of a node in order are found by their labels
pub finds_all : (ns : Nodes) → AreOrdered ns → Finds (list_of ns) ns
finds_all no_nodes ordered = tt
finds_all (nodes n ns) ordered = (rw (labels_equiv.refl (label_of n)) refl, finds_later n (list_of ns) ns ordered.1 (finds_all ns ordered.2))

-- below the label of each of these stands what stands below it
abbrev Sees : Parts → Nodes → Type 0
Sees at no_nodes = Unit {0}
Sees at (nodes n ns) = ((λ place. at (label (label_of n) ∷ place)) ≡ below_node n) × Sees at ns

sees_found : (l : Label) (local : Local) (below ns : Nodes) → Finds (list_of below) ns → Sees (below_node (node l local below)) ns
sees_found l local below no_nodes h = tt
sees_found l local below (nodes n ns) h = (ap (λ (o : Option Node). λ place. option_and_then (λ c. below_node c place) o) h.0, sees_found l local below ns h.1)

sees_children : (l : Label) (local : Local) (below : Nodes) → AreOrdered below → Sees (below_node (node l local below)) below
sees_children l local below ordered = sees_found l local below below (finds_all below ordered)

sees_top : (n : Node) → (λ (place : Place). part_at_place n (label (label_of n) ∷ place)) ≡ below_node n
sees_top n = ap (λ (b : Bool). λ (place : Place). cond b (below_node n place) None) (labels_equiv.refl (label_of n))

-- ---- the places

under_name : (above : List Label) (l : Label) (ps : List Place) → map (λ place. place_of (above ++ l ∷ []) ++ place) ps ≡ map (λ place. place_of above ++ place) (map (λ place. label l ∷ place) ps)
under_name above l ps =
    map_same _ _ (λ (place : Place). ap (λ (p : Place). p ++ place) (map-append label above (l ∷ [])) ∙ append_assoc (place_of above) (label l ∷ []) place) ps
    ∙ sym (map_map (λ place. place_of above ++ place) (λ place. label l ∷ place) ps)

-- of a node and all below it, those to which steps lead
at_node : (n : Node) (at : Parts) → (λ place. at (label (label_of n) ∷ place)) ≡ below_node n → (s : Main) (ss : List Main) (ps : List Place)
    → filter (reached at (s ∷ ss)) (map (λ place. label (label_of n) ∷ place) ps) ≡ map (λ place. label (label_of n) ∷ place) (cond (fits (Some (a_node n)) s) (filter (reached (below_node n) ss) ps) [])
at_node n at same s ss ps =
    filter_map_same (reached at (s ∷ ss)) (λ place. label (label_of n) ∷ place) ps
    ∙ ap (λ (a : Parts). map (λ place. label (label_of n) ∷ place) (filter (λ place. fits (a []) s && reached a ss place) ps)) same
    ∙ ap (map (λ place. label (label_of n) ∷ place)) (filter_and (fits (Some (a_node n)) s) (reached (below_node n) ss) ps)

no_end : (e : Edge) (ps : List Place) → filter is_end (map (λ place. e ∷ place) ps) ≡ []
no_end e [] = refl
no_end e (p ∷ ps) = no_end e ps

no_end_at : (n : Node) → filter is_end (node_places n) ≡ []
no_end_at (node l local below) = no_end (label l) ([] ∷ numbered 0 (map plain_places local.plain) ++ all_node_places below)

no_end_in : (ns : Nodes) → filter is_end (all_node_places ns) ≡ []
no_end_in no_nodes = refl
no_end_in (nodes n ns) = filter-append is_end (node_places n) (all_node_places ns) ∙ rw (no_end_at n) (no_end_in ns)

last_step : (local : Local) (below : Nodes) → filter is_end ([] ∷ numbered 0 (map plain_places local.plain) ++ all_node_places below) ≡ [] ∷ []
last_step local below =
    ap (λ (ps : List Place). [] ∷ ps)
    (filter-append is_end (numbered 0 (map plain_places local.plain)) (all_node_places below) ∙ rw (no_plain is_end (λ i place. refl) local.plain 0) (no_end_in below))

further_step : (l : Label) (local : Local) (below : Nodes) (t : Main) (ts : List Main)
    → filter (reached (below_node (node l local below)) (t ∷ ts)) ([] ∷ numbered 0 (map plain_places local.plain) ++ all_node_places below) ≡ filter (reached (below_node (node l local below)) (t ∷ ts)) (all_node_places below)
further_step l local below t ts =
    let at = below_node (node l local below) in
    filter-append (reached at (t ∷ ts)) (numbered 0 (map plain_places local.plain)) (all_node_places below)
    ∙ ap (λ (ps : List Place). ps ++ filter (reached at (t ∷ ts)) (all_node_places below))
    (no_plain (reached at (t ∷ ts)) (λ i place. ap (λ b. b && reached (λ p. at (position i ∷ p)) ts place) (plain_never (slice_get local.plain i) t)) local.plain 0)

one_found : (b : Bool) (above : List Label) (l : Label) → map place_of (cond b ((above ++ l ∷ []) ∷ []) []) ≡ map (λ place. place_of above ++ place) (map (λ place. label l ∷ place) (cond b ([] ∷ []) []))
one_found true above l = ap (λ (p : Place). p ∷ []) (map-append label above (l ∷ []))
one_found false above l = refl

more_found : (b : Bool) (above : List Label) (l : Label) (names : List (List Label)) (ps : List Place) → map place_of names ≡ map (λ place. place_of (above ++ l ∷ []) ++ place) ps
    → map place_of (cond b names []) ≡ map (λ place. place_of above ++ place) (map (λ place. label l ∷ place) (cond b ps []))
more_found true above l names ps h = h ∙ under_name above l ps
more_found false above l names ps h = refl

mutual
  led_node : (above : List Label) (n : Node) → IsOrdered n → (at : Parts) → (λ place. at (label (label_of n) ∷ place)) ≡ below_node n → (s : Main) (ss : List Main)
      → map place_of (led_to above n s ss) ≡ map (λ place. place_of above ++ place) (filter (reached at (s ∷ ss)) (node_places n))
  led_node above (node l local below) ordered at same s [] =
      let n = node l local below in
      one_found (fits (Some (a_node n)) s) above l
      ∙ sym (ap (map (λ place. place_of above ++ place)) (at_node n at same s [] ([] ∷ numbered 0 (map plain_places local.plain) ++ all_node_places below)
      ∙ ap (λ (ps : List Place). map (λ place. label l ∷ place) (cond (fits (Some (a_node n)) s) ps [])) (last_step local below)))
  led_node above (node l local below) ordered at same s (t ∷ ts) =
      let n = node l local below in
      more_found (fits (Some (a_node n)) s) above l _ _ (led_nodes (above ++ l ∷ []) below ordered (below_node n) (sees_children l local below ordered) t ts)
      ∙ sym (ap (map (λ place. place_of above ++ place)) (at_node n at same s (t ∷ ts) ([] ∷ numbered 0 (map plain_places local.plain) ++ all_node_places below)
      ∙ ap (λ (ps : List Place). map (λ place. label l ∷ place) (cond (fits (Some (a_node n)) s) ps [])) (further_step l local below t ts)))

  led_nodes : (above : List Label) (ns : Nodes) → AreOrdered ns → (at : Parts) → Sees at ns → (s : Main) (ss : List Main)
      → map place_of (all_led_to above ns s ss) ≡ map (λ place. place_of above ++ place) (filter (reached at (s ∷ ss)) (all_node_places ns))
  led_nodes above no_nodes ordered at sees s ss = refl
  led_nodes above (nodes n ns) ordered at sees s ss =
      map-append place_of (led_to above n s ss) (all_led_to above ns s ss)
      ∙ ap (λ (ps : List Place). ps ++ map place_of (all_led_to above ns s ss)) (led_node above n ordered.0 at sees.0 s ss)
      ∙ ap (λ (ps : List Place). map (λ place. place_of above ++ place) (filter (reached at (s ∷ ss)) (node_places n)) ++ ps) (led_nodes above ns ordered.2 at sees.1 s ss)
      ∙ sym (ap (map (λ place. place_of above ++ place)) (filter-append (reached at (s ∷ ss)) (node_places n) (all_node_places ns))
      ∙ map-append (λ place. place_of above ++ place) (filter (reached at (s ∷ ss)) (node_places n)) (filter (reached at (s ∷ ss)) (all_node_places ns)))

map_id : {A : Type 0} (xs : List (List A)) → map (λ x. [] ++ x) xs ≡ xs
map_id [] = refl
map_id (x ∷ xs) = ap (λ ys. x ∷ ys) (map_id xs)

-- the walk finds the selected places
pub led_is : (document : Node) → IsOrdered document → (s : Main) (ss : List Main) → map place_of (led_to [] document s ss) ≡ selected document (s ∷ ss)
led_is document ordered s ss =
    led_node [] document ordered (part_at_place document) (sees_top document) s ss ∙ map_id _ ∙ sym (selected_is document (s ∷ ss))

-- the places that an evaluation found from the document on
pub places_found : (document : Node) (query : Syntax) (s : Main) (ss : List Main) (above : List Label) (new old : List Place) → IsOrdered document → is_thin query ≡ true → thin_of query ≡ s ∷ ss → above ≡ [] → old ≡ []
    → new ≡ old ++ map place_of (led_to above document s ss) → new ≡ tree.selected document query
places_found document query s ss above new old ordered thin is top start h =
    h ∙ ap (λ (ps : List Place). ps ++ map place_of (led_to above document s ss)) start ∙ ap (λ (a : List Label). map place_of (led_to a document s ss)) top ∙ led_is document ordered s ss
    ∙ ap (selected document) (sym is) ∙ sym (selected_thin document query thin)

-- ---- the names

-- names below a child
pub under_names : (above : List Label) (l : Label) (ms : List (List Label)) → map (λ m. (above ++ l ∷ []) ++ m) ms ≡ map (λ m. above ++ m) (map (λ m. l ∷ m) ms)
under_names above l ms = map_same _ _ (λ (m : List Label). append_assoc above (l ∷ []) m) ms ∙ sym (map_map (λ m. above ++ m) (λ m. l ∷ m) ms)

-- the names below a node have a label
named_at : (t u : List Label → Bool) → ((x : Label) (m : List Label) → t (x ∷ m) ≡ u (x ∷ m)) → (l : Label) (ms : List (List Label)) → filter t (map (λ m. l ∷ m) ms) ≡ filter u (map (λ m. l ∷ m) ms)
named_at t u h l [] = refl
named_at t u h l (m ∷ ms) = ap (λ b. cond b ((l ∷ m) ∷ filter t (map (λ m. l ∷ m) ms)) (filter t (map (λ m. l ∷ m) ms))) (h l m) ∙ ap (λ ys. cond (u (l ∷ m)) ((l ∷ m) ∷ ys) ys) (named_at t u h l ms)

named_node : (t u : List Label → Bool) → ((x : Label) (m : List Label) → t (x ∷ m) ≡ u (x ∷ m)) → (n : Node) → filter t (names_of n) ≡ filter u (names_of n)
named_node t u h (node l local below) = named_at t u h l ([] ∷ all_names_of below)

named_nodes : (t u : List Label → Bool) → ((x : Label) (m : List Label) → t (x ∷ m) ≡ u (x ∷ m)) → (ns : Nodes) → filter t (all_names_of ns) ≡ filter u (all_names_of ns)
named_nodes t u h no_nodes = refl
named_nodes t u h (nodes n ns) =
    filter-append t (names_of n) (all_names_of ns) ∙ ap (λ ys. ys ++ filter t (all_names_of ns)) (named_node t u h n) ∙ ap (λ ys. filter u (names_of n) ++ ys) (named_nodes t u h ns)
    ∙ sym (filter-append u (names_of n) (all_names_of ns))

-- whether a node or one below it is looked into, by its name below the node
abbrev looked_below : Node → Parts → Main → List Main → List Label → Bool
looked_below n a s ss m = (is_edge (label (label_of n) ∷ place_of m) && tested_with_a_look (a (place_of m)) s) || (fits (a []) s && looked ss a (place_of m))

-- of a node and all below it, those that steps look into: the node itself, and those below it
look_here : (n : Node) (at : Parts) → (λ place. at (label (label_of n) ∷ place)) ≡ below_node n → (s : Main) (ss : List Main) (below : Nodes)
    → filter (λ name. looked (s ∷ ss) at (place_of name)) (map (λ m. label_of n ∷ m) ([] ∷ all_names_of below))
    ≡ map (λ m. label_of n ∷ m) (cond (tested_with_a_look (Some (a_node n)) s || (fits (Some (a_node n)) s && looked ss (below_node n) []))
    ([] ∷ cond (fits (Some (a_node n)) s) (filter (λ m. looked ss (below_node n) (place_of m)) (all_names_of below)) [])
    (cond (fits (Some (a_node n)) s) (filter (λ m. looked ss (below_node n) (place_of m)) (all_names_of below)) []))
look_here n at same s ss below =
    let f = fits (Some (a_node n)) s in
    let here = tested_with_a_look (Some (a_node n)) s || (f && looked ss (below_node n) []) in
    filter_map_same (λ name. looked (s ∷ ss) at (place_of name)) (λ m. label_of n ∷ m) ([] ∷ all_names_of below)
    ∙ ap (λ (a : Parts). map (λ m. label_of n ∷ m) (filter (looked_below n a s ss) ([] ∷ all_names_of below))) same
    ∙ ap (λ (ms : List (List Label)). map (λ m. label_of n ∷ m) (cond here ([] ∷ ms) ms))
    (named_nodes (looked_below n (below_node n) s ss) (λ m. f && looked ss (below_node n) (place_of m)) (λ x m. refl) below
    ∙ filter_and f (λ m. looked ss (below_node n) (place_of m)) (all_names_of below))

all_kept : {A : Type 0} (xs : List A) → filter (λ x. true) xs ≡ xs
all_kept [] = refl
all_kept (x ∷ xs) = ap (λ ys. x ∷ ys) (all_kept xs)

or_right : (a : Bool) → (a || true) ≡ true
or_right true = refl
or_right false = refl

last_looked : (f t : Bool) (above : List Label) (l : Label) (ms ks : List (List Label)) → ks ≡ ms
    → cond f ((above ++ l ∷ []) ∷ map (λ m. (above ++ l ∷ []) ++ m) ms) (cond t ((above ++ l ∷ []) ∷ []) [])
    ≡ map (λ m. above ++ m) (map (λ m. l ∷ m) (cond (t || (f && true)) ([] ∷ cond f ks []) (cond f ks [])))
last_looked true true above l ms ks h = rw h (ap (λ ns. (above ++ l ∷ []) ∷ ns) (under_names above l ms))
last_looked true false above l ms ks h = rw h (ap (λ ns. (above ++ l ∷ []) ∷ ns) (under_names above l ms))
last_looked false true above l ms ks h = refl
last_looked false false above l ms ks h = refl

further_looked : (f t : Bool) (above : List Label) (l : Label) (names ks : List (List Label)) → names ≡ map (λ m. (above ++ l ∷ []) ++ m) ks
    → cond t ((above ++ l ∷ []) ∷ []) [] ++ cond f names []
    ≡ map (λ m. above ++ m) (map (λ m. l ∷ m) (cond (t || (f && false)) ([] ∷ cond f ks []) (cond f ks [])))
further_looked true true above l names ks h = ap (λ ns. (above ++ l ∷ []) ∷ ns) (h ∙ under_names above l ks)
further_looked true false above l names ks h = h ∙ under_names above l ks
further_looked false true above l names ks h = refl
further_looked false false above l names ks h = refl

mutual
  look_node : (above : List Label) (n : Node) → IsOrdered n → (at : Parts) → (λ place. at (label (label_of n) ∷ place)) ≡ below_node n → (s : Main) (ss : List Main)
      → looked_at above n s ss ≡ map (λ m. above ++ m) (filter (λ name. looked (s ∷ ss) at (place_of name)) (names_of n))
  look_node above (node l local below) ordered at same s [] =
      let n = node l local below in
      last_looked (fits (Some (a_node n)) s) (tested_with_a_look (Some (a_node n)) s) above l (all_names_of below) _ (all_kept (all_names_of below))
      ∙ sym (ap (map (λ m. above ++ m)) (look_here n at same s [] below))
  look_node above (node l local below) ordered at same s (t ∷ ts) =
      let n = node l local below in
      further_looked (fits (Some (a_node n)) s) (tested_with_a_look (Some (a_node n)) s) above l _ _
      (look_nodes (above ++ l ∷ []) below ordered (below_node n) (sees_children l local below ordered) t ts)
      ∙ sym (ap (map (λ m. above ++ m)) (look_here n at same s (t ∷ ts) below))

  look_nodes : (above : List Label) (ns : Nodes) → AreOrdered ns → (at : Parts) → Sees at ns → (s : Main) (ss : List Main)
      → all_looked_at above ns s ss ≡ map (λ m. above ++ m) (filter (λ name. looked (s ∷ ss) at (place_of name)) (all_names_of ns))
  look_nodes above no_nodes ordered at sees s ss = refl
  look_nodes above (nodes n ns) ordered at sees s ss =
      ap (λ ms. ms ++ all_looked_at above ns s ss) (look_node above n ordered.0 at sees.0 s ss)
      ∙ ap (λ ms. map (λ m. above ++ m) (filter (λ name. looked (s ∷ ss) at (place_of name)) (names_of n)) ++ ms) (look_nodes above ns ordered.2 at sees.1 s ss)
      ∙ sym (ap (map (λ m. above ++ m)) (filter-append (λ name. looked (s ∷ ss) at (place_of name)) (names_of n) (all_names_of ns))
      ∙ map-append (λ m. above ++ m) (filter (λ name. looked (s ∷ ss) at (place_of name)) (names_of n)) (filter (λ name. looked (s ∷ ss) at (place_of name)) (all_names_of ns)))

-- the walk looks into the nodes that an evaluation looks into
pub looked_is : (document : Node) → IsOrdered document → (query : Syntax) (s : Main) (ss : List Main) → thin_of query ≡ s ∷ ss → looked_at [] document s ss ≡ full_names document query
looked_is document ordered query s ss is =
    look_node [] document ordered (part_at_place document) (sees_top document) s ss ∙ map_id _
    ∙ ap (λ (q : List Main). filter (λ name. looked q (part_at_place document) (place_of name)) (names_of document)) (sym is) ∙ sym (full_names_are document query)

-- the names that an evaluation found from the document on
pub names_found : (document : Node) (query : Syntax) (s : Main) (ss : List Main) (above : List Label) (new old : List (List Label)) → IsOrdered document → thin_of query ≡ s ∷ ss → above ≡ [] → old ≡ []
    → new ≡ old ++ looked_at above document s ss → new ≡ full_names document query
names_found document query s ss above new old ordered is top start h =
    h ∙ ap (λ ms. ms ++ looked_at above document s ss) start ∙ ap (λ (a : List Label). looked_at a document s ss) top ∙ looked_is document ordered query s ss is
