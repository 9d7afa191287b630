-- What a query selects, and what its evaluation looks into, as one filter over all places.
use Rattle.std.proofs.Common.{◌≡◌, ℕ, Bool, true, false, cond, ◌&&◌, ◌||◌, if◌then◌else◌, List, [], ◌∷◌, ◌++◌, map, filter, get_or, refl, ap, sym, ◌∙◌, subst, append-nil, append_assoc, Option, Some, None, option_and_then, slice_get, ◌⊎◌, inl, inr}
use Rattle.std.specs.List.{list_any}
use Rattle.std.proofs.lemmas.Slice.Eq.{bytes_eq-Decides}
use Rattle.iris_base.specs.declared.name.Label.{Label}
use Rattle.iris_base.specs.NameOrder.{label_eq}
use Rattle.iris_base.proofs.Labels.{label_eq-Decides}
use Rattle.iris_tree.specs.declared.plain.Plain.{Plain}
use Rattle.iris_tree.specs.Universe.{Node, node, Nodes, no_nodes, nodes, list_of, label_of, child_of}
use Rattle.iris_tree.specs.Document.{Edge, position, label, Place, place_of, Part, below_plain, below_node, part_at_place, numbered, plain_places, node_places, all_node_places, places, names_of}
use Rattle.iris_xpath.specs.Syntax.{Syntax}
use Rattle.iris_xpath.specs.Thin.{Main}
use Rattle.iris_xpath.specs.ThinQuery.{thin_of}
use Rattle.iris_xpath.specs.Places.{edge_eq, is_parent, is_above}
use Rattle.iris_xpath.specs.ThinMeaning.{fits, step_to, steps_to, selected, tested_with_a_look, is_looked_into, full_names}
use Rattle.iris_xpath.proofs.Below.{begins, always, is_edge, edge_itself, above_begins}
use Rattle.iris_xpath.proofs.Passes.{any_alike, and_assoc}

-- ---- Bool

-- both are true
pub and_true : (a b : Bool) → (a && b) ≡ true → (a ≡ true) × (b ≡ true)
and_true true b h = (refl, h)
and_true false b h = absurd (cc)

-- two that are true
pub and_both : (a b : Bool) → a ≡ true → b ≡ true → (a && b) ≡ true
and_both a b h k = rw (h, k) refl

-- true at the right changes nothing
pub and_right : (a : Bool) → (a && true) ≡ a
and_right true = refl
and_right false = refl

-- false at the right
pub and_false : (a : Bool) → (a && false) ≡ false
and_false true = refl
and_false false = refl

or_and : (a b c : Bool) → ((a && b) || (a && c)) ≡ (a && (b || c))
or_and true b c = refl
or_and false b c = refl

or_true : (a : Bool) → (a || true) ≡ true
or_true true = refl
or_true false = refl

same_bool : (a b : Bool) → (a ≡ true → b ≡ true) → (b ≡ true → a ≡ true) → a ≡ b
same_bool true b h k = sym (h refl)
same_bool false true h k = k refl
same_bool false false h k = refl

-- ---- places that steps lead to

-- what stands at each place below some place
abbrev pub Parts : Type 0
Parts = Place → Option Part

-- each edge on the way fits its step, and what is left of the place passes the test
abbrev pub leads : (Parts → Place → Bool) → Parts → List Main → Place → Bool
leads test at [] place = test at place
leads test at (s ∷ ss) [] = false
leads test at (s ∷ ss) (e ∷ place) = fits (at (e ∷ [])) s && leads test (λ p. at (e ∷ p)) ss place

-- no edge is left
abbrev pub is_end : Place → Bool
is_end [] = true
is_end (e ∷ place) = false

-- the steps lead just to the place
abbrev pub reached : Parts → List Main → Place → Bool
reached at q place = leads (λ a p. is_end p) at q place

leads_same : (t u : Parts → Place → Bool) → ((a : Parts) (p : Place) → t a p ≡ u a p) → (at : Parts) (q : List Main) (place : Place) → leads t at q place ≡ leads u at q place
leads_same t u h at [] place = h at place
leads_same t u h at (s ∷ ss) [] = refl
leads_same t u h at (s ∷ ss) (e ∷ place) = ap (λ b. fits (at (e ∷ [])) s && b) (leads_same t u h (λ p. at (e ∷ p)) ss place)

leads_append : (t : Parts → Place → Bool) (at : Parts) (q r : List Main) (place : Place) → leads t at (q ++ r) place ≡ leads (λ a p. leads t a r p) at q place
leads_append t at [] r place = refl
leads_append t at (s ∷ ss) r [] = refl
leads_append t at (s ∷ ss) r (e ∷ place) = ap (λ b. fits (at (e ∷ [])) s && b) (leads_append t (λ p. at (e ∷ p)) ss r place)

leads_and : (t : Parts → Place → Bool) (f : Option Part → Bool) (at : Parts) (q : List Main) (place : Place) → (leads t at q place && f (at place)) ≡ leads (λ a p. t a p && f (a p)) at q place
leads_and t f at [] place = refl
leads_and t f at (s ∷ ss) [] = refl
leads_and t f at (s ∷ ss) (e ∷ place) =
    and_assoc (fits (at (e ∷ [])) s) (leads t (λ p. at (e ∷ p)) ss place) (f (at (e ∷ place))) ∙ ap (λ b. fits (at (e ∷ [])) s && b) (leads_and t f (λ p. at (e ∷ p)) ss place)

leads_or : (t u : Parts → Place → Bool) (at : Parts) (q : List Main) (place : Place) → (leads t at q place || leads u at q place) ≡ leads (λ a p. t a p || u a p) at q place
leads_or t u at [] place = refl
leads_or t u at (s ∷ ss) [] = refl
leads_or t u at (s ∷ ss) (e ∷ place) =
    or_and (fits (at (e ∷ [])) s) (leads t (λ p. at (e ∷ p)) ss place) (leads u (λ p. at (e ∷ p)) ss place) ∙ ap (λ b. fits (at (e ∷ [])) s && b) (leads_or t u (λ p. at (e ∷ p)) ss place)

-- ---- a place at the front of another

-- edges that are equal are one
pub edge_is : (e f : Edge) → edge_eq e f ≡ true → e ≡ f
edge_is (position i) (position j) h = ap (λ (is : List ℕ). position (get_or is 0 0)) ((bytes_eq-Decides (i ∷ []) (j ∷ [])).0 h)
edge_is (position i) (label m) h = absurd (cc)
edge_is (label l) (position j) h = absurd (cc)
edge_is (label l) (label m) h = ap label ((label_eq-Decides l m).0 h)

parent_begins : (front place : Place) → is_parent front place ≡ begins is_edge front place
parent_begins [] [] = refl
parent_begins [] (f ∷ []) = refl
parent_begins [] (f ∷ g ∷ place) = refl
parent_begins (e ∷ front) [] = refl
parent_begins (e ∷ front) (f ∷ place) = ap (λ b. edge_eq e f && b) (parent_begins front place)

-- from a place at the front to which steps lead
led : (test : Place → Bool) (at : Parts) (q : List Main) (front place : Place) → begins test front place ≡ true → reached at q front ≡ true → leads (λ a p. test p) at q place ≡ true
led test at [] [] place h k = h
led test at [] (e ∷ front) place h k = absurd (cc)
led test at (s ∷ ss) [] place h k = absurd (cc)
led test at (s ∷ ss) (e ∷ front) [] h k = absurd (cc)
led test at (s ∷ ss) (e ∷ front) (f ∷ place) h k =
    let p = and_true (edge_eq e f) (begins test front place) h in
    let r = and_true (fits (at (e ∷ [])) s) (reached (λ p. at (e ∷ p)) ss front) k in
    subst (λ (x : Edge). (fits (at (x ∷ [])) s && leads (λ a p. test p) (λ p. at (x ∷ p)) ss place) ≡ true) (edge_is e f p.0)
    (and_both (fits (at (e ∷ [])) s) _ r.0 (led test (λ p. at (e ∷ p)) ss front place p.1 r.1))

-- as many edges as there are steps
abbrev front_of : List Main → Place → Place
front_of [] place = []
front_of (s ∷ ss) [] = []
front_of (s ∷ ss) (e ∷ place) = e ∷ front_of ss place

front_led : (test : Place → Bool) (at : Parts) (q : List Main) (place : Place) → leads (λ a p. test p) at q place ≡ true → (begins test (front_of q place) place ≡ true) × (reached at q (front_of q place) ≡ true)
front_led test at [] place h = (h, refl)
front_led test at (s ∷ ss) [] h = absurd (cc)
front_led test at (s ∷ ss) (e ∷ place) h =
    let p = and_true (fits (at (e ∷ [])) s) (leads (λ a p. test p) (λ p. at (e ∷ p)) ss place) h in
    let r = front_led test (λ p. at (e ∷ p)) ss place p.1 in
    (and_both (edge_eq e e) _ (edge_itself e) r.0, and_both (fits (at (e ∷ [])) s) _ p.0 r.1)

-- ---- steps lead to places of the document alone

abbrev IsAmong : Place → List Place → Type 0
IsAmong x [] = ⊥
IsAmong x (y ∷ ys) = (x ≡ y) ⊎ IsAmong x ys

among_left : (x : Place) (ys zs : List Place) → IsAmong x ys → IsAmong x (ys ++ zs)
among_left x [] zs h = absurd h
among_left x (y ∷ ys) zs h = elim h [ inl e ↦ inl e | inr r ↦ inr (among_left x ys zs r) ]

among_right : (x : Place) (ys zs : List Place) → IsAmong x zs → IsAmong x (ys ++ zs)
among_right x [] zs h = h
among_right x (y ∷ ys) zs h = inr (among_right x ys zs h)

among_map : (e : Edge) (x : Place) (ys : List Place) → IsAmong x ys → IsAmong (e ∷ x) (map (λ y. e ∷ y) ys)
among_map e x [] h = absurd h
among_map e x (y ∷ ys) h = elim h [ inl i ↦ inl (ap (λ (p : Place). e ∷ p) i) | inr r ↦ inr (among_map e x ys r) ]

-- no step leads to a plain element
pub plain_never : (o : Option Plain) (s : Main) → fits (option_and_then (λ p. below_plain p []) o) s ≡ false
plain_never None s = refl
plain_never (Some p) s = refl

not_both : (a b : Bool) → a ≡ false → (a && b) ≡ true → ⊥
not_both true b h k = cc
not_both false b h k = cc

-- among siblings, of which the first has the label or has it not
first_among : (n : Node) (ns : Nodes) (m : Label) (s : Main) (ss : List Main) (x : Place) (b : Bool) → label_eq (label_of n) m ≡ b → (reached (below_node n) ss x ≡ true → IsAmong (label (label_of n) ∷ x) (node_places n))
    → (fits (option_and_then (λ c. below_node c []) (child_of m (list_of ns))) s ≡ true → reached (λ p. option_and_then (λ c. below_node c p) (child_of m (list_of ns))) ss x ≡ true → IsAmong (label m ∷ x) (all_node_places ns))
    → fits (option_and_then (λ c. below_node c []) (cond b (Some n) (child_of m (list_of ns)))) s ≡ true → reached (λ p. option_and_then (λ c. below_node c p) (cond b (Some n) (child_of m (list_of ns)))) ss x ≡ true
    → IsAmong (label m ∷ x) (node_places n ++ all_node_places ns)
first_among n ns m s ss x true e here later f r =
    among_left (label m ∷ x) (node_places n) (all_node_places ns) (subst (λ (l : Label). IsAmong (label l ∷ x) (node_places n)) ((label_eq-Decides (label_of n) m).0 e) (here r))
first_among n ns m s ss x false e here later f r = among_right (label m ∷ x) (node_places n) (all_node_places ns) (later f r)

mutual
  node_among : (n : Node) (q : List Main) (x : Place) → reached (below_node n) q x ≡ true → IsAmong (label (label_of n) ∷ x) (node_places n)
  node_among (node l local below) [] [] h = inl refl
  node_among (node l local below) [] (e ∷ x) h = absurd (cc)
  node_among (node l local below) (s ∷ ss) [] h = absurd (cc)
  node_among (node l local below) (s ∷ ss) (position i ∷ x) h = absurd (not_both _ _ (plain_never (slice_get local.plain i) s) h)
  node_among (node l local below) (s ∷ ss) (label m ∷ x) h =
      let p = and_true (fits (option_and_then (λ c. below_node c []) (child_of m (list_of below))) s) _ h in
      inr (among_map (label l) (label m ∷ x) _ (among_right (label m ∷ x) (numbered 0 (map plain_places local.plain)) (all_node_places below) (child_among below m s ss x p.0 p.1)))

  child_among : (ns : Nodes) (m : Label) (s : Main) (ss : List Main) (x : Place) → fits (option_and_then (λ c. below_node c []) (child_of m (list_of ns))) s ≡ true → reached (λ p. option_and_then (λ c. below_node c p) (child_of m (list_of ns))) ss x ≡ true
      → IsAmong (label m ∷ x) (all_node_places ns)
  child_among no_nodes m s ss x f r = absurd (cc)
  child_among (nodes n ns) m s ss x f r = first_among n ns m s ss x (label_eq (label_of n) m) refl (λ h. node_among n ss x h) (λ g h. child_among ns m s ss x g h) f r

top_among : (document : Node) (m : Label) (b : Bool) → label_eq (label_of document) m ≡ b → (s : Main) (ss : List Main) (x : Place) → (fits (if b then below_node document [] else None) s && reached (λ p. if b then below_node document p else None) ss x) ≡ true
    → IsAmong (label m ∷ x) (places document)
top_among document m true e s ss x h =
    let p = and_true (fits (below_node document []) s) (reached (below_node document) ss x) h in
    inr (subst (λ (l : Label). IsAmong (label l ∷ x) (node_places document)) ((label_eq-Decides (label_of document) m).0 e) (node_among document ss x p.1))
top_among document m false e s ss x h = absurd (cc)

place_among : (document : Node) (q : List Main) (x : Place) → reached (part_at_place document) q x ≡ true → IsAmong x (places document)
place_among document [] [] h = inl refl
place_among document [] (e ∷ x) h = absurd (cc)
place_among document (s ∷ ss) [] h = absurd (cc)
place_among document (s ∷ ss) (position i ∷ x) h = absurd (cc)
place_among document (s ∷ ss) (label m ∷ x) h = top_among document m (label_eq (label_of document) m) refl s ss x h

-- ---- a test of some place that a filter keeps

some_here : (b c : Bool) (t : Place → Bool) (x : Place) (fs : List Place) → b ≡ true → t x ≡ true → list_any t (cond b (x ∷ fs) fs) ≡ true
some_here true c t x fs h k = rw k refl
some_here false c t x fs h k = absurd (cc)

some_later : (b : Bool) (t : Place → Bool) (x : Place) (fs : List Place) → list_any t fs ≡ true → list_any t (cond b (x ∷ fs) fs) ≡ true
some_later true t x fs h = rw h (or_true (t x))
some_later false t x fs h = h

some_kept : (t keeps : Place → Bool) (x : Place) (ys : List Place) → IsAmong x ys → t x ≡ true → keeps x ≡ true → list_any t (filter keeps ys) ≡ true
some_kept t keeps x [] h k l = absurd h
some_kept t keeps x (y ∷ ys) h k l =
    elim h [
      | inl e ↦ some_here (keeps y) true t y (filter keeps ys) (subst (λ (z : Place). keeps z ≡ true) e l) (subst (λ (z : Place). t z ≡ true) e k)
      | inr r ↦ some_later (keeps y) t y (filter keeps ys) (some_kept t keeps x ys r k l)
    ]

kept_some_step : (b c : Bool) (t keeps : Place → Bool) (x : Place) (fs : List Place) → keeps x ≡ b → t x ≡ c → (d : Bool) → ((y : Place) → t y ≡ true → keeps y ≡ true → d ≡ true) → (list_any t fs ≡ true → d ≡ true) → list_any t (cond b (x ∷ fs) fs) ≡ true → d ≡ true
kept_some_step true true t keeps x fs e f d h k l = h x f e
kept_some_step true false t keeps x fs e f d h k l = k (subst (λ (c : Bool). (c || list_any t fs) ≡ true) f l)
kept_some_step false c t keeps x fs e f d h k l = k l

kept_some : (t keeps : Place → Bool) (ys : List Place) (d : Bool) → ((y : Place) → t y ≡ true → keeps y ≡ true → d ≡ true) → list_any t (filter keeps ys) ≡ true → d ≡ true
kept_some t keeps [] d h l = absurd (cc)
kept_some t keeps (y ∷ ys) d h l = kept_some_step (keeps y) (t y) t keeps y (filter keeps ys) refl refl d h (kept_some t keeps ys d h) l

-- ---- contexts

-- the places to which steps lead from the document
abbrev pub context_of : Node → List Main → List Place
context_of document q = filter (reached (part_at_place document) q) (places document)

context_begins : (test : Place → Bool) (document : Node) (q : List Main) (place : Place) → list_any (λ front. begins test front place) (context_of document q) ≡ leads (λ a p. test p) (part_at_place document) q place
context_begins test document q place =
    let at = part_at_place document in
    same_bool _ _
    (kept_some (λ front. begins test front place) (reached at q) (places document) _ (λ front h k. led test at q front place h k))
    (λ h.
    let p = front_led test at q place h in
    some_kept (λ front. begins test front place) (reached at q) (front_of q place) (places document) (place_among document q (front_of q place) p.1) p.0 p.1)

any_parent : (document : Node) (q : List Main) (place : Place) → list_any (λ above. is_parent above place) (context_of document q) ≡ leads (λ a p. is_edge p) (part_at_place document) q place
any_parent document q place =
    any_alike (λ above. is_parent above place) (λ front. begins is_edge front place) (λ x. parent_begins x place) (context_of document q) ∙ context_begins is_edge document q place

any_above : (document : Node) (q : List Main) (place : Place) → list_any (λ above. is_above above place) (context_of document q) ≡ leads (λ a p. always p) (part_at_place document) q place
any_above document q place =
    any_alike (λ above. is_above above place) (λ front. begins always front place) (λ x. above_begins x place) (context_of document q) ∙ context_begins always document q place

-- tests that agree keep the same
pub filter_same : {A : Type 0} (t u : A → Bool) → ((x : A) → t x ≡ u x) → (xs : List A) → filter t xs ≡ filter u xs
filter_same t u h [] = refl
filter_same t u h (x ∷ xs) = ap (λ b. cond b (x ∷ filter t xs) (filter t xs)) (h x) ∙ ap (λ ys. cond (u x) (x ∷ ys) ys) (filter_same t u h xs)

-- an edge that fits one step more
edge_fits : (s : Main) (at : Parts) (place : Place) → (is_edge place && fits (at place) s) ≡ reached at (s ∷ []) place
edge_fits s at [] = refl
edge_fits s at (e ∷ []) = sym (and_right (fits (at (e ∷ [])) s))
edge_fits s at (e ∷ f ∷ place) = sym (and_false (fits (at (e ∷ [])) s))

one_step : (document : Node) (q : List Main) (s : Main) (place : Place) → (list_any (λ above. is_parent above place) (context_of document q) && fits (part_at_place document place) s) ≡ reached (part_at_place document) (q ++ s ∷ []) place
one_step document q s place =
    let at = part_at_place document in
    ap (λ b. b && fits (at place) s) (any_parent document q place) ∙ leads_and (λ a p. is_edge p) (λ o. fits o s) at q place
    ∙ leads_same (λ a p. is_edge p && fits (a p) s) (λ a p. reached a (s ∷ []) p) (edge_fits s) at q place ∙ sym (leads_append (λ a p. is_end p) at q (s ∷ []) place)

context_step : (document : Node) (q : List Main) (s : Main) → step_to document (context_of document q) s ≡ context_of document (q ++ s ∷ [])
context_step document q s = filter_same _ _ (one_step document q s) (places document)

context_steps : (document : Node) (q ss : List Main) → steps_to document (context_of document q) ss ≡ context_of document (q ++ ss)
context_steps document q [] = ap (context_of document) (sym (append-nil q))
context_steps document q (s ∷ ss) =
    ap (λ (c : List Place). steps_to document c ss) (context_step document q s) ∙ context_steps document (q ++ s ∷ []) ss ∙ ap (context_of document) (append_assoc q (s ∷ []) ss)

no_end_below : (e : Edge) (ps : List Place) → filter is_end (map (λ p. e ∷ p) ps) ≡ []
no_end_below e [] = refl
no_end_below e (p ∷ ps) = no_end_below e ps

context_start : (document : Node) → [] ∷ [] ≡ context_of document []
context_start (node l local below) = ap (λ (ps : List Place). [] ∷ ps) (sym (no_end_below (label l) (numbered 0 (map plain_places local.plain) ++ all_node_places below)))

-- a query selects the places to which its steps lead
pub selected_is : (document : Node) (q : List Main) → selected document q ≡ context_of document q
selected_is document q = ap (λ (c : List Place). steps_to document c q) (context_start document) ∙ context_steps document [] q

-- ---- what is looked into

-- below some steps, whether a place is looked into
abbrev pub looked : List Main → Parts → Place → Bool
looked [] at place = true
looked (s ∷ ss) at place = (is_edge place && tested_with_a_look (at place) s) || leads (looked ss) at (s ∷ []) place

looked_into : (document : Node) (q ss : List Main) (place : Place) → is_looked_into document (context_of document q) ss place ≡ leads (looked ss) (part_at_place document) q place
looked_into document q [] place = any_above document q place ∙ leads_same (λ a p. always p) (looked []) (λ a p. refl) (part_at_place document) q place
looked_into document q (s ∷ ss) place =
    let at = part_at_place document in
    let here : (list_any (λ above. is_parent above place) (context_of document q) && tested_with_a_look (at place) s) ≡ leads (λ a p. is_edge p && tested_with_a_look (a p) s) at q place =
    ap (λ b. b && tested_with_a_look (at place) s) (any_parent document q place) ∙ leads_and (λ a p. is_edge p) (λ o. tested_with_a_look o s) at q place in
    let later : is_looked_into document (step_to document (context_of document q) s) ss place ≡ leads (λ a p. leads (looked ss) a (s ∷ []) p) at q place =
    ap (λ (c : List Place). is_looked_into document c ss place) (context_step document q s) ∙ looked_into document (q ++ s ∷ []) ss place ∙ leads_append (looked ss) at q (s ∷ []) place in
    rw (here, later) (leads_or (λ a p. is_edge p && tested_with_a_look (a p) s) (λ a p. leads (looked ss) a (s ∷ []) p) at q place)

-- an evaluation looks into the nodes whose places its steps look into
pub full_names_are : (document : Node) (q : Syntax) → full_names document q ≡ filter (λ name. looked (thin_of q) (part_at_place document) (place_of name)) (names_of document)
full_names_are document q =
    filter_same _ _ (λ name. ap (λ (c : List Place). is_looked_into document c (thin_of q) (place_of name)) (context_start document) ∙ looked_into document [] (thin_of q) (place_of name)) (names_of document)
