-- What a query selects lies under the name of its anchored steps.
use Rattle.std.proofs.Common.{◌≡◌, ℕ, Bool, true, false, cond, ◌&&◌, ◌||◌, List, [], ◌∷◌, ◌++◌, map, length, take, refl, ap, sym, ◌∙◌, subst, append-nil, append_assoc, Option, Some, None, slice_get, codes, inl, inr}
use Rattle.std.specs.List.{All, list_any, filter_map, cons_option}
use Rattle.std.specs.Str.{bytes_eq}
use Rattle.std.proofs.lemmas.List.Elements.{All-nil, All-cons, All-head, All-tail, All-weaker, filter_passes}
use Rattle.std.proofs.lemmas.Slice.Eq.{bytes_eq-Decides}
use Rattle.iris_base.specs.declared.name.Label.{Label}
use Rattle.iris_base.specs.NameOrder.{label_eq}
use Rattle.iris_base.specs.Under.{Under}
use Rattle.iris_base.proofs.Labels.{label_eq-Decides}
use Rattle.iris_tree.specs.declared.plain.Plain.{Plain}
use Rattle.iris_tree.specs.declared.plain.Plain.TheViews.{out-Plain}
use Rattle.iris_tree.specs.Universe.{Node, label_of, local_of, children_of, child_of}
use Rattle.iris_tree.specs.Document.{Edge, position, label, Place, place_of, name_of, Part, whole, a_node, a_plain, below_plain, below_node, part_at_place, places}
use Rattle.iris_xpath.specs.declared.expression.Separator.{Separator}
use Rattle.iris_xpath.specs.declared.expression.Separator.TheVariants.{Slash}
use Rattle.iris_xpath.specs.declared.expression.NameTest.{NameTest}
use Rattle.iris_xpath.specs.declared.expression.NameTest.TheVariants.{Kind}
use Rattle.iris_xpath.specs.declared.expression.Step.{Step}
use Rattle.iris_xpath.specs.declared.expression.Comparison.TheVariants.{Equal}
use Rattle.iris_xpath.specs.declared.expression.Expression.{Expression}
use Rattle.iris_xpath.specs.declared.expression.Expression.TheFolds.{fold-roll-Expression}
use Rattle.iris_xpath.specs.Syntax.{Syntax, Condition, compares, values_of, attribute, literal, condition_step, condition_of, conditions_of, main_of}
use Rattle.iris_xpath.specs.Anchor.{IsIdPredicate, FirstId, Anchored, HaveLabels, LcaName}
use Rattle.iris_xpath.specs.Places.{edge_eq}
use Rattle.iris_xpath.specs.Meaning.{Value, of_text, compare, is_reached, passes, attribute_at, holds, all_hold, fits, step_to, steps_to, selected}
use Rattle.iris_xpath.proofs.Below.{begins, goes_down, is_edge, first_found, reached_begins}
use Rattle.iris_xpath.proofs.Passes.{or_false}
use Rattle.iris_xpath.proofs.SelectedPlaces.{and_true, edge_is}

-- ---- steps go down

-- what follows the place at the front passes the test
begins_rest : (test : Place → Bool) (above place : Place) → begins test above place ≡ true → (rest : Place) × (place ≡ above ++ rest) × (test rest ≡ true)
begins_rest test [] place h = (place, refl, h)
begins_rest test (e ∷ above) [] h = absurd (cc)
begins_rest test (e ∷ above) (f ∷ place) h =
    let p = and_true (edge_eq e f) (begins test above place) h in
    let r = begins_rest test above place p.1 in
    (r.0, ap (λ (x : Place). f ∷ x) r.1 ∙ ap (λ (x : Edge). x ∷ (above ++ r.0)) (sym (edge_is e f p.0)), r.2)

-- each step goes down
reached_under : (s : Separator) (above place : Place) → is_reached s above place ≡ true → Under place above
reached_under s above place h = let r = begins_rest (goes_down s) above place (sym (reached_begins s above place) ∙ h) in (r.0, r.1)

one_edge : (rest : Place) → is_edge rest ≡ true → (e : Edge) × (rest ≡ e ∷ [])
one_edge [] h = absurd (cc)
one_edge (e ∷ []) h = (e, refl)
one_edge (e ∷ f ∷ rest) h = absurd (cc)

-- a step with `/` goes down by one edge
child_edge : (above place : Place) → is_reached Slash above place ≡ true → (e : Edge) × (place ≡ above ++ e ∷ [])
child_edge above place h =
    let r = begins_rest is_edge above place (sym (reached_begins Slash above place) ∙ h) in
    let e = one_edge r.0 r.2 in
    (e.0, r.1 ∙ ap (λ (x : Place). above ++ x) e.1)

-- ---- the last edge to a node is its label

plain_is_no_node : (p : Plain) (place : Place) (n : Node) → below_plain p place ≡ Some (a_node n) → ⊥
plain_is_no_node p [] n h = cc
plain_is_no_node p (position i ∷ place) n h = let r = first_found (λ kid. below_plain kid place) (slice_get (out-Plain p).kids i) (a_node n) h in plain_is_no_node r.0 place n r.2
plain_is_no_node p (label l ∷ place) n h = cc

found_has_label : (b : Bool) (l : Label) (m : Node) (later : Option Node) (n : Node) → label_eq (label_of m) l ≡ b → (later ≡ Some n → label_of n ≡ l) → cond b (Some m) later ≡ Some n → label_of n ≡ l
found_has_label true l m later n e h found = let it : m ≡ n = cc in subst (λ (x : Node). label_of x ≡ l) it ((label_eq-Decides (label_of m) l).0 e)
found_has_label false l m later n e h found = h found

child_has_label : (l : Label) (ns : List Node) (n : Node) → child_of l ns ≡ Some n → label_of n ≡ l
child_has_label l [] n h = absurd (cc)
child_has_label l (m ∷ ns) n h = found_has_label (label_eq (label_of m) l) l m (child_of l ns) n refl (child_has_label l ns n) h

same_node : (m n : Node) → below_node m [] ≡ Some (a_node n) → m ≡ n
same_node m n h = cc

last_below : (m : Node) (place : Place) (e : Edge) (n : Node) → below_node m (place ++ e ∷ []) ≡ Some (a_node n) → e ≡ label (label_of n)
last_below m [] (position i) n h = let r = first_found (λ p. below_plain p []) (slice_get (local_of m).plain i) (a_node n) h in absurd (plain_is_no_node r.0 [] n r.2)
last_below m [] (label l) n h =
    let r = first_found (λ child. below_node child []) (child_of l (children_of m)) (a_node n) h in
    ap label (sym (child_has_label l (children_of m) r.0 r.1) ∙ ap label_of (same_node r.0 n r.2))
last_below m (position i ∷ place) e n h = let r = first_found (λ p. below_plain p (place ++ e ∷ [])) (slice_get (local_of m).plain i) (a_node n) h in absurd (plain_is_no_node r.0 (place ++ e ∷ []) n r.2)
last_below m (label l ∷ place) e n h = let r = first_found (λ child. below_node child (place ++ e ∷ [])) (child_of l (children_of m)) (a_node n) h in last_below r.0 place e n r.2

if_found : (b : Bool) (part : Option Part) (n : Node) → cond b part None ≡ Some (a_node n) → (b ≡ true) × (part ≡ Some (a_node n))
if_found true part n h = (refl, h)
if_found false part n h = absurd (cc)

last_edge : (document : Node) (place : Place) (e : Edge) (n : Node) → part_at_place document (place ++ e ∷ []) ≡ Some (a_node n) → e ≡ label (label_of n)
last_edge document [] (position i) n h = absurd (cc)
last_edge document [] (label l) n h =
    let top = if_found (label_eq (label_of document) l) (below_node document []) n h in
    ap label (sym ((label_eq-Decides (label_of document) l).0 top.0) ∙ ap label_of (same_node document n top.1))
last_edge document (position i ∷ place) e n h = absurd (cc)
last_edge document (label l ∷ place) e n h = last_below document place e n (if_found (label_eq (label_of document) l) (below_node document (place ++ e ∷ [])) n h).1

-- ---- id predicates

-- what passes a kind is a node of that kind
node_of_kind : (part : Option Part) (kind : List ℕ) → passes part (Kind kind) ≡ true → (n : Node) × (part ≡ Some (a_node n)) × ((label_of n).kind ≡ kind)
node_of_kind None kind h = absurd (cc)
node_of_kind (Some whole) kind h = absurd (cc)
node_of_kind (Some (a_node n)) kind h = (n, refl, (bytes_eq-Decides (label_of n).kind kind).0 h)
node_of_kind (Some (a_plain p)) kind h = absurd (cc)

just_one : (b : Bool) → ((b || false) || false) ≡ b
just_one b = or_false (b || false) ∙ or_false b

abbrev ids_at : Option Part → List Value
ids_at part = map of_text (filter_map (λ end. end) (map (λ value. Some value) (cons_option (attribute_at (codes "id") part) [])))

id_before : (n : Node) (id : List ℕ) → list_any (λ u. list_any (compare Equal u) (of_text id ∷ [])) (ids_at (Some (a_node n))) ≡ true → (label_of n).id ≡ id
id_before n id h = (bytes_eq-Decides (label_of n).id id).0 (sym (just_one (bytes_eq (label_of n).id id)) ∙ h)

id_behind : (n : Node) (id : List ℕ) → list_any (λ u. list_any (compare Equal u) (ids_at (Some (a_node n)))) (of_text id ∷ []) ≡ true → (label_of n).id ≡ id
id_behind n id h = sym ((bytes_eq-Decides id (label_of n).id).0 (sym (just_one (bytes_eq id (label_of n).id)) ∙ h))

-- where an id predicate holds of a node, the node has the id
node_of_id : (document : Node) (id : List ℕ) (e : Expression) (place : Place) (n : Node) → IsIdPredicate id e → part_at_place document place ≡ Some (a_node n) → holds document (condition_of e) place ≡ true → (label_of n).id ≡ id
node_of_id document id e place n is_id at h =
    elim is_id.1 [
      | inl same ↦
          let c : condition_of e ≡ compares (values_of (attribute Slash (codes "id"))) Equal (literal id) = ap condition_of same ∙ fold-roll-Expression Condition condition_step _ in
          id_before n id (subst (λ (part : Option Part). list_any (λ u. list_any (compare Equal u) (of_text id ∷ [])) (ids_at part) ≡ true) at (subst (λ (x : Condition). holds document x place ≡ true) c h))
      | inr same ↦
          let c : condition_of e ≡ compares (literal id) Equal (values_of (attribute Slash (codes "id"))) = ap condition_of same ∙ fold-roll-Expression Condition condition_step _ in
          id_behind n id (subst (λ (part : Option Part). list_any (λ u. list_any (compare Equal u) (ids_at part)) (of_text id ∷ []) ≡ true) at (subst (λ (x : Condition). holds document x place ≡ true) c h))
    ]

one_holds : (document : Node) (front : List Expression) (e : Expression) (back : List Expression) (place : Place) → all_hold document (conditions_of (map condition_of (front ++ e ∷ back))) place ≡ true → holds document (condition_of e) place ≡ true
one_holds document [] e back place h = (and_true (holds document (condition_of e) place) _ h).0
one_holds document (x ∷ front) e back place h = one_holds document front e back place (and_true (holds document (condition_of x) place) _ h).1

-- ---- anchored steps

same_label : (l m : Label) → l.kind ≡ m.kind → l.id ≡ m.id → l ≡ m
same_label l m kinds ids = λ i. record { kind = kinds i; id = ids i }

-- an anchored step goes down by its label
anchored_edge : (document : Node) (s : Step Expression) (l : Label) (above place : Place) → Anchored s l → is_reached s.separator above place ≡ true → fits document (main_of s) place ≡ true → place ≡ above ++ label l ∷ []
anchored_edge document s l above place a reached fit =
    let e = child_edge above place (subst (λ (x : Separator). is_reached x above place ≡ true) a.slash reached) in
    let p = and_true (passes (part_at_place document place) s.test) _ fit in
    let n = node_of_kind (part_at_place document place) l.kind (subst (λ (x : NameTest). passes (part_at_place document place) x ≡ true) a.kind p.0) in
    let f : FirstId l.id s.predicates = a.id in
    let one = one_holds document f.front f.predicate f.back place (subst (λ (es : List Expression). all_hold document (conditions_of (map condition_of es)) place ≡ true) f.parts p.1) in
    let same : label_of n.0 ≡ l = same_label (label_of n.0) l n.2 (node_of_id document l.id f.predicate place n.0 f.is_id n.1 one) in
    let last : e.0 ≡ label (label_of n.0) = last_edge document above e.0 n.0 (subst (λ (x : Place). part_at_place document x ≡ Some (a_node n.0)) e.1 n.1) in
    e.1 ∙ ap (λ (x : Edge). above ++ x ∷ []) (last ∙ ap label same)

-- ---- contexts

either : (a b : Bool) (P : Type 0) → (a ≡ true → P) → (b ≡ true → P) → (a || b) ≡ true → P
either true b P f g h = f refl
either false b P f g h = g h

-- what follows from the one that passes
from_some : {X : Type 0} (P : X → Type 0) (test : X → Bool) (Q : Type 0) (xs : List X) → All P xs → ((x : X) → P x → test x ≡ true → Q) → list_any test xs ≡ true → Q
from_some P test Q [] all f h = absurd (cc)
from_some P test Q (x ∷ xs) all f h =
    either (test x) (list_any test xs) Q (λ k. f x (All-head P x xs all) k) (λ k. from_some P test Q xs (All-tail P x xs all) f k) h

-- what a step makes of all places of the context is so of all that it reaches
step_all : (document : Node) (P Q : Place → Type 0) (context : List Place) (s : Step Expression) → ((above place : Place) → P above → is_reached s.separator above place ≡ true → fits document (main_of s) place ≡ true → Q place) → All P context
    → All Q (step_to document context (main_of s))
step_all document P Q context s f all =
    let test = λ (place : Place). list_any (λ above. is_reached s.separator above place) context && fits document (main_of s) place in
    All-weaker (λ place. test place ≡ true) Q
    (λ place h.
    let p = and_true (list_any (λ above. is_reached s.separator above place) context) (fits document (main_of s) place) h in
    from_some P (λ above. is_reached s.separator above place) (Q place) context all (λ above k r. f above place k r p.1) p.0)
    (step_to document context (main_of s)) (filter_passes test (places document))

under_more : {X : Type 0} (front above place : List X) → Under above front → Under place above → Under place front
under_more {X} front above place h k = (h.0 ++ k.0, k.1 ∙ ap (λ (x : List X). x ++ k.0) h.1 ∙ append_assoc front h.0 k.0)

-- all steps go down
steps_under : (document : Node) (front : Place) (q : Syntax) (context : List Place) → All (λ place. Under place front) context → All (λ place. Under place front) (steps_to document context (map main_of q))
steps_under document front [] context all = all
steps_under document front (s ∷ q) context all =
    steps_under document front q (step_to document context (main_of s))
    (step_all document (λ place. Under place front) (λ place. Under place front) context s (λ above place h r f. under_more front above place h (reached_under s.separator above place r)) all)

place_of_end : (front : List Label) (l : Label) → place_of front ++ label l ∷ [] ≡ place_of (front ++ l ∷ [])
place_of_end [] l = refl
place_of_end (m ∷ front) l = ap (λ (x : Place). label m ∷ x) (place_of_end front l)

-- from the node at a name, anchored steps lead to the one further down by their labels, and all others go down from there
anchored_under : (document : Node) (q : Syntax) (front name : List Label) (context : List Place) → HaveLabels (take (length name) q) name → All (λ place. place ≡ place_of front) context
    → All (λ place. Under place (place_of (front ++ name))) (steps_to document context (map main_of q))
anchored_under document q front [] context h all =
    steps_under document (place_of (front ++ [])) q context (All-weaker (λ place. place ≡ place_of front) (λ place. Under place (place_of (front ++ []))) (λ place e. ([], e ∙ ap place_of (sym (append-nil front)) ∙ sym (append-nil (place_of (front ++ []))))) context all)
anchored_under document [] front (l ∷ name) context h all = absurd h
anchored_under document (s ∷ q) front (l ∷ name) context h all =
    subst (λ (whole : List Label). All (λ place. Under place (place_of whole)) (steps_to document context (map main_of (s ∷ q)))) (append_assoc front (l ∷ []) name)
    (anchored_under document q (front ++ l ∷ []) name (step_to document context (main_of s)) h.1
    (step_all document (λ place. place ≡ place_of front) (λ place. place ≡ place_of (front ++ l ∷ [])) context s
    (λ above place e r f. anchored_edge document s l above place h.0 r f ∙ ap (λ (x : Place). x ++ label l ∷ []) e ∙ place_of_end front l) all))

-- ---- names

name_of_front : (front : List Label) (rest : Place) → name_of (place_of front ++ rest) ≡ front ++ name_of rest
name_of_front [] rest = refl
name_of_front (l ∷ front) rest = ap (λ (x : List Label). l ∷ x) (name_of_front front rest)

name_under : (name : List Label) (place : Place) → Under place (place_of name) → Under (name_of place) name
name_under name place h = (name_of h.0, ap name_of h.1 ∙ name_of_front name h.0)

-- each place that a query selects lies under the name of its anchored steps
pub selected_under : (document : Node) (query : Syntax) (name : List Label) → LcaName query name → All (λ place. Under (name_of place) name) (selected document query)
selected_under document query name h =
    All-weaker (λ place. Under place (place_of name)) (λ place. Under (name_of place) name) (name_under name) (selected document query)
    (anchored_under document query [] name ([] ∷ []) h.labels (All-cons (λ place. place ≡ place_of []) [] [] refl (All-nil (λ place. place ≡ place_of []))))

-- and so under each name above that one
pub selected_under_above : (document : Node) (query : Syntax) (name above : List Label) → LcaName query name → Under name above → All (λ place. Under (name_of place) above) (selected document query)
selected_under_above document query name above h k =
    All-weaker (λ place. Under (name_of place) name) (λ place. Under (name_of place) above) (λ place u. under_more above name (name_of place) k u) (selected document query) (selected_under document query name h)
