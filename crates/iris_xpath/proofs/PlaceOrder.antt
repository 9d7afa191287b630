-- The places of a document in order rise strictly, and so do those that a query selects.
use Rattle.std.proofs.Common.{◌≡◌, ℕ, ◌+◌, ◌<◌, List, [], ◌∷◌, ◌++◌, ◌&&◌, map, refl, ap, sym, ◌∙◌, subst, append-nil, append_assoc, arith}
use Rattle.std.specs.List.{AllByRecursion, list_any}
use Rattle.std.specs.List.Sorted.{IsStrictlySortedBy}
use Rattle.std.specs.Ordering.{nat_cmp, ordering_then, ordering_reverse}
use Rattle.std.specs.declared.cmp.Ordering.{Ordering}
use Rattle.std.specs.declared.cmp.Ordering.TheVariants.{Less, Equal, Greater}
use Rattle.std.specs.Cmp.{nat_cmp_is}
use Rattle.std.proofs.lemmas.Cmp.{nat_cmp_total}
use Rattle.std.proofs.lemmas.List.Kept.{IsStrictlySortedBy-filter}
use Rattle.iris_base.specs.declared.name.Label.{Label}
use Rattle.iris_base.specs.NameOrder.{label_cmp, labels_total}
use Rattle.iris_tree.specs.declared.plain.Plain.{Plain}
use Rattle.iris_tree.specs.declared.plain.Plain.TheViews.{out-Plain, out-roll-Plain}
use Rattle.iris_tree.specs.declared.plain.Plain.TheFolds.{ind-Plain}
use Rattle.iris_tree.specs.Universe.{Node, node, Nodes, no_nodes, nodes, label_of, AllAfter, IsOrdered, AreOrdered}
use Rattle.iris_tree.specs.Document.{Edge, position, label, Place, numbered, plain_places, node_places, all_node_places, places}
use Rattle.iris_xpath.specs.Syntax.{Syntax, MainStep, main_of}
use Rattle.iris_xpath.specs.Meaning.{is_reached, fits, step_to, steps_to, selected}
use Rattle.iris_xpath.specs.PlaceOrder.{edge_cmp, place_cmp}
use Rattle.iris_xpath.proofs.Below.{below, node_form, plain_form}

abbrev Rises : List Place → Type 0
Rises ps = IsStrictlySortedBy place_cmp ps

-- ---- one edge and another

-- what is its own reverse is equal
pub equal_itself : (o : Ordering) → o ≡ ordering_reverse o → o ≡ Equal
equal_itself Less h = absurd (cc)
equal_itself Equal h = refl
equal_itself Greater h = absurd (cc)

edge_equal : (e : Edge) → edge_cmp e e ≡ Equal
edge_equal (position i) = equal_itself (nat_cmp i i) (nat_cmp_total.antisymm i i)
edge_equal (label l) = equal_itself (label_cmp l l) (labels_total.antisymm l l)

position_less : (i j : ℕ) → i < j → edge_cmp (position i) (position j) ≡ Less
position_less i j h = sym (nat_cmp_is i j Less h)

-- the place begins with an edge that is greater
abbrev BeginsAfter : Edge → Place → Type 0
BeginsAfter e [] = ⊥
BeginsAfter e (f ∷ place) = edge_cmp e f ≡ Less

abbrev AllBeginAfter : Edge → List Place → Type 0
AllBeginAfter e ps = AllByRecursion (BeginsAfter e) ps

-- the place has an edge
abbrev HasEdge : Place → Type 0
HasEdge [] = ⊥
HasEdge (e ∷ place) = Unit {0}

abbrev AllHaveEdges : List Place → Type 0
AllHaveEdges ps = AllByRecursion HasEdge ps

-- ---- lists of places

all_append : (P : Place → Type 0) (ps qs : List Place) → AllByRecursion P ps → AllByRecursion P qs → AllByRecursion P (ps ++ qs)
all_append P [] qs h k = k
all_append P (p ∷ ps) qs h k = (h.0, all_append P ps qs h.1 k)

under_begins : (e f : Edge) (ps : List Place) → edge_cmp e f ≡ Less → AllBeginAfter e (map (λ p. f ∷ p) ps)
under_begins e f [] h = tt
under_begins e f (p ∷ ps) h = (h, under_begins e f ps h)

under_edges : (e : Edge) (ps : List Place) → AllHaveEdges (map (λ p. e ∷ p) ps)
under_edges e [] = tt
under_edges e (p ∷ ps) = (tt, under_edges e ps)

less_after : (e : Edge) (p q : Place) → BeginsAfter e q → place_cmp (e ∷ p) q ≡ Less
less_after e p [] h = absurd h
less_after e p (f ∷ q) h = rw h refl

all_less_after : (e : Edge) (p : Place) (qs : List Place) → AllBeginAfter e qs → AllByRecursion (λ q. place_cmp (e ∷ p) q ≡ Less) qs
all_less_after e p [] h = tt
all_less_after e p (q ∷ qs) h = (less_after e p q h.0, all_less_after e p qs h.1)

less_under : (e : Edge) (p : Place) (qs : List Place) → AllByRecursion (λ q. place_cmp p q ≡ Less) qs → AllByRecursion (λ q. place_cmp (e ∷ p) q ≡ Less) (map (λ q. e ∷ q) qs)
less_under e p [] h = tt
less_under e p (q ∷ qs) h = (ap (λ (o : Ordering). ordering_then o (place_cmp p q)) (edge_equal e) ∙ h.0, less_under e p qs h.1)

rises_under : (e : Edge) (ps : List Place) → Rises ps → Rises (map (λ p. e ∷ p) ps)
unfolding IsStrictlySortedBy
rises_under e [] h = tt
rises_under e (p ∷ ps) h = (less_under e p ps h.0, rises_under e ps h.1)

-- the places under an edge, and then others that begin with greater ones
rises_append : (e : Edge) (ps qs : List Place) → Rises ps → Rises qs → AllBeginAfter e qs → Rises (map (λ p. e ∷ p) ps ++ qs)
unfolding IsStrictlySortedBy
rises_append e [] qs h k after = k
rises_append e (p ∷ ps) qs h k after =
    (all_append (λ q. place_cmp (e ∷ p) q ≡ Less) (map (λ p. e ∷ p) ps) qs (less_under e p ps h.0) (all_less_after e p qs after), rises_append e ps qs h.1 k after)

first_of : (ps : List Place) → AllHaveEdges ps → AllByRecursion (λ q. place_cmp [] q ≡ Less) ps
first_of [] h = tt
first_of ([] ∷ ps) h = absurd h.0
first_of ((e ∷ p) ∷ ps) h = (refl, first_of ps h.1)

rises_first : (ps : List Place) → AllHaveEdges ps → Rises ps → Rises ([] ∷ ps)
unfolding IsStrictlySortedBy
rises_first ps h k = (first_of ps h, k)

-- ---- plain elements

abbrev kids_of : Plain → List Place
kids_of p = [] ∷ numbered 0 (map plain_places (out-Plain p).kids)

numbered_edges : (ps : List Plain) (i : ℕ) (tail : List Place) → AllHaveEdges tail → AllHaveEdges (numbered i (map plain_places ps) ++ tail)
numbered_edges [] i tail h = h
numbered_edges (p ∷ ps) i tail h =
    rw (append_assoc (plain_places p i) (numbered (i + 1) (map plain_places ps)) tail, plain_form p i)
    (all_append HasEdge (map (λ place. position i ∷ place) (kids_of p)) _ (under_edges (position i) (kids_of p)) (numbered_edges ps (i + 1) tail h))

numbered_after : (ps : List Plain) (i j : ℕ) (tail : List Place) → i < j → AllBeginAfter (position i) tail → AllBeginAfter (position i) (numbered j (map plain_places ps) ++ tail)
numbered_after [] i j tail h k = k
numbered_after (p ∷ ps) i j tail h k =
    rw (append_assoc (plain_places p j) (numbered (j + 1) (map plain_places ps)) tail, plain_form p j)
    (all_append (BeginsAfter (position i)) (map (λ place. position j ∷ place) (kids_of p)) _ (under_begins (position i) (position j) (kids_of p) (position_less i j h)) (numbered_after ps i (j + 1) tail (omega (arith, h)) k))

-- the places of kids rise, where those of each do
abbrev KidsRise : Plain → Type 0
KidsRise p = Rises (kids_of p)

numbered_rise : (ps : List Plain) (i : ℕ) (tail : List Place) → AllByRecursion KidsRise ps → Rises tail → ((k : ℕ) → AllBeginAfter (position k) tail) → Rises (numbered i (map plain_places ps) ++ tail)
numbered_rise [] i tail h rise after = rise
numbered_rise (p ∷ ps) i tail h rise after =
    rw (append_assoc (plain_places p i) (numbered (i + 1) (map plain_places ps)) tail, plain_form p i)
    (rises_append (position i) (kids_of p) _ h.0 (numbered_rise ps (i + 1) tail h.1 rise after) (numbered_after ps i (i + 1) tail (omega arith) (after i)))

nothing_rises : Rises []
unfolding IsStrictlySortedBy
nothing_rises = tt

kids_rise_all : (ps : List Plain) → AllByRecursion KidsRise ps → Rises ([] ∷ numbered 0 (map plain_places ps))
kids_rise_all ps h =
    subst (λ (qs : List Place). Rises ([] ∷ qs)) (append-nil (numbered 0 (map plain_places ps)))
    (rises_first _ (numbered_edges ps 0 [] tt) (numbered_rise ps 0 [] h nothing_rises (λ k. tt)))

each_rises : (es : List ((p : Plain) × KidsRise p)) → AllByRecursion KidsRise (map (λ e. e.0) es)
each_rises [] = tt
each_rises (e ∷ es) = (e.1, each_rises es)

kids_rise : (p : Plain) → KidsRise p
kids_rise = ind-Plain KidsRise (λ x y is.
    subst (λ z. Rises ([] ∷ numbered 0 (map plain_places z.kids))) (is ∙ sym (out-roll-Plain x)) (kids_rise_all (map (λ e. e.0) y.kids) (each_rises y.kids)))

plain_rises : (ps : List Plain) → AllByRecursion KidsRise ps
plain_rises [] = tt
plain_rises (p ∷ ps) = (kids_rise p, plain_rises ps)

-- ---- nodes

nodes_edges : (ns : Nodes) → AllHaveEdges (all_node_places ns)
nodes_edges no_nodes = tt
nodes_edges (nodes n ns) = rw (node_form n) (all_append HasEdge (map (λ place. label (label_of n) ∷ place) (below n)) (all_node_places ns) (under_edges (label (label_of n)) (below n)) (nodes_edges ns))

nodes_after_position : (i : ℕ) (ns : Nodes) → AllBeginAfter (position i) (all_node_places ns)
nodes_after_position i no_nodes = tt
nodes_after_position i (nodes n ns) =
    rw (node_form n) (all_append (BeginsAfter (position i)) (map (λ place. label (label_of n) ∷ place) (below n)) (all_node_places ns) (under_begins (position i) (label (label_of n)) (below n) refl) (nodes_after_position i ns))

nodes_after : (l : Label) (ns : Nodes) → AllAfter l ns → AllBeginAfter (label l) (all_node_places ns)
nodes_after l no_nodes h = tt
nodes_after l (nodes n ns) h =
    rw (node_form n) (all_append (BeginsAfter (label l)) (map (λ place. label (label_of n) ∷ place) (below n)) (all_node_places ns) (under_begins (label l) (label (label_of n)) (below n) h.0) (nodes_after l ns h.1))

mutual
  below_rises : (n : Node) → IsOrdered n → Rises (below n)
  below_rises (node l local ns) h =
      rises_first _ (numbered_edges local.plain 0 (all_node_places ns) (nodes_edges ns))
      (numbered_rise local.plain 0 (all_node_places ns) (plain_rises local.plain) (nodes_rise ns h) (λ k. nodes_after_position k ns))

  nodes_rise : (ns : Nodes) → AreOrdered ns → Rises (all_node_places ns)
  nodes_rise no_nodes h = nothing_rises
  nodes_rise (nodes n ns) h = rw (node_form n) (rises_append (label (label_of n)) (below n) (all_node_places ns) (below_rises n h.0) (nodes_rise ns h.2) (nodes_after (label_of n) ns h.1))

node_edges : (n : Node) → AllHaveEdges (node_places n)
node_edges n = rw (node_form n) (under_edges (label (label_of n)) (below n))

-- all places of a document in order
places_rise : (document : Node) → IsOrdered document → Rises (places document)
places_rise document h = rises_first (node_places document) (node_edges document) (rw (node_form document) (rises_under (label (label_of document)) (below document) (below_rises document h)))

-- ---- what a query selects

steps_rise : (document : Node) (context : List Place) (ss : List MainStep) → IsOrdered document → Rises context → Rises (steps_to document context ss)
steps_rise document context [] h rise = rise
steps_rise document context (s ∷ ss) h rise =
    steps_rise document (step_to document context s) ss h
    (IsStrictlySortedBy-filter place_cmp (λ place. list_any (λ above. is_reached s.separator above place) context && fits document s place) (places document) (places_rise document h))

-- what a query selects stands in document order
pub selected_rise : (document : Node) (q : Syntax) → IsOrdered document → IsStrictlySortedBy place_cmp (selected document q)
selected_rise document q h = steps_rise document ([] ∷ []) (map main_of q) h (rises_first [] tt nothing_rises)
