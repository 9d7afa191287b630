-- What lies at and below a place, by what stands right below it.
use Rattle.std.proofs.Common.{◌≡◌, ℕ, zero, suc, ◌+◌, ◌<◌, Bool, true, false, cond, not, ◌&&◌, ◌||◌, List, [], ◌∷◌, ◌++◌, map, refl, ap, sym, ◌∙◌, subst, append-nil, append_assoc, Option, Some, None, option_and_then, option_map, slice_get, arith}
use Rattle.std.specs.List.{list_any, flat_map}
use Rattle.std.specs.Ordering.{is_eq}
use Rattle.std.specs.Str.{bytes_eq}
use Rattle.std.proofs.lemmas.List.Folds.{list_any-append}
use Rattle.std.proofs.lemmas.Slice.Eq.{bytes_eq-Decides}
use Rattle.iris_base.specs.declared.name.Label.{Label}
use Rattle.iris_base.specs.NameOrder.{label_eq, labels_equiv, labels_ties}
use Rattle.iris_base.proofs.Labels.{label_eq-Decides}
use Rattle.iris_tree.specs.declared.plain.Plain.{Plain}
use Rattle.iris_tree.specs.declared.plain.Plain.TheViews.{out-Plain}
use Rattle.iris_tree.specs.Universe.{Node, node, Nodes, no_nodes, nodes, nodes_of, list_of, label_of, local_of, children_of, child_of, AllAfter, IsOrdered, AreOrdered}
use Rattle.iris_tree.specs.NodeCode.{nodes_of-list_of}
use Rattle.iris_tree.specs.Document.{Edge, position, label, Place, Part, whole, a_node, a_plain, below_plain, below_node, part_at_place, numbered, plain_places, node_places, all_node_places, places}
use Rattle.iris_xpath.specs.Places.{edge_eq}
use Rattle.iris_xpath.proofs.Below.{begins, edge_itself, plain_form, first_found}
use Rattle.iris_xpath.proofs.Passes.{any_alike, any_fails, any_map, any_flat, any_and, or_false, and_assoc}
use Rattle.iris_select.specs.Parts.{Child, child, plain_children, node_child, children, child_part, part_below, places_in, InOrder}

-- ---- the places, by those right below

-- it and all below it, by the edge to it
abbrev pub under : Node → Child → List Place
under document c = map (λ place. c.edge ∷ place) (places_in document c.part)

flat_append : {A B : Type 0} (f : A → List B) (xs ys : List A) → flat_map f (xs ++ ys) ≡ flat_map f xs ++ flat_map f ys
flat_append f [] ys = refl
flat_append f (x ∷ xs) ys = ap (λ zs. f x ++ zs) (flat_append f xs ys) ∙ sym (append_assoc (f x) (flat_map f xs) (flat_map f ys))

plain_under : (document : Node) (i : ℕ) (ps : List Plain) → numbered i (map plain_places ps) ≡ flat_map (under document) (plain_children i ps)
plain_under document i [] = refl
plain_under document i (p ∷ ps) =
    ap (λ qs. qs ++ numbered (i + 1) (map plain_places ps)) (plain_form p i) ∙ ap (λ qs. map (λ place. position i ∷ place) ([] ∷ numbered 0 (map plain_places (out-Plain p).kids)) ++ qs) (plain_under document (i + 1) ps)

node_under : (document n : Node) → node_places n ≡ under document (node_child n)
node_under document (node l local ns) = ap (λ ms. map (λ place. label l ∷ place) ([] ∷ numbered 0 (map plain_places local.plain) ++ all_node_places ms)) (sym (nodes_of-list_of ns))

nodes_under : (document : Node) (ns : Nodes) → all_node_places ns ≡ flat_map (under document) (map node_child (list_of ns))
nodes_under document no_nodes = refl
nodes_under document (nodes n ns) = ap (λ ps. ps ++ all_node_places ns) (node_under document n) ∙ ap (λ ps. under document (node_child n) ++ ps) (nodes_under document ns)

-- a place, and then those at and below each that stands right below it
pub places_form : (document : Node) (part : Part) → places_in document part ≡ [] ∷ flat_map (under document) (children document part)
places_form document whole = ap (λ ps. [] ∷ ps) (node_under document document ∙ sym (append-nil (under document (node_child document))))
places_form document (a_node (node l local ns)) =
    ap (λ ps. [] ∷ ps)
    (ap (λ ps. ps ++ all_node_places (nodes_of (list_of ns))) (plain_under document 0 local.plain)
    ∙ ap (λ ms. flat_map (under document) (plain_children 0 local.plain) ++ all_node_places ms) (nodes_of-list_of ns)
    ∙ ap (λ ps. flat_map (under document) (plain_children 0 local.plain) ++ ps) (nodes_under document ns)
    ∙ sym (flat_append (under document) (plain_children 0 local.plain) (map node_child (list_of ns))))
places_form document (a_plain p) = ap (λ ps. [] ∷ ps) (plain_under document 0 (out-Plain p).kids)

-- whether a place there passes a test: its own, or one at or below what stands right below it
pub any_in : (document : Node) (part : Part) (t : Place → Bool) → list_any t (places_in document part) ≡ (t [] || list_any (λ c. list_any (λ q. t (c.edge ∷ q)) (places_in document c.part)) (children document part))
any_in document part t =
    ap (list_any t) (places_form document part)
    ∙ ap (λ b. t [] || b) (any_flat t (under document) (children document part) ∙ any_alike _ _ (λ (c : Child). any_map t (λ place. c.edge ∷ place) (places_in document c.part)) (children document part))

-- ---- the one that stands at an edge

-- what stands there, by the first edge
pub part_step : (document : Node) (part : Part) (e : Edge) (path : Place) → part_below document part (e ∷ path) ≡ option_and_then (λ at. part_below document at path) (child_part document part e)
part_step document whole (position i) path = refl
part_step document whole (label l) path = when (label_eq (label_of document) l)
  where
    when : (b : Bool) → cond b (below_node document path) None ≡ option_and_then (λ at. part_below document at path) (cond b (Some (a_node document)) None)
    when true = refl
    when false = refl
part_step document (a_node n) (position i) path = mapped (slice_get (local_of n).plain i)
  where
    mapped : (o : Option Plain) → option_and_then (λ p. below_plain p path) o ≡ option_and_then (λ at. part_below document at path) (option_map a_plain o)
    mapped None = refl
    mapped (Some p) = refl
part_step document (a_node n) (label l) path = mapped (child_of l (children_of n))
  where
    mapped : (o : Option Node) → option_and_then (λ c. below_node c path) o ≡ option_and_then (λ at. part_below document at path) (option_map a_node o)
    mapped None = refl
    mapped (Some p) = refl
part_step document (a_plain q) (position i) path = mapped (slice_get (out-Plain q).kids i)
  where
    mapped : (o : Option Plain) → option_and_then (λ p. below_plain p path) o ≡ option_and_then (λ at. part_below document at path) (option_map a_plain o)
    mapped None = refl
    mapped (Some p) = refl
part_step document (a_plain q) (label l) path = refl

-- what stands there itself
pub part_here : (document : Node) (part : Part) → part_below document part [] ≡ Some part
part_here document whole = refl
part_here document (a_node n) = refl
part_here document (a_plain p) = refl

position_other : (i j : ℕ) → (i ≡ j → ⊥) → edge_eq (position i) (position j) ≡ false
position_other i j h = decided (bytes_eq (i ∷ []) (j ∷ [])) refl
  where
    decided : (b : Bool) → bytes_eq (i ∷ []) (j ∷ []) ≡ b → b ≡ false
    decided true e = let same : i ∷ [] ≡ j ∷ [] = (bytes_eq-Decides (i ∷ []) (j ∷ [])).0 e in absurd (h (cc))
    decided false e = refl

no_position : (g : Child → Bool) (i : ℕ) (ns : List Node) → list_any (λ c. edge_eq (position i) c.edge && g c) (map node_child ns) ≡ false
no_position g i [] = refl
no_position g i (n ∷ ns) = no_position g i ns

no_label : (g : Child → Bool) (l : Label) (i : ℕ) (ps : List Plain) → list_any (λ c. edge_eq (label l) c.edge && g c) (plain_children i ps) ≡ false
no_label g l i [] = refl
no_label g l i (p ∷ ps) = no_label g l (i + 1) ps

none_later : (g : Child → Bool) (i j : ℕ) (ps : List Plain) → i < j → list_any (λ c. edge_eq (position i) c.edge && g c) (plain_children j ps) ≡ false
none_later g i j [] h = refl
none_later g i j (p ∷ ps) h = rw (position_other i j (λ e. absurd (omega (arith, e)))) (none_later g i (j + 1) ps (omega arith))

plain_at : (g : Child → Bool) (i k : ℕ) (ps : List Plain) (p : Plain) → slice_get ps k ≡ Some p → list_any (λ c. edge_eq (position (i + k)) c.edge && g c) (plain_children i ps) ≡ g (child (position (i + k)) (a_plain p))
plain_at g i k [] p h = absurd (cc)
plain_at g i zero (q ∷ ps) p h =
    let same : q ≡ p = cc in
    let e : i ≡ i + 0 = omega arith in
    subst (λ (m : ℕ). list_any (λ c. edge_eq (position m) c.edge && g c) (plain_children i (q ∷ ps)) ≡ g (child (position m) (a_plain p))) e
    (ap (λ b. (b && g (child (position i) (a_plain q))) || list_any (λ c. edge_eq (position i) c.edge && g c) (plain_children (i + 1) ps)) (edge_itself (position i)) ∙ ap (λ b. g (child (position i) (a_plain q)) || b) (none_later g i (i + 1) ps (omega arith)) ∙ or_false _ ∙ ap (λ (r : Plain). g (child (position i) (a_plain r))) same)
plain_at g i (suc k) (q ∷ ps) p h =
    rw (position_other (i + suc k) i (λ e. absurd (omega (arith, e))))
    (subst (λ (m : ℕ). list_any (λ c. edge_eq (position m) c.edge && g c) (plain_children (i + 1) ps) ≡ g (child (position m) (a_plain p))) (omega arith) (plain_at g (i + 1) k ps p h))

none_after : (g : Child → Bool) (l : Label) (ns : Nodes) → AllAfter l ns → list_any (λ c. edge_eq (label l) c.edge && g c) (map node_child (list_of ns)) ≡ false
none_after g l no_nodes h = refl
none_after g l (nodes n ns) h = rw (labels_ties l (label_of n) ∙ ap is_eq h.0) (none_after g l ns h.1)

node_first : (g : Child → Bool) (l : Label) (n c : Node) (ns : Nodes) (b : Bool) → label_eq (label_of n) l ≡ b → AllAfter (label_of n) ns → cond b (Some n) (child_of l (list_of ns)) ≡ Some c
    → (child_of l (list_of ns) ≡ Some c → list_any (λ d. edge_eq (label l) d.edge && g d) (map node_child (list_of ns)) ≡ g (child (label l) (a_node c)))
    → list_any (λ d. edge_eq (label l) d.edge && g d) (map node_child (n ∷ list_of ns)) ≡ g (child (label l) (a_node c))
node_first g l n c ns true e after found later =
    let same : label_of n ≡ l = (label_eq-Decides (label_of n) l).0 e in
    let it : n ≡ c = cc in
    ap (λ b. (b && g (node_child n)) || list_any (λ d. edge_eq (label l) d.edge && g d) (map node_child (list_of ns))) (labels_equiv.symm l (label_of n) ∙ e)
    ∙ ap (λ b. g (node_child n) || b) (none_after g l ns (subst (λ (m : Label). AllAfter m ns) same after))
    ∙ or_false (g (node_child n))
    ∙ ap (λ (m : Label). g (child (label m) (a_node n))) same
    ∙ ap (λ (m : Node). g (child (label l) (a_node m))) it
node_first g l n c ns false e after found later =
    ap (λ b. (b && g (node_child n)) || list_any (λ d. edge_eq (label l) d.edge && g d) (map node_child (list_of ns))) (labels_equiv.symm l (label_of n) ∙ e) ∙ later found

node_at_label : (g : Child → Bool) (l : Label) (c : Node) (ns : Nodes) → AreOrdered ns → child_of l (list_of ns) ≡ Some c → list_any (λ d. edge_eq (label l) d.edge && g d) (map node_child (list_of ns)) ≡ g (child (label l) (a_node c))
node_at_label g l c no_nodes ordered found = absurd (cc)
node_at_label g l c (nodes n ns) ordered found = node_first g l n c ns (label_eq (label_of n) l) refl ordered.1 found (λ h. node_at_label g l c ns ordered.2 h)

mapped_some : {A B : Type 0} (f : A → B) (o : Option A) (y : B) → option_map f o ≡ Some y → (x : A) × (o ≡ Some x) × (f x ≡ y)
mapped_some f None y h = absurd (cc)
mapped_some f (Some x) y h = (x, refl, cc)

top_at_label : (document : Node) (l : Label) (y : Part) (b : Bool) → label_eq (label_of document) l ≡ b → (if_so : cond b (Some (a_node document)) None ≡ Some y) → (b ≡ true) × (a_node document ≡ y)
top_at_label document l y true e h = (refl, cc)
top_at_label document l y false e h = absurd (cc)

plain_here : (g : Child → Bool) (i : ℕ) (ps : List Plain) (p : Plain) → slice_get ps i ≡ Some p → list_any (λ c. edge_eq (position i) c.edge && g c) (plain_children 0 ps) ≡ g (child (position i) (a_plain p))
plain_here g i ps p h =
    let e : 0 + i ≡ i = omega arith in
    subst (λ (m : ℕ). list_any (λ c. edge_eq (position m) c.edge && g c) (plain_children 0 ps) ≡ g (child (position m) (a_plain p))) e (plain_at g 0 i ps p h)

-- just one of those right below stands at the edge
pub one_child : (document : Node) (part y : Part) (e : Edge) (g : Child → Bool) → InOrder document part → child_part document part e ≡ Some y → list_any (λ c. edge_eq e c.edge && g c) (children document part) ≡ g (child e y)
one_child document whole y (position i) g ordered h = absurd (cc)
one_child document whole y (label l) g ordered h =
    let top = top_at_label document l y (label_eq (label_of document) l) refl h in
    or_false _ ∙ ap (λ b. b && g (node_child document)) (labels_equiv.symm l (label_of document) ∙ top.0)
    ∙ ap (λ (m : Label). g (child (label m) (a_node document))) ((label_eq-Decides (label_of document) l).0 top.0) ∙ ap (λ (x : Part). g (child (label l) x)) top.1
one_child document (a_node (node m local ns)) y (position i) g ordered h =
    let p = mapped_some a_plain (slice_get local.plain i) y h in
    list_any-append (λ c. edge_eq (position i) c.edge && g c) (plain_children 0 local.plain) (map node_child (list_of ns))
    ∙ ap (λ b. list_any (λ c. edge_eq (position i) c.edge && g c) (plain_children 0 local.plain) || b) (no_position g i (list_of ns)) ∙ or_false _
    ∙ plain_here g i local.plain p.0 p.1 ∙ ap (λ (x : Part). g (child (position i) x)) p.2
one_child document (a_node (node m local ns)) y (label l) g ordered h =
    let c = mapped_some a_node (child_of l (list_of ns)) y h in
    list_any-append (λ c. edge_eq (label l) c.edge && g c) (plain_children 0 local.plain) (map node_child (list_of ns))
    ∙ ap (λ b. b || list_any (λ c. edge_eq (label l) c.edge && g c) (map node_child (list_of ns))) (no_label g l 0 local.plain)
    ∙ node_at_label g l c.0 ns ordered c.1 ∙ ap (λ (x : Part). g (child (label l) x)) c.2
one_child document (a_plain q) y (position i) g ordered h =
    let p = mapped_some a_plain (slice_get (out-Plain q).kids i) y h in
    plain_here g i (out-Plain q).kids p.0 p.1 ∙ ap (λ (x : Part). g (child (position i) x)) p.2
one_child document (a_plain q) y (label l) g ordered h = absurd (cc)

-- ---- order goes down

this_or_later : (n c : Node) (o : Option Node) (b : Bool) → cond b (Some n) o ≡ Some c → IsOrdered n → (o ≡ Some c → IsOrdered c) → IsOrdered c
this_or_later n c o true h ordered later = let it : n ≡ c = cc in subst (λ m. IsOrdered m) it ordered
this_or_later n c o false h ordered later = later h

ordered_at : (l : Label) (c : Node) (ns : Nodes) → AreOrdered ns → child_of l (list_of ns) ≡ Some c → IsOrdered c
ordered_at l c no_nodes ordered found = absurd (cc)
ordered_at l c (nodes n ns) ordered found = this_or_later n c (child_of l (list_of ns)) (label_eq (label_of n) l) found ordered.0 (λ h. ordered_at l c ns ordered.2 h)

-- what stands right below is in order too
pub order_below : (document : Node) (part y : Part) (e : Edge) → InOrder document part → child_part document part e ≡ Some y → InOrder document y
order_below document whole y (position i) ordered h = absurd (cc)
order_below document whole y (label l) ordered h =
    let top = top_at_label document l y (label_eq (label_of document) l) refl h in
    subst (λ x. InOrder document x) top.1 ordered
order_below document (a_node (node m local ns)) y (position i) ordered h =
    let p = mapped_some a_plain (slice_get local.plain i) y h in subst (λ x. InOrder document x) p.2 tt
order_below document (a_node (node m local ns)) y (label l) ordered h =
    let c = mapped_some a_node (child_of l (list_of ns)) y h in subst (λ x. InOrder document x) c.2 (ordered_at l c.0 ns ordered c.1)
order_below document (a_plain q) y (position i) ordered h =
    let p = mapped_some a_plain (slice_get (out-Plain q).kids i) y h in subst (λ x. InOrder document x) p.2 tt
order_below document (a_plain q) y (label l) ordered h = absurd (cc)

-- ---- at and below a place

-- of all places, those that go on from one in a way are those at and below what stands there
pub at_below : (document : Node) (t w : Place → Bool) (part : Part) (path : Place) (y : Part) → InOrder document part → part_below document part path ≡ Some y
    → list_any (λ q. begins t path q && w q) (places_in document part) ≡ list_any (λ q. t q && w (path ++ q)) (places_in document y)
at_below document t w part [] y ordered h =
    let it : part ≡ y = let here : part_below document part [] ≡ Some part = part_here document part in cc in
    ap (λ (x : Part). list_any (λ q. t q && w q) (places_in document x)) it
at_below document t w part (e ∷ path) y ordered h =
    let c = first_found (λ at. part_below document at path) (child_part document part e) y (sym (part_step document part e path) ∙ h) in
    let g = λ (d : Child). list_any (λ q. begins t path q && w (d.edge ∷ q)) (places_in document d.part) in
    any_in document part (λ q. begins t (e ∷ path) q && w q)
    ∙ any_alike _ _ (λ (d : Child).
    any_alike _ _ (λ q. and_assoc (edge_eq e d.edge) (begins t path q) (w (d.edge ∷ q))) (places_in document d.part)
    ∙ any_and (edge_eq e d.edge) (λ q. begins t path q && w (d.edge ∷ q)) (places_in document d.part)) (children document part)
    ∙ one_child document part c.0 e g ordered c.1
    ∙ at_below document t (λ q. w (e ∷ q)) c.0 path y (order_below document part c.0 e ordered c.1) c.2
