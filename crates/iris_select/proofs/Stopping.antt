-- Where no step may be taken nothing is found, and a step with an id goes to one child alone.
use Rattle.std.proofs.Common.{◌≡◌, ℕ, ◌+◌, Bool, true, false, cond, ◌&&◌, ◌||◌, List, [], ◌∷◌, ◌++◌, map, filter, find, refl, ap, sym, ◌∙◌, subst, append_assoc, drop, Option, Some, None, option_map, option_and_then, slice_get, true≢false, codes}
use Rattle.std.specs.List.{list_any, flat_map}
use Rattle.std.specs.Ordering.{is_eq}
use Rattle.std.specs.Str.{bytes_eq}
use Rattle.std.proofs.lemmas.Slice.Eq.{bytes_eq-Decides}
use Rattle.iris_base.specs.declared.name.Label.{Label}
use Rattle.iris_base.specs.NameOrder.{label_eq, labels_equiv, labels_ties}
use Rattle.iris_base.proofs.Labels.{label_eq-Decides}
use Rattle.iris_tree.specs.declared.plain.Plain.{Plain}
use Rattle.iris_tree.specs.declared.plain.Plain.TheViews.{out-Plain}
use Rattle.iris_tree.specs.Universe.{Node, node, Nodes, no_nodes, nodes, list_of, label_of, local_of, children_of, child_of, AllAfter, IsOrdered, AreOrdered}
use Rattle.iris_tree.specs.Document.{Edge, position, label, Place, Part, whole, a_node, a_plain, part_at_place}
use Rattle.iris_xpath.specs.declared.expression.Expression.{Expression}
use Rattle.iris_xpath.specs.declared.expression.Step.{Step}
use Rattle.iris_xpath.specs.declared.expression.NameTest.{NameTest}
use Rattle.iris_xpath.specs.declared.expression.NameTest.TheVariants.{Any, Kind, Tag}
use Rattle.iris_xpath.specs.declared.expression.Separator.TheVariants.{Slash, DoubleSlash}
use Rattle.iris_xpath.specs.declared.expression.Comparison.TheVariants.{Equal}
use Rattle.iris_xpath.specs.Places.{edge_eq}
use Rattle.iris_xpath.specs.Meaning.{passes, holds, all_hold, fits}
use Rattle.iris_xpath.specs.Syntax.{Condition, compares, values_of, attribute, literal, Conditions, conditions, conditions_of, condition_of, MainStep, main_of}
use Rattle.iris_xpath.specs.Thin.{Equals}
use Rattle.iris_xpath.specs.ThinQuery.{equality, equality_of, kind_of}
use Rattle.iris_xpath.proofs.ThinQuery.{expression_is, condition_is}
use Rattle.iris_xpath.proofs.Below.{first_found}
use Rattle.iris_xpath.proofs.SelectedPlaces.{filter_same}
use Rattle.iris_xpath.proofs.Passes.{and_never, or_false}
use Rattle.iris_select.specs.Parts.{Child, child, plain_children, node_child, children, child_part, part_below, places_in, InOrder}
use Rattle.iris_select.specs.Walking.{is_deep, further, ends_here, taken, arrives, Stops, IsOnlyLabel, IsOnlyChild, found_at, found_below}
use Rattle.iris_select.proofs.Parts.{part_here, part_step, order_below}

-- the step, if there is one
abbrev pub one_of : Option MainStep → List MainStep
one_of None = []
one_of (Some s) = s ∷ []

-- ---- nothing may be taken

pub nothing : (document : Node) (place : Place) (ss : List MainStep) (bs : List Bool) → taken ss bs ≡ [] → Stops document ss bs place
nothing document place [] bs h = record { no_further = refl; no_end = refl }
nothing document place (s ∷ ss) [] h = record { no_further = refl; no_end = refl }
nothing document place (s ∷ ss) (true ∷ bs) h = absurd (cc)
nothing document place (s ∷ ss) (false ∷ bs) h =
    let k = nothing document place ss bs h in
    record { no_further = k.no_further; no_end = k.no_end }

-- the one step that may be taken does not fit
pub one_stops : (document : Node) (place : Place) (s : MainStep) (ss : List MainStep) (bs : List Bool) → taken ss bs ≡ s ∷ [] → fits document s place ≡ false → is_deep s.separator ≡ false → Stops document ss bs place
one_stops document place s [] bs h misses shallow = absurd (cc)
one_stops document place s (t ∷ ss) [] h misses shallow = absurd (cc)
one_stops document place s (t ∷ ss) (true ∷ bs) h misses shallow =
    let same : t ≡ s = cc in
    let none : taken ss bs ≡ [] = cc in
    let k = nothing document place ss bs none in
    let f : fits document t place ≡ false = ap (λ (x : MainStep). fits document x place) same ∙ misses in
    let d : is_deep t.separator ≡ false = ap (λ (x : MainStep). is_deep x.separator) same ∙ shallow in
    record {
      no_further =
          ap (λ b. cond b (t ∷ taken ss (further document place (fits document t place) ss bs)) (taken ss (further document place (fits document t place) ss bs))) d
          ∙ ap (λ b. taken ss (further document place b ss bs)) f ∙ k.no_further;
      no_end = ap (λ b. ends_here document place b ss bs) f ∙ k.no_end;
    }
one_stops document place s (t ∷ ss) (false ∷ bs) h misses shallow =
    let k = one_stops document place s ss bs h misses shallow in
    record { no_further = k.no_further; no_end = k.no_end }

arrives_nowhere : (document : Node) (ss : List MainStep) (bs : List Bool) (above path : Place) → taken ss bs ≡ [] → arrives document ss bs false above path ≡ false
arrives_nowhere document ss bs above [] h = refl
arrives_nowhere document ss bs above (e ∷ path) h =
    let at = above ++ e ∷ [] in
    let k = nothing document at ss bs h in
    ap (λ b. arrives document ss (further document at false ss bs) b at path) k.no_end ∙ arrives_nowhere document ss (further document at false ss bs) at path k.no_further

filter_none : {A : Type 0} (xs : List A) → filter (λ x. false) xs ≡ []
filter_none [] = refl
filter_none (x ∷ xs) = filter_none xs

-- where the steps stop nothing is found
pub found_nothing : (document : Node) (ss : List MainStep) (bs : List Bool) (above : Place) (c : Child) → Stops document ss bs (above ++ c.edge ∷ []) → found_at document ss bs above c ≡ []
found_nothing document ss bs above c stops =
    let at = above ++ c.edge ∷ [] in
    let more = further document at false ss bs in
    ap (λ b. map (λ path. at ++ path) (filter (arrives document ss more b at) (places_in document c.part))) stops.no_end
    ∙ ap (map (λ path. at ++ path)) (filter_same _ (λ path. false) (λ path. arrives_nowhere document ss more at path stops.no_further) (places_in document c.part) ∙ filter_none (places_in document c.part))

flat_nothing : {A B : Type 0} (f : A → List B) (xs : List A) → ((x : A) → f x ≡ []) → flat_map f xs ≡ []
flat_nothing f [] h = refl
flat_nothing f (x ∷ xs) h = ap (λ ys. ys ++ flat_map f xs) (h x) ∙ flat_nothing f xs h

pub none_taken : (ss : List MainStep) (bs : List Bool) → list_any (λ b. b) bs ≡ false → taken ss bs ≡ []
none_taken [] bs h = refl
none_taken (s ∷ ss) [] h = refl
none_taken (s ∷ ss) (true ∷ bs) h = absurd (cc)
none_taken (s ∷ ss) (false ∷ bs) h = none_taken ss bs h

-- no step may be taken
pub found_none : (document : Node) (ss : List MainStep) (bs : List Bool) (above : Place) (part : Part) → list_any (λ b. b) bs ≡ false → [] ≡ found_below document ss bs above part
found_none document ss bs above part h =
    sym (flat_nothing (found_at document ss bs above) (children document part) (λ (c : Child). found_nothing document ss bs above c (nothing document (above ++ c.edge ∷ []) ss bs (none_taken ss bs h))))

-- ---- one child alone

flat_append : {A B : Type 0} (f : A → List B) (xs ys : List A) → flat_map f (xs ++ ys) ≡ flat_map f xs ++ flat_map f ys
flat_append f [] ys = refl
flat_append f (x ∷ xs) ys = ap (λ zs. f x ++ zs) (flat_append f xs ys) ∙ sym (append_assoc (f x) (flat_map f xs) (flat_map f ys))

-- what is found at what stands at a label, if something does
abbrev pub found_by : (Child → List Place) → Label → Option Part → List Place
found_by f l None = []
found_by f l (Some y) = f (child (label l) y)

nil_right : {A : Type 0} (xs ys : List A) → ys ≡ [] → xs ++ ys ≡ xs
nil_right [] ys h = h
nil_right (x ∷ xs) ys h = ap (λ zs. x ∷ zs) (nil_right xs ys h)

module _ (f : Child → List Place) (l : Label) (elsewhere : (c : Child) → edge_eq (label l) c.edge ≡ false → f c ≡ []) where
  plain_nothing : (i : ℕ) (ps : List Plain) → flat_map f (plain_children i ps) ≡ []
  plain_nothing i [] = refl
  plain_nothing i (p ∷ ps) = ap (λ ys. ys ++ flat_map f (plain_children (i + 1) ps)) (elsewhere (child (position i) (a_plain p)) refl) ∙ plain_nothing (i + 1) ps

  after_nothing : (ns : Nodes) → AllAfter l ns → flat_map f (map node_child (list_of ns)) ≡ []
  after_nothing no_nodes h = refl
  after_nothing (nodes n ns) h = ap (λ ys. ys ++ flat_map f (map node_child (list_of ns))) (elsewhere (node_child n) (labels_ties l (label_of n) ∙ ap is_eq h.0)) ∙ after_nothing ns h.1

  first_or_later : (n : Node) (ns : Nodes) (b : Bool) → label_eq (label_of n) l ≡ b → AllAfter (label_of n) ns → flat_map f (map node_child (list_of ns)) ≡ found_by f l (option_map a_node (child_of l (list_of ns)))
      → f (node_child n) ++ flat_map f (map node_child (list_of ns)) ≡ found_by f l (option_map a_node (cond b (Some n) (child_of l (list_of ns))))
  first_or_later n ns true e after later =
      let same : label_of n ≡ l = (label_eq-Decides (label_of n) l).0 e in
      nil_right (f (node_child n)) _ (after_nothing ns (subst (λ (m : Label). AllAfter m ns) same after)) ∙ ap (λ (m : Label). f (child (label m) (a_node n))) same
  first_or_later n ns false e after later =
      ap (λ ys. ys ++ flat_map f (map node_child (list_of ns))) (elsewhere (node_child n) (labels_equiv.symm l (label_of n) ∙ e)) ∙ later

  nodes_by : (ns : Nodes) → AreOrdered ns → flat_map f (map node_child (list_of ns)) ≡ found_by f l (option_map a_node (child_of l (list_of ns)))
  nodes_by no_nodes ordered = refl
  nodes_by (nodes n ns) ordered = first_or_later n ns (label_eq (label_of n) l) refl ordered.1 (nodes_by ns ordered.2)

  top_by : (document : Node) (b : Bool) → label_eq (label_of document) l ≡ b → f (node_child document) ++ [] ≡ found_by f l (cond b (Some (a_node document)) None)
  top_by document true e = nil_right (f (node_child document)) [] refl ∙ ap (λ (m : Label). f (child (label m) (a_node document))) ((label_eq-Decides (label_of document) l).0 e)
  top_by document false e = ap (λ ys. ys ++ []) (elsewhere (node_child document) (labels_equiv.symm l (label_of document) ∙ e))

  -- all that is found is found at that label
  pub found_by_label : (document : Node) (part : Part) → InOrder document part → flat_map f (children document part) ≡ found_by f l (child_part document part (label l))
  found_by_label document whole ordered = top_by document (label_eq (label_of document) l) refl
  found_by_label document (a_node (node m local ns)) ordered =
      flat_append f (plain_children 0 local.plain) (map node_child (list_of ns))
      ∙ ap (λ ys. ys ++ flat_map f (map node_child (list_of ns))) (plain_nothing 0 local.plain) ∙ nodes_by ns ordered
  found_by_label document (a_plain p) ordered = plain_nothing 0 (out-Plain p).kids

-- by steps that go on at one child alone
pub found_only : (document : Node) (ss : List MainStep) (bs : List Bool) (above : Place) (part : Part) (l : Label) → InOrder document part → IsOnlyChild ss bs l
    → found_below document ss bs above part ≡ found_by (found_at document ss bs above) l (child_part document part (label l))
found_only document ss bs above part l ordered only =
    found_by_label (found_at document ss bs above) l (λ (c : Child) differs. found_nothing document ss bs above c (only document above c.edge differs)) document part ordered

-- ---- a step with an id

pub only_child : (s : MainStep) (ss : List MainStep) (bs : List Bool) (l : Label) → taken ss bs ≡ s ∷ [] → is_deep s.separator ≡ false → IsOnlyLabel s l → IsOnlyChild ss bs l
only_child s ss bs l one shallow misses document above e differs = one_stops document (above ++ e ∷ []) s ss bs one (misses document above e differs) shallow

found_labelled : (l : Label) (n : Node) (ns : List Node) → child_of l ns ≡ Some n → label_of n ≡ l
found_labelled l n [] h = absurd (cc)
found_labelled l n (m ∷ ns) h = decided (label_eq (label_of m) l) refl h (λ k. found_labelled l n ns k)
  where
    decided : (b : Bool) → label_eq (label_of m) l ≡ b → cond b (Some m) (child_of l ns) ≡ Some n → (child_of l ns ≡ Some n → label_of n ≡ l) → label_of n ≡ l
    decided true e h later = let it : m ≡ n = cc in ap label_of (sym it) ∙ (label_eq-Decides (label_of m) l).0 e
    decided false e h later = later h

no_plain_node : (o : Option Plain) (n : Node) → option_map a_plain o ≡ Some (a_node n) → ⊥
no_plain_node None n h = cc
no_plain_node (Some p) n h = cc

mapped_node : (o : Option Node) (n : Node) → option_map a_node o ≡ Some (a_node n) → o ≡ Some n
mapped_node None n h = absurd (cc)
mapped_node (Some m) n h = let it : m ≡ n = cc in ap (λ (k : Node). Some k) it

child_label : (document : Node) (part : Part) (e : Edge) (n : Node) → child_part document part e ≡ Some (a_node n) → e ≡ label (label_of n)
child_label document whole (position i) n h = absurd (cc)
child_label document whole (label l) n h = decided (label_eq (label_of document) l) refl h
  where
    decided : (b : Bool) → label_eq (label_of document) l ≡ b → cond b (Some (a_node document)) None ≡ Some (a_node n) → label l ≡ label (label_of n)
    decided true e h = let it : document ≡ n = cc in ap label (sym ((label_eq-Decides (label_of document) l).0 e) ∙ ap label_of it)
    decided false e h = absurd (cc)
child_label document (a_node m) (position i) n h = absurd (no_plain_node (slice_get (local_of m).plain i) n h)
child_label document (a_node m) (label l) n h = ap label (sym (found_labelled l n (children_of m) (mapped_node (child_of l (children_of m)) n h)))
child_label document (a_plain p) (position i) n h = absurd (no_plain_node (slice_get (out-Plain p).kids i) n h)
child_label document (a_plain p) (label l) n h = absurd (cc)

pub ends_label : (document : Node) (part : Part) (path : Place) (e : Edge) (n : Node) → part_below document part (path ++ e ∷ []) ≡ Some (a_node n) → e ≡ label (label_of n)
ends_label document part [] e n h =
    let c = first_found (λ at. part_below document at []) (child_part document part e) (a_node n) (sym (part_step document part e []) ∙ h) in
    let same : Some c.0 ≡ Some (a_node n) = sym (part_here document c.0) ∙ c.2 in
    child_label document part e n (c.1 ∙ same)
ends_label document part (f ∷ path) e n h =
    let c = first_found (λ at. part_below document at (path ++ e ∷ [])) (child_part document part f) (a_node n) (sym (part_step document part f (path ++ e ∷ [])) ∙ h) in
    ends_label document c.0 path e n c.2

-- what the first predicate says of a node
pub id_says : (document : Node) (x : Expression) (name value : List ℕ) (place : Place) (n : Node) → equality_of x ≡ Some (record { name = name; value = value }) → bytes_eq name (codes "id") ≡ true → part_at_place document place ≡ Some (a_node n)
    → holds document (condition_of x) place ≡ bytes_eq (label_of n).id value
id_says document x name value place n says is there =
    let e : Equals = record { name = name; value = value } in
    ap (λ (y : Expression). holds document (condition_of y) place) (expression_is x e says)
    ∙ ap (λ (c : Condition). holds document c place) (condition_is e)
    ∙ rw (there, is) (or_false _ ∙ or_false _)

pub label_apart : (l : Label) (n : Node) (kind value : List ℕ) → l.kind ≡ kind → l.id ≡ value → label_eq l (label_of n) ≡ false → (rest : Bool) → (bytes_eq (label_of n).kind kind && (bytes_eq (label_of n).id value && rest)) ≡ false
label_apart l n kind value k v differs rest = decided (bytes_eq (label_of n).kind kind) (bytes_eq (label_of n).id value) refl refl
  where
    decided : (b c : Bool) → bytes_eq (label_of n).kind kind ≡ b → bytes_eq (label_of n).id value ≡ c → (b && (c && rest)) ≡ false
    decided false c e h = refl
    decided true false e h = refl
    decided true true e h =
        let kinds : (label_of n).kind ≡ l.kind = (bytes_eq-Decides (label_of n).kind kind).0 e ∙ sym k in
        let ids : (label_of n).id ≡ l.id = (bytes_eq-Decides (label_of n).id value).0 h ∙ sym v in
        let same : label_of n ≡ l = ap (λ (x : List ℕ). record { kind = x; id = (label_of n).id }) kinds ∙ ap (λ (x : List ℕ). record { kind = l.kind; id = x }) ids in
        absurd (true≢false (sym (ap (λ (m : Label). label_eq l m) same ∙ labels_equiv.refl l) ∙ differs))

pub of_kind : (t : NameTest) (kind : List ℕ) → kind_of t ≡ Some kind → t ≡ Kind kind
of_kind Any kind h = absurd (cc)
of_kind (Kind k) kind h = let it : k ≡ kind = cc in ap (λ (x : List ℕ). Kind x) it
of_kind (Tag tag) kind h = absurd (cc)

-- the first predicate of a step is `@id='..'`, and its test a kind
pub only_label : (s : Step Expression) (kind name value : List ℕ) (x : Expression) (xs : List Expression) (l : Label) → kind_of s.test ≡ Some kind → s.predicates ≡ x ∷ xs → equality_of x ≡ Some (record { name = name; value = value })
    → bytes_eq name (codes "id") ≡ true → l.kind ≡ kind → l.id ≡ value → IsOnlyLabel (main_of s) l
only_label s kind name value x xs l test first says is k v document above e differs =
    ap (λ (t : NameTest). passes (part_at_place document at) t && all_hold document (conditions_of (map condition_of s.predicates)) at) (of_kind s.test kind test)
    ∙ ap (λ (ys : List Expression). passes (part_at_place document at) (Kind kind) && all_hold document (conditions_of (map condition_of ys)) at) first
    ∙ by_part (part_at_place document at) refl
  where
    at : Place
    at = above ++ e ∷ []

    rest : Bool
    rest = all_hold document (conditions_of (map condition_of xs)) at

    by_part : (o : Option Part) → part_at_place document at ≡ o → (passes o (Kind kind) && (holds document (condition_of x) at && rest)) ≡ false
    by_part None there = refl
    by_part (Some whole) there = refl
    by_part (Some (a_plain p)) there = refl
    by_part (Some (a_node n)) there =
        ap (λ b. bytes_eq (label_of n).kind kind && (b && rest)) (id_says document x name value at n says is there)
        ∙ label_apart l n kind value k v (ap (λ (f : Edge). edge_eq (label l) f) (sym (ends_label document whole above e n there)) ∙ differs) rest

-- the first of a list, and the others
pub first_of : {A : Type 0} (xs : List A) (x : A) → slice_get xs 0 ≡ Some x → xs ≡ x ∷ drop 1 xs
first_of [] x h = absurd (cc)
first_of (y ∷ ys) x h = let same : y ≡ x = cc in ap (λ z. z ∷ ys) same

-- ---- order

-- what stands at a place is in order
pub order_at : (document : Node) (part : Part) (path : Place) (y : Part) → InOrder document part → part_below document part path ≡ Some y → InOrder document y
order_at document part [] y ordered h =
    let it : part ≡ y = let here : part_below document part [] ≡ Some part = part_here document part in cc in
    subst (λ (x : Part). InOrder document x) it ordered
order_at document part (e ∷ path) y ordered h =
    let c = first_found (λ at. part_below document at path) (child_part document part e) y (sym (part_step document part e path) ∙ h) in
    order_at document c.0 path y (order_below document part c.0 e ordered c.1) c.2
