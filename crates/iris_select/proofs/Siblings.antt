-- Each that stands right below a place is found there by its edge.
use Rattle.iris_xpath.proofs.Below.{first_found}
use Rattle.std.proofs.Common.{◌≡◌, ℕ, zero, suc, ◌+◌, Bool, cond, ◌||◌, subst, option_and_then, List, [], ◌∷◌, ◌++◌, map, refl, ap, sym, ◌∙◌, Option, Some, None, option_map, slice_get, arith}
use Rattle.std.specs.List.{AllByRecursion, list_any}
use Rattle.iris_base.specs.declared.name.Label.{Label}
use Rattle.iris_base.specs.NameOrder.{label_eq, labels_equiv}
use Rattle.iris_tree.specs.declared.plain.Plain.{Plain}
use Rattle.iris_tree.specs.declared.plain.Plain.TheViews.{out-Plain}
use Rattle.iris_tree.specs.Universe.{Node, node, Nodes, no_nodes, nodes, list_of, label_of, child_of, IsOrdered, AreOrdered}
use Rattle.iris_tree.specs.Document.{Edge, position, label, Place, Part, whole, a_node, a_plain, part_at_place}
use Rattle.std.specs.List.{filter_map}
use Rattle.iris_xpath.specs.Places.{attribute_of}
use Rattle.iris_xpath.specs.Same.{some_passes}
use Rattle.iris_xpath.specs.Meaning.{attribute_at}
use Rattle.iris_xpath.proofs.Passes.{any_alike, any_map, any_filter_map, or_false}
use Rattle.iris_select.specs.Evaluating.{attributes_in, ends_with}
use Rattle.iris_xpath.proofs.Walk.{Finds, finds_all}
use Rattle.iris_select.specs.Parts.{Child, child, plain_children, node_child, children, child_part, part_below, places_in, InOrder}
use Rattle.iris_select.proofs.Parts.{part_step, part_here, any_in}

all_both : {A : Type 0} (P : A → Type 0) (xs ys : List A) → AllByRecursion P xs → AllByRecursion P ys → AllByRecursion P (xs ++ ys)
all_both P [] ys h k = k
all_both P (x ∷ xs) ys h k = (h.0, all_both P xs ys h.1 k)

-- they stand where the function of edges says
abbrev Matches : (Edge → Option Part) → List Child → Type 0
Matches at cs = AllByRecursion (λ c. at c.edge ≡ Some c.part) cs

plain_match : (at : Edge → Option Part) (i : ℕ) (ps : List Plain) → ((k : ℕ) (p : Plain) → slice_get ps k ≡ Some p → at (position (i + k)) ≡ Some (a_plain p)) → Matches at (plain_children i ps)
plain_match at i [] h = tt
plain_match at i (p ∷ ps) h =
    let e : i + 0 ≡ i = omega arith in (
      ap (λ m. at (position m)) (sym e) ∙ h 0 p refl,
      plain_match at (i + 1) ps (λ k q is. let m : (i + 1) + k ≡ i + suc k = omega arith in ap (λ j. at (position j)) m ∙ h (suc k) q is),
    )

node_match : (at : Edge → Option Part) (ms : List Node) (ns : Nodes) → ((l : Label) → at (label l) ≡ option_map a_node (child_of l ms)) → Finds ms ns → Matches at (map node_child (list_of ns))
node_match at ms no_nodes h finds = tt
node_match at ms (nodes n ns) h finds = (h (label_of n) ∙ ap (option_map a_node) finds.0, node_match at ms ns h finds.1)

-- each stands at its edge
pub each_found : (document : Node) (part : Part) → InOrder document part → AllByRecursion (λ c. child_part document part c.edge ≡ Some c.part) (children document part)
each_found document whole ordered = (ap (λ b. cond b (Some (a_node document)) None) (labels_equiv.refl (label_of document)), tt)
each_found document (a_node (node l local ns)) ordered =
    all_both _ (plain_children 0 local.plain) (map node_child (list_of ns))
    (plain_match (child_part document (a_node (node l local ns))) 0 local.plain (λ k p h. let e : 0 + k ≡ k = omega arith in ap (λ j. option_map a_plain (slice_get local.plain j)) e ∙ ap (option_map a_plain) h))
    (node_match (child_part document (a_node (node l local ns))) (list_of ns) ns (λ m. refl) (finds_all ns ordered))
each_found document (a_plain q) ordered =
    plain_match (child_part document (a_plain q)) 0 (out-Plain q).kids (λ k p h. let e : 0 + k ≡ k = omega arith in ap (λ j. option_map a_plain (slice_get (out-Plain q).kids j)) e ∙ ap (option_map a_plain) h)

one_of : {A : Type 0} (P : A → Type 0) (xs : List A) (k : ℕ) (x : A) → AllByRecursion P xs → slice_get xs k ≡ Some x → P x
one_of P [] k x all h = absurd (cc)
one_of P (y ∷ ys) zero x all h = let same : y ≡ x = cc in subst P same all.0
one_of P (y ∷ ys) (suc k) x all h = one_of P ys k x all.1 h

-- the one in hand too
pub child_found : (document : Node) (part : Part) (k : ℕ) (c : Child) → InOrder document part → slice_get (children document part) k ≡ Some c → child_part document part c.edge ≡ Some c.part
child_found document part k c ordered h = one_of _ (children document part) k c (each_found document part ordered) h

-- tests that agree on all of these find the same
pub any_same : {A : Type 0} (P : A → Type 0) (t u : A → Bool) → ((x : A) → P x → t x ≡ u x) → (xs : List A) → AllByRecursion P xs → list_any t xs ≡ list_any u xs
any_same P t u h [] all = refl
any_same P t u h (x ∷ xs) all = ap (λ b. b || list_any t xs) (h x all.0) ∙ ap (λ b. u x || b) (any_same P t u h xs all.1)

-- ---- one edge further

-- what stands at the end of one edge more
pub part_snoc : (document : Node) (part y : Part) (path : Place) (e : Edge) → part_below document part path ≡ Some y → part_below document part (path ++ e ∷ []) ≡ child_part document y e
part_snoc document part y [] e h =
    let it : part ≡ y = let here : part_below document part [] ≡ Some part = part_here document part in cc in
    part_step document part e [] ∙ here_alone (child_part document part e) ∙ ap (λ (x : Part). child_part document x e) it
  where
    here_alone : (o : Option Part) → option_and_then (λ at. part_below document at []) o ≡ o
    here_alone None = refl
    here_alone (Some x) = part_here document x
part_snoc document part y (f ∷ path) e h =
    let c = first_found (λ at. part_below document at path) (child_part document part f) y (sym (part_step document part f path) ∙ h) in
    part_step document part f (path ++ e ∷ [])
    ∙ ap (λ (o : Option Part). option_and_then (λ at. part_below document at (path ++ e ∷ [])) o) c.1
    ∙ part_snoc document c.0 y path e c.2

-- ---- attributes

-- what is found at one end, if there is something
pub ends_with_any : (t : Option (List ℕ) → Bool) (o : Option (List ℕ)) → list_any t (ends_with o) ≡ some_passes (λ v. t (Some v)) o
ends_with_any t None = refl
ends_with_any t (Some v) = or_false (t (Some v))

-- whether one of them passes
pub attributes_any : (document : Node) (part : Part) (name : List ℕ) (t : Option (List ℕ) → Bool)
    → list_any t (attributes_in document part name) ≡ list_any (λ at. some_passes (λ v. t (Some v)) (attribute_at name (part_below document part at))) (places_in document part)
attributes_any document part name t =
    any_map t (λ value. Some value) (filter_map (λ at. attribute_at name (part_below document part at)) (places_in document part))
    ∙ any_filter_map (λ v. t (Some v)) (λ at. attribute_at name (part_below document part at)) (places_in document part)

-- those of a part, and those at and below each that stands right below it
pub attributes_form : (document : Node) (part : Part) (name : List ℕ) → InOrder document part → (t : Option (List ℕ) → Bool)
    → list_any t (attributes_in document part name) ≡ (list_any t (ends_with (attribute_of part name)) || list_any (λ c. list_any t (attributes_in document c.part name)) (children document part))
attributes_form document part name ordered t =
    attributes_any document part name t
    ∙ any_in document part (λ at. some_passes (λ v. t (Some v)) (attribute_at name (part_below document part at)))
    ∙ ap (λ (o : Option Part). some_passes (λ v. t (Some v)) (attribute_at name o) || list_any (λ c. list_any (λ q. some_passes (λ v. t (Some v)) (attribute_at name (part_below document part (c.edge ∷ q)))) (places_in document c.part)) (children document part)) (part_here document part)
    ∙ ap (λ b. b || list_any (λ c. list_any (λ q. some_passes (λ v. t (Some v)) (attribute_at name (part_below document part (c.edge ∷ q)))) (places_in document c.part)) (children document part)) (sym (ends_with_any t (attribute_of part name)))
    ∙ ap (λ b. list_any t (ends_with (attribute_of part name)) || b)
    (any_same _ _ _ (λ (c : Child) found.
    any_alike _ _ (λ q. ap (λ (o : Option Part). some_passes (λ v. t (Some v)) (attribute_at name o)) (part_step document part c.edge q ∙ ap (λ (o : Option Part). option_and_then (λ at. part_below document at q) o) found)) (places_in document c.part)
    ∙ sym (attributes_any document c.part name t)) (children document part) (each_found document part ordered))
