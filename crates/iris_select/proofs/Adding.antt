-- Places that are added to those selected, and the name and the path of a place.
use Rattle.std.proofs.Common.{◌≡◌, ◌⊎◌, inl, inr, ℕ, zero, suc, ◌+◌, ◌*◌, ◌<◌, ◌≤◌, length, option_map, ◌&&◌, Bool, true, false, cond, List, [], ◌∷◌, ◌++◌, map, drop, refl, ap, sym, ◌∙◌, subst, append-nil, append_assoc, Option, Some, None, option_and_then, slice_get, Bor, arith}
use Rattle.std.specs.List.{filter_map, flat_map, cons_option}
use Rattle.std.proofs.lemmas.List.{map-append}
use Rattle.std.proofs.lemmas.List.Elements.{filter_map-append}
use Rattle.iris_base.specs.declared.name.Label.{Label}
use Rattle.iris_base.specs.NameOrder.{label_eq}
use Rattle.iris_tree.specs.declared.plain.Plain.{Plain}
use Rattle.iris_tree.specs.declared.plain.Plain.TheViews.{out-Plain}
use Rattle.iris_tree.specs.Universe.{Node, IsOrdered, label_of, local_of, children_of, child_of}
use Rattle.iris_tree.specs.Document.{Edge, Place, whole, position, label, place_of, name_of, Part, below_plain, below_node, part_at_place}
use Rattle.iris_tree.specs.Items.{item_of, item_at, items_at}
use Rattle.iris_tree.specs.declared.item.Item.{Item}
use Rattle.iris_xpath.proofs.Below.{first_found}
use Rattle.iris_select.specs.declared.walk.Selected.{Selected}
use Rattle.iris_select.specs.declared.evaluator.Evaluator.{Evaluator}
use Rattle.iris_select.specs.declared.spot.Edge.{Edge as CodeEdge}
use Rattle.iris_xpath.specs.Syntax.{MainStep, main_of}
use Rattle.iris_select.specs.Evaluating.{document_of, place_in, IsBack}
use Rattle.iris_select.specs.Parts.{Child, child_part, edge_of, part_of, place_at}
use Rattle.iris_select.specs.Places.{edges_of}
use Rattle.iris_select.specs.Selected.{places_selected, selected_item, Adds}
use Rattle.iris_select.specs.Walking.{labels_in, positions_in, further, ends_here, found_here, found_at, found_below, taken, main_steps}
use Rattle.std.specs.Option.{IfSome}
use Rattle.iris_xpath.specs.declared.expression.Expression.{Expression}
use Rattle.iris_xpath.specs.declared.expression.Step.{Step}
use Rattle.iris_xpath.specs.Meaning.{steps_to}
use Rattle.iris_select.proofs.Stopping.{one_of}
use Rattle.iris_xpath.specs.Looks.{Looks, whole_looks}
use Rattle.iris_select.specs.Looking.{path_looks_at, looks_found_at, looks_found_below}
use Rattle.iris_select.proofs.Children.{drop_one}
use Rattle.iris_select.proofs.Siblings.{part_snoc}
use Rattle.iris_select.proofs.Walking.{top, found_form, found_all}
use Rattle.iris_select.proofs.Weights.{size_in}

-- ---- a place by its name and its path

-- the edges are labels, and then positions
pub record IsSplit (place : Place) : Type 0 where
  pub edges : place_of (labels_in place) ++ map position (positions_in place) ≡ place
  pub name : name_of place ≡ labels_in place

abbrev IsPath : Place → Type 0
IsPath path = (labels_in path ≡ []) × (map position (positions_in path) ≡ path)

plain_split : (p : Plain) (path : Place) (y : Part) → below_plain p path ≡ Some y → IsPath path
plain_split p [] y h = (refl, refl)
plain_split p (position i ∷ path) y h =
    let kid = first_found (λ k. below_plain k path) (slice_get (out-Plain p).kids i) y h in
    let k = plain_split kid.0 path y kid.2 in
    (k.0, ap (λ ps. position i ∷ ps) k.1)
plain_split p (label l ∷ path) y h = absurd (cc)

node_split : (n : Node) (place : Place) (y : Part) → below_node n place ≡ Some y → IsSplit place
node_split n [] y h = record { edges = refl; name = refl }
node_split n (position i ∷ path) y h =
    let kid = first_found (λ k. below_plain k path) (slice_get (local_of n).plain i) y h in
    let k = plain_split kid.0 path y kid.2 in
    record {
      edges = ap (λ ls. place_of ls ++ position i ∷ map position (positions_in path)) k.0 ∙ ap (λ ps. position i ∷ ps) k.1;
      name = sym k.0;
    }
node_split n (label l ∷ place) y h =
    let c = first_found (λ k. below_node k place) (child_of l (children_of n)) y h in
    let k = node_split c.0 place y c.2 in
    record { edges = ap (λ ps. label l ∷ ps) k.edges; name = ap (λ ls. l ∷ ls) k.name }

-- so it is where something stands
pub place_split : (document : Node) (place : Place) (y : Part) → part_at_place document place ≡ Some y → IsSplit place
place_split document [] y h = record { edges = refl; name = refl }
place_split document (position i ∷ place) y h = absurd (cc)
place_split document (label l ∷ place) y h = decided (label_eq (label_of document) l) h
  where
    decided : (b : Bool) → cond b (below_node document place) None ≡ Some y → IsSplit (label l ∷ place)
    decided true h = let k = node_split document place y h in record { edges = ap (λ ps. label l ∷ ps) k.edges; name = ap (λ ls. l ∷ ls) k.name }
    decided false h = absurd (cc)

-- ---- places that are added

pub adds_nothing : (document : Node) (all : List Selected) → Adds document all all []
adds_nothing document all = record { places = sym (append-nil (places_selected all)); items = sym (append-nil (filter_map selected_item all)) }

-- some, and then others
pub adds_both : (document : Node) (old mid new : List Selected) (ps qs : List Place) → Adds document old mid ps → Adds document mid new qs → Adds document old new (ps ++ qs)
adds_both document old mid new ps qs h k = record {
  places = k.places ∙ ap (λ xs. xs ++ qs) h.places ∙ append_assoc (places_selected old) ps qs;
  items =
      k.items ∙ ap (λ xs. xs ++ items_at document qs) h.items ∙ append_assoc (filter_map selected_item old) (items_at document ps) (items_at document qs)
      ∙ ap (λ xs. filter_map selected_item old ++ xs) (sym (filter_map-append (item_at document) ps qs));
}

-- the place in hand
pub adds_one : (document : Node) (old : List Selected) (s : Selected) (place : Place) → part_at_place document place ≡ Some (part_of s.spot) → s.place.name ≡ labels_in place → s.place.path ≡ positions_in place → Adds document old (old ++ s ∷ []) (place ∷ [])
adds_one document old s place there name path =
    let k = place_split document place (part_of s.spot) there in
    let edges : edges_of s.place ≡ place = ap (λ (ls : List Label). place_of ls ++ map position s.place.path) name ∙ ap (λ (is : List ℕ). place_of (labels_in place) ++ map position is) path ∙ k.edges in
    let item : selected_item s ≡ item_at document place =
    ap (λ (ls : List Label). item_of ls (part_of s.spot)) (name ∙ sym k.name) ∙ sym (ap (λ (o : Option Part). option_and_then (item_of (name_of place)) o) there) in
    record {
      places = map-append (λ x. edges_of x.place) old (s ∷ []) ∙ ap (λ (p : Place). places_selected old ++ p ∷ []) edges;
      items = filter_map-append selected_item old (s ∷ []) ∙ ap (λ (o : Option Item). filter_map selected_item old ++ cons_option o []) item;
    }

-- ---- where the walk stands

-- the same places by another name
pub adds_as : (document : Node) (old new : List Selected) (ps qs : List Place) → ps ≡ qs → Adds document old new ps → Adds document old new qs
adds_as document old new ps qs same h = subst (λ (xs : List Place). Adds document old new xs) same h

pub adds_there : (d d' : Node) (ss ss' : List MainStep) (p p' : Place) (old new : List Selected) (bs : List Bool) (c : Child) → d ≡ d' → ss ≡ ss' → p ≡ p' → Adds d old new (found_at d ss bs p c) → Adds d' old new (found_at d' ss' bs p' c)
adds_there d d' ss ss' p p' old new bs c top steps place h =
    subst (λ (x : Node). Adds x old new (found_at x ss' bs p' c)) top
    (subst (λ (x : List MainStep). Adds d old new (found_at d x bs p' c)) steps
    (subst (λ (x : Place). Adds d old new (found_at d ss bs x c)) place h))

pub adds_here : (d d' : Node) (ss : List MainStep) (b : Bool) (p p' : Place) (old new : List Selected) (bs bs' : List Bool) → d ≡ d' → p ≡ p' → bs ≡ bs' → Adds d old new (found_here (ends_here d p b ss bs) p) → Adds d' old new (found_here (ends_here d' p' b ss bs') p')
adds_here d d' ss b p p' old new bs bs' top place pending h =
    subst (λ (x : Node). Adds x old new (found_here (ends_here x p' b ss bs') p')) top
    (subst (λ (x : Place). Adds d old new (found_here (ends_here d x b ss bs') x)) place
    (subst (λ (x : List Bool). Adds d old new (found_here (ends_here d p b ss x) p)) pending h))

pub adds_below : (d d' : Node) (ss ss' : List MainStep) (p p' : Place) (old new : List Selected) (bs bs' : List Bool) (part : Part) → d ≡ d' → ss ≡ ss' → p ≡ p' → bs ≡ bs' → Adds d old new (found_below d ss bs p part) → Adds d' old new (found_below d' ss' bs' p' part)
adds_below d d' ss ss' p p' old new bs bs' part top steps place pending h =
    subst (λ (x : Node). Adds x old new (found_below x ss' bs' p' part)) top
    (subst (λ (x : List MainStep). Adds d old new (found_below d x bs' p' part)) steps
    (subst (λ (x : Place). Adds d old new (found_below d ss bs' x part)) place
    (subst (λ (x : List Bool). Adds d old new (found_below d ss x p part)) pending h)))

pub same_document : (old new : Evaluator) → IsBack old new → document_of new ≡ document_of old
same_document old new back = ap (λ (r : Bor Node). r.now) back.document

pub same_place : (old new : Evaluator) → IsBack old new → place_in new ≡ place_in old
same_place old new back = ap place_at back.trail

-- what stands right below, from an evaluation that is back
pub stands_below : (old new : Evaluator) (part y : Part) (e : Edge) → IsBack old new → IsOrdered (document_of old) → part_at_place (document_of old) (place_in old) ≡ Some part → child_part (document_of old) part e ≡ Some y
    → IsOrdered (document_of new) × (part_at_place (document_of new) (place_in new ++ e ∷ []) ≡ Some y)
stands_below old new part y e back ordered there below = (
  subst (λ (d : Node). IsOrdered d) (sym (same_document old new back)) ordered,
  ap (λ (d : Node). part_at_place d (place_in new ++ e ∷ [])) (same_document old new back) ∙ ap (λ (p : Place). part_at_place (document_of old) (p ++ e ∷ [])) (same_place old new back)
      ∙ part_snoc (document_of old) whole part (place_in old) e there ∙ below,
)

-- one edge further down
pub place_entered : (old new : List CodeEdge) (e : CodeEdge) → new ≡ old ++ e ∷ [] → place_at new ≡ place_at old ++ edge_of e ∷ []
place_entered old new e h = ap place_at h ∙ map-append edge_of old (e ∷ [])

pub lower : (d document : Node) (part y : Part) (t : ℕ) → d ≡ document → size_in document y < size_in document part → 2 * size_in document part ≡ t → 2 * size_in d y + 1 < t
lower d document part y t same smaller measure =
    let e : size_in d y ≡ size_in document y = ap (λ (x : Node). size_in x y) same in
    omega (arith, e, smaller, measure)

-- what a visit adds: the place itself, and what is found below it
pub visit_adds : (document : Node) (ss : List MainStep) (bs : List Bool) (above : Place) (c : Child) (old mid new : List Selected)
    → Adds document old mid (found_here (ends_here document (above ++ c.edge ∷ []) false ss bs) (above ++ c.edge ∷ []))
    → Adds document mid new (found_below document ss (further document (above ++ c.edge ∷ []) false ss bs) (above ++ c.edge ∷ []) c.part)
    → Adds document old new (found_at document ss bs above c)
visit_adds document ss bs above c old mid new h k =
    let at = above ++ c.edge ∷ [] in
    let more = further document at false ss bs in
    let ends = ends_here document at false ss bs in
    adds_as document old new (found_here ends at ++ found_below document ss more at c.part) (found_at document ss bs above c) (sym (found_form document ss more ends at c.part))
    (adds_both document old mid new (found_here ends at) (found_below document ss more at c.part) h k)

-- one more child, and then the others
pub one_child_more : (document : Node) (ss : List MainStep) (bs : List Bool) (above : Place) (cs : List Child) (k : ℕ) (c : Child) (old mid new : List Selected) → slice_get cs k ≡ Some c
    → Adds document old mid (found_at document ss bs above c) → Adds document mid new (flat_map (found_at document ss bs above) (drop (k + 1) cs)) → Adds document old new (flat_map (found_at document ss bs above) (drop k cs))
one_child_more document ss bs above cs k c old mid new is h more =
    adds_as document old new (found_at document ss bs above c ++ flat_map (found_at document ss bs above) (drop (k + 1) cs)) (flat_map (found_at document ss bs above) (drop k cs)) (ap (flat_map (found_at document ss bs above)) (sym (drop_one cs k c is)))
    (adds_both document old mid new (found_at document ss bs above c) (flat_map (found_at document ss bs above) (drop (k + 1) cs)) h more)

-- ---- from the document down

-- all that a walk found
pub record IsFound (document : Node) (ss : List MainStep) (new : List Selected) : Type 0 where
  pub places : places_selected new ≡ steps_to document top ss
  pub items : filter_map selected_item new ≡ items_at document (steps_to document top ss)

pub walk_finds : (document : Node) (ss : List MainStep) (old mid new : List Selected) → IsOrdered document → (ss ≡ [] → ⊥) → old ≡ []
    → Adds document old mid (found_here (ends_here document [] true ss (map (λ s. false) ss)) []) → Adds document mid new (found_below document ss (further document [] true ss (map (λ s. false) ss)) [] whole) → IsFound document ss new
walk_finds document [] old mid new ordered some none here below = absurd (some refl)
walk_finds document (s ∷ ss) old mid new ordered some none here below =
    let steps = s ∷ ss in
    let falses = map (λ s. false) steps in
    let all = adds_as document old new (found_here (ends_here document [] true steps falses) [] ++ found_below document steps (further document [] true steps falses) [] whole) (steps_to document top steps) (found_all document s ss ordered)
    (adds_both document old mid new (found_here (ends_here document [] true steps falses) []) (found_below document steps (further document [] true steps falses) [] whole) here below) in
    record {
      places = all.places ∙ ap (λ (xs : List Selected). places_selected xs ++ steps_to document top steps) none;
      items = all.items ∙ ap (λ (xs : List Selected). filter_map selected_item xs ++ items_at document (steps_to document top steps)) none;
    }

pub gone : {A : Type 0} (xs : List A) (k : ℕ) → length xs ≤ k → drop k xs ≡ []
gone [] zero h = refl
gone [] (suc k) h = refl
gone (x ∷ xs) zero h = absurd (omega arith)
gone (x ∷ xs) (suc k) h = gone xs k (omega arith)

-- ---- two lists gone over together

pub taken_end : (ss : List MainStep) (bs : List Bool) → (ss ≡ []) ⊎ (bs ≡ []) → taken ss bs ≡ []
taken_end [] bs h = refl
taken_end (s ∷ ss) [] h = refl
taken_end (s ∷ ss) (b ∷ bs) (inl h) = absurd (cc)
taken_end (s ∷ ss) (b ∷ bs) (inr h) = absurd (cc)

pub further_end : (document : Node) (place : Place) (here : Bool) (ss : List MainStep) (bs : List Bool) → (ss ≡ []) ⊎ (bs ≡ []) → further document place here ss bs ≡ []
further_end document place here [] bs h = refl
further_end document place here (s ∷ ss) [] h = refl
further_end document place here (s ∷ ss) (b ∷ bs) (inl h) = absurd (cc)
further_end document place here (s ∷ ss) (b ∷ bs) (inr h) = absurd (cc)

pub ends_end : (document : Node) (place : Place) (here : Bool) (ss : List MainStep) (bs : List Bool) → (ss ≡ []) ⊎ (bs ≡ []) → ends_here document place here ss bs ≡ here
ends_end document place here [] bs h = refl
ends_end document place here (s ∷ ss) [] h = refl
ends_end document place here (s ∷ ss) (b ∷ bs) (inl h) = absurd (cc)
ends_end document place here (s ∷ ss) (b ∷ bs) (inr h) = absurd (cc)

-- of main steps
pub steps_ended : (xs : List (Step Expression)) (bs : List Bool) → (xs ≡ []) ⊎ (bs ≡ []) → (main_steps xs ≡ []) ⊎ (bs ≡ [])
steps_ended xs bs (inl h) = inl (ap main_steps h)
steps_ended xs bs (inr h) = inr h

pub only_is : (o : Option (Bor (Step Expression))) (rest all : List MainStep) → rest ≡ [] → one_of (option_map (λ s. main_of s.now) o) ++ rest ≡ all → IfSome o (λ s. all ≡ main_of s.now ∷ [])
only_is None rest all none h = tt
only_is (Some s) rest all none h = sym h ∙ ap (λ r. main_of s.now ∷ r) none

pub some_steps : (xs : List (Step Expression)) → (xs ≡ [] → ⊥) → main_steps xs ≡ [] → ⊥
some_steps [] some h = some refl
some_steps (x ∷ xs) some h = cc

-- ---- the place in hand

pub takes_one : (document : Node) (old new : List Selected) (s : Selected) (at place : Place) (here : Bool) → new ≡ old ++ s ∷ [] → part_at_place document place ≡ Some (part_of s.spot)
    → s.place.name ≡ labels_in at → s.place.path ≡ positions_in at → at ≡ place → here ≡ true → Adds document old new (found_here here place)
takes_one document old new s at place here more there name path same is =
    subst (λ (xs : List Selected). Adds document old xs (found_here here place)) (sym more)
    (subst (λ (b : Bool). Adds document old (old ++ s ∷ []) (found_here b place)) (sym is)
    (adds_one document old s place there (name ∙ ap labels_in same) (path ∙ ap positions_in same)))

pub takes_none : (document : Node) (old new : List Selected) (place : Place) (here : Bool) → new ≡ old → here ≡ false → Adds document old new (found_here here place)
takes_none document old new place here same is =
    subst (λ (xs : List Selected). Adds document old xs (found_here here place)) (sym same)
    (subst (λ (b : Bool). Adds document old old (found_here b place)) (sym is) (adds_nothing document old))

-- what follows from two clauses on the value in a `Some`
pub IfSome_both : {X : Type 0} (o : Option X) {P Q R : X → Type 0} → IfSome o P → IfSome o Q → ((x : X) → P x → Q x → R x) → IfSome o R
IfSome_both None h k both = tt
IfSome_both (Some x) h k both = both x h k

pub looks_end : (document : Node) (looks : Looks) (place : Place) (here : Bool) (ss : List MainStep) (bs : List Bool) → (ss ≡ []) ⊎ (bs ≡ []) → path_looks_at document looks place here ss bs ≡ (here && whole_looks document looks place)
looks_end document looks place here [] bs h = refl
looks_end document looks place here (s ∷ ss) [] h = refl
looks_end document looks place here (s ∷ ss) (b ∷ bs) (inl h) = absurd (cc)
looks_end document looks place here (s ∷ ss) (b ∷ bs) (inr h) = absurd (cc)

-- what is looked at below, told from where the walk began
pub below_there : (d d' : Node) (ss ss' : List MainStep) (p p' : Place) (bs bs' : List Bool) (part : Part) (looks : Looks) → d ≡ d' → ss ≡ ss' → p ≡ p' → bs ≡ bs' → looks_found_below d looks ss bs p part ≡ looks_found_below d' looks ss' bs' p' part
below_there d d' ss ss' p p' bs bs' part looks top steps place pending =
    ap (λ (x : Node). looks_found_below x looks ss bs p part) top ∙ ap (λ (x : List MainStep). looks_found_below d' looks x bs p part) steps
    ∙ ap (λ (x : Place). looks_found_below d' looks ss' bs x part) place ∙ ap (λ (x : List Bool). looks_found_below d' looks ss' x p' part) pending

pub looks_there : (d d' : Node) (ss ss' : List MainStep) (p p' : Place) (bs : List Bool) (c : Child) (looks : Looks) → d ≡ d' → ss ≡ ss' → p ≡ p' → looks_found_at d looks ss bs p c ≡ looks_found_at d' looks ss' bs p' c
looks_there d d' ss ss' p p' bs c looks top steps place =
    ap (λ (x : Node). looks_found_at x looks ss bs p c) top ∙ ap (λ (x : List MainStep). looks_found_at d' looks x bs p c) steps ∙ ap (λ (x : Place). looks_found_at d' looks ss' bs x c) place

pub looks_here : (d d' : Node) (ss ss' : List MainStep) (p p' : Place) (b : Bool) (bs bs' : List Bool) (looks : Looks) → d ≡ d' → ss ≡ ss' → p ≡ p' → bs ≡ bs' → path_looks_at d looks p b ss bs ≡ path_looks_at d' looks p' b ss' bs'
looks_here d d' ss ss' p p' b bs bs' looks top steps place pending =
    ap (λ (x : Node). path_looks_at x looks p b ss bs) top ∙ ap (λ (x : List MainStep). path_looks_at d' looks p b x bs) steps
    ∙ ap (λ (x : Place). path_looks_at d' looks x b ss' bs) place ∙ ap (λ (x : List Bool). path_looks_at d' looks p' b ss' x) pending
