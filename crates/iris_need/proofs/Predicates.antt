-- What a program tells of a predicate is what the predicate means.
use Rattle.std.proofs.Common.{◌≡◌, ℕ, Bool, true, false, cond, not, ◌&&◌, ◌||◌, List, [], ◌∷◌, ◌++◌, map, filter, refl, ap, sym, ◌∙◌, Option, Some, None, option_and_then}
use Rattle.std.specs.List.{list_any, filter_map}
use Rattle.iris_base.specs.declared.name.Label.{Label}
use Rattle.iris_base.specs.NameOrder.{label_eq}
use Rattle.iris_base.proofs.Labels.{label_eq-Decides}
use Rattle.iris_tree.specs.declared.local.Local.{Local}
use Rattle.iris_tree.specs.Universe.{Node, label_of, node_at, part_at, child_of, children_of}
use Rattle.iris_tree.specs.Document.{Edge, position, label, Place, place_of, part_at_place, places}
use Rattle.iris_xpath.specs.Meaning.{Value, of_text, of_number, compare, has_some, is_reached, passes, front, parents_of}
use Rattle.iris_xpath.specs.Meaning as meaning
use Rattle.iris_xpath.specs.Syntax.{Condition, any_of, all_of, not_so, selects, compares, Conditions, no_conditions, conditions, Side, values_of, literal, number, Steps, here, attribute, itself, parent, step}
use Rattle.iris_need.specs.Program.{gather, Spot, document_spot, node_spot, element_spot, Marks, and_so, where_so, last_label, without_last, spot_of, above_name, above_element, spots_above, spot_value}
use Rattle.iris_xpath.specs.Places.{element_at}
use Rattle.iris_need.specs.Program as program
use Rattle.iris_need.specs.Run.{Run, next, eval}
use Rattle.iris_xpath.specs.Same.{HaveSame, some_passes}
use Rattle.iris_need.specs.Spots.{place_at, IsSpot, IsNodeAt}
use Rattle.iris_xpath.proofs.Below.{first_found, top_found, part_node, part_element}
use Rattle.iris_need.proofs.Steps.{gather_any, where_any, reach_any}
use Rattle.iris_need.proofs.Attributes.{IsCity, attributes_any}
use Rattle.iris_xpath.proofs.Passes.{any_alike, any_map, any_filter, any_filter_map, any_flat, and_assoc, some_is_any}

-- ---- the place right above

front_label : (l : Label) (name : List Label) → front (label l) (place_of name) ≡ place_of (without_last l name)
front_label l [] = refl
front_label l (m ∷ name) = ap (λ (p : Place). label l ∷ p) (front_label m name)

front_inside : (d : Edge) (name : List Label) (e f : Edge) (path : Place) → front d (place_of name ++ e ∷ f ∷ path) ≡ d ∷ place_of name ++ front e (f ∷ path)
front_inside d [] e f path = refl
front_inside d (l ∷ name) e f path = ap (λ (p : Place). d ∷ p) (front_inside (label l) name e f path)

front_element : (name : List Label) (e f : Edge) (path : Place) → parents_of (place_of name ++ e ∷ f ∷ path) ≡ (place_of name ++ front e (f ∷ path)) ∷ []
front_element [] e f path = refl
front_element (l ∷ name) e f path = ap (λ (p : Place). p ∷ []) (front_inside (label l) name e f path)

front_outside : (d : Edge) (name : List Label) (e : Edge) → front d (place_of name ++ e ∷ []) ≡ d ∷ place_of name
front_outside d [] e = refl
front_outside d (l ∷ name) e = ap (λ (p : Place). d ∷ p) (front_outside (label l) name e)

front_last : (name : List Label) (e : Edge) → parents_of (place_of name ++ e ∷ []) ≡ place_of name ∷ []
front_last [] e = refl
front_last (l ∷ name) e = ap (λ (p : Place). p ∷ []) (front_outside (label l) name e)

place_of_spot : (name : List Label) → place_at (spot_of name) ≡ place_of name
place_of_spot [] = refl
place_of_spot (l ∷ name) = refl

this_label : (l : Label) (n : Node) (o : Option Node) (c : Node) (b : Bool) → label_eq (label_of n) l ≡ b → cond b (Some n) o ≡ Some c → (o ≡ Some c → label_of c ≡ l) → label_of c ≡ l
this_label l n o c true e h later = let it : n ≡ c = cc in ap label_of (sym it) ∙ (label_eq-Decides (label_of n) l).0 e
this_label l n o c false e h later = later h

child_label : (l : Label) (ns : List Node) (c : Node) → child_of l ns ≡ Some c → label_of c ≡ l
child_label l [] c found = absurd (cc)
child_label l (n ∷ ns) c found = this_label l n (child_of l ns) c (label_eq (label_of n) l) refl found (λ h. child_label l ns c h)

last_of_part : (n : Node) (l : Label) (name : List Label) (m : Node) → label_of n ≡ l → part_at n name ≡ Some m → label_of m ≡ last_label l name
last_of_part n l [] m is found = let it : n ≡ m = cc in ap label_of (sym it) ∙ is
last_of_part n l (k ∷ name) m is found =
    let c = first_found (λ child. part_at child name) (child_of k (children_of n)) m found in
    last_of_part c.0 k name m (child_label k (children_of n) c.0 c.1) c.2

-- a node at a name has its last label
named : (document : Node) (l : Label) (name : List Label) (n : Node) → node_at document (l ∷ name) ≡ Some n → IsNodeAt document (l ∷ name) (last_label l name)
named document l name n found =
    let top = top_found document (label_eq (label_of document) l) name n found in
    record { node = n; there = found; label_is = last_of_part document l name n ((label_eq-Decides (label_of document) l).0 top.0) top.1 }

above_part : (n : Node) (k : Label) (name : List Label) (m : Node) → part_at n (k ∷ name) ≡ Some m → (p : Node) × (part_at n (without_last k name) ≡ Some p)
above_part n k [] m found = (n, refl)
above_part n k (j ∷ name) m found =
    let c = first_found (λ child. part_at child (j ∷ name)) (child_of k (children_of n)) m found in
    let p = above_part c.0 j name m c.2 in
    (p.0, ap (λ (o : Option Node). option_and_then (λ child. part_at child (without_last j name)) o) c.1 ∙ p.1)

-- the node right above one, or the document
node_above : (document : Node) (l : Label) (name : List Label) (n : Node) → node_at document (l ∷ name) ≡ Some n → IsSpot document (spot_of (without_last l name))
node_above document l [] n found = tt
node_above document l (k ∷ name) n found =
    let top = top_found document (label_eq (label_of document) l) (k ∷ name) n found in
    let p = above_part document k name n top.1 in
    named document l (without_last k name) p.0 (ap (λ b. cond b (part_at document (without_last k name)) None) top.0 ∙ p.1)

own_node : (document : Node) (name : List Label) (n : Node) → node_at document name ≡ Some n → IsSpot document (spot_of name)
own_node document [] n found = tt
own_node document (l ∷ name) n found = named document l name n found

-- the place right above is that of the spot right above
pub parents_any : (document : Node) (spot : Spot) (f : Spot → Bool) (g : Place → Bool) → IsSpot document spot → ((s : Spot) → IsSpot document s → f s ≡ g (place_at s)) → list_any f (spots_above spot) ≡ list_any g (parents_of (place_at spot))
parents_any document document_spot f g is h = refl
parents_any document (node_spot [] l) f g is h = let none = is.there in absurd (cc)
parents_any document (node_spot (l ∷ name) m) f g is h =
    ap (λ b. b || false) (h (spot_of (without_last l name)) (node_above document l name is.node is.there))
    ∙ ap (λ (p : Place). g p || false) (place_of_spot (without_last l name) ∙ sym (front_label l name))
parents_any document (element_spot name local []) f g is h = absurd is.path_is
parents_any document (element_spot name local (e ∷ [])) f g is h =
    ap (λ b. b || false) (h (spot_of name) (own_node document name is.node is.there))
    ∙ ap (λ (p : Place). list_any g (p ∷ [])) (place_of_spot name) ∙ ap (list_any g) (sym (front_last name e))
parents_any document (element_spot name local (position i ∷ d ∷ path)) f g is h =
    ap (λ b. b || false) (h (element_spot name local (front (position i) (d ∷ path))) (record { node = is.node; there = is.there; local_is = is.local_is; path_is = tt }))
    ∙ ap (list_any g) (sym (front_element name (position i) d path))
parents_any document (element_spot name local (label m ∷ d ∷ path)) f g is h = absurd is.path_is

-- ---- predicates

value_is : (document : Node) (spot : Spot) → IsSpot document spot → spot_value spot ≡ meaning.value_of (part_at_place document (place_at spot))
value_is document document_spot is = refl
value_is document (node_spot name l) is = ap meaning.value_of (sym (part_node document name is.node is.there))
value_is document (element_spot name local path) is =
    ap (λ (x : Local). meaning.value_of (element_at x path)) (sym is.local_is) ∙ ap meaning.value_of (sym (part_element document name is.node path is.there is.path_is))

eval_and : (document : Node) (b : Bool) (r : Run Bool) → eval document (and_so b r) ≡ (b && eval document r)
eval_and document true r = refl
eval_and document false r = refl

values_alike : (t : Value → Bool) (xs ys : List (Option (List ℕ))) → HaveSame xs ys → list_any t (map of_text (filter_map (λ end. end) xs)) ≡ list_any t (map of_text (filter_map (λ end. end) ys))
values_alike t xs ys h =
    any_map t of_text (filter_map (λ end. end) xs) ∙ any_filter_map (λ v. t (of_text v)) (λ end. end) xs
    ∙ h (some_passes (λ v. t (of_text v)))
    ∙ sym (any_map t of_text (filter_map (λ end. end) ys) ∙ any_filter_map (λ v. t (of_text v)) (λ end. end) ys)

-- What a path finds is what it takes in the document; values, conditions and predicates are as they mean. The program's list may have ends several times, and in another order.
mutual
  -- a path finds the ends that it has
  pub ends_same : (document : Node) (marks : Marks) → IsCity document → (steps : Steps) (spot : Spot) → IsSpot document spot → HaveSame (eval document (program.ends (label_of document) marks steps spot)) (meaning.ends document steps (place_at spot))
  ends_same document marks city here spot is t = ap (λ (end : Option (List ℕ)). list_any t (end ∷ [])) (value_is document spot is)
  ends_same document marks city (attribute separator attr) spot is t = attributes_any document marks separator attr spot t city is
  ends_same document marks city (itself steps) spot is t = ends_same document marks city steps spot is t
  ends_same document marks city (parent steps) spot is t =
      gather_any document t (program.ends (label_of document) marks steps) (spots_above spot)
      ∙ parents_any document spot (λ s. list_any t (eval document (program.ends (label_of document) marks steps s))) (λ place. list_any t (meaning.ends document steps place)) is (λ s h. ends_same document marks city steps s h t)
      ∙ sym (any_flat t (meaning.ends document steps) (parents_of (place_at spot)))
  ends_same document marks city (step separator test cs steps) spot is t =
      let top = label_of document in
      reach_any document separator test marks marks spot (λ at. next (program.all_hold top marks cs at) (λ b. where_so b (program.ends top marks steps at))) t
      (λ place. meaning.all_hold document cs place && list_any t (meaning.ends document steps place)) city.in_order is
      (λ at h. where_any document t (eval document (program.all_hold top marks cs at)) (program.ends top marks steps at)
      ∙ ap (λ b. b && list_any t (eval document (program.ends top marks steps at))) (all_hold_is document marks city cs at h)
      ∙ ap (λ b. meaning.all_hold document cs (place_at at) && b) (ends_same document marks city steps at h t))
      ∙ any_alike _ _ (λ place. sym (and_assoc (is_reached separator (place_at spot) place && passes (part_at_place document place) test) (meaning.all_hold document cs place) (list_any t (meaning.ends document steps place)))) (places document)
      ∙ sym (any_flat t (meaning.ends document steps) (filter (λ at. is_reached separator (place_at spot) at && passes (part_at_place document at) test && meaning.all_hold document cs at) (places document))
      ∙ any_filter (λ at. list_any t (meaning.ends document steps at)) (λ at. is_reached separator (place_at spot) at && passes (part_at_place document at) test && meaning.all_hold document cs at) (places document))

  -- so it is of values
  pub values_same : (document : Node) (marks : Marks) → IsCity document → (side : Side) (spot : Spot) → IsSpot document spot → HaveSame (eval document (program.values (label_of document) marks side spot)) (meaning.values document side (place_at spot))
  values_same document marks city (values_of steps) spot is t =
      values_alike t (eval document (program.ends (label_of document) marks steps spot)) (meaning.ends document steps (place_at spot)) (λ u. ends_same document marks city steps spot is u)
  values_same document marks city (literal text) spot is t = refl
  values_same document marks city (number n) spot is t = refl

  -- a condition is told as it holds
  pub holds_is : (document : Node) (marks : Marks) → IsCity document → (c : Condition) (spot : Spot) → IsSpot document spot → eval document (program.holds (label_of document) marks c spot) ≡ meaning.holds document c (place_at spot)
  holds_is document marks city (any_of cs) spot is = any_holds_is document marks city cs spot is
  holds_is document marks city (all_of cs) spot is = each_holds_is document marks city cs spot is
  holds_is document marks city (not_so c) spot is = ap not (holds_is document marks city c spot is)
  holds_is document marks city (selects steps) spot is =
      some_is_any (eval document (program.ends (label_of document) marks steps spot)) ∙ ends_same document marks city steps spot is (λ end. true) ∙ sym (some_is_any (meaning.ends document steps (place_at spot)))
  holds_is document marks city (compares left comparison right) spot is =
      values_same document marks city left spot is (λ u. list_any (compare comparison u) (eval document (program.values (label_of document) marks right spot)))
      ∙ any_alike _ _ (λ u. values_same document marks city right spot is (compare comparison u)) (meaning.values document left (place_at spot))

  any_holds_is : (document : Node) (marks : Marks) → IsCity document → (cs : Conditions) (spot : Spot) → IsSpot document spot → eval document (program.any_holds (label_of document) marks cs spot) ≡ meaning.any_holds document cs (place_at spot)
  any_holds_is document marks city no_conditions spot is = refl
  any_holds_is document marks city (conditions c cs) spot is =
      ap (λ b. b || eval document (program.any_holds (label_of document) marks cs spot)) (holds_is document marks city c spot is)
      ∙ ap (λ b. meaning.holds document c (place_at spot) || b) (any_holds_is document marks city cs spot is)

  each_holds_is : (document : Node) (marks : Marks) → IsCity document → (cs : Conditions) (spot : Spot) → IsSpot document spot → eval document (program.each_holds (label_of document) marks cs spot) ≡ meaning.all_hold document cs (place_at spot)
  each_holds_is document marks city no_conditions spot is = refl
  each_holds_is document marks city (conditions c cs) spot is =
      ap (λ b. b && eval document (program.each_holds (label_of document) marks cs spot)) (holds_is document marks city c spot is)
      ∙ ap (λ b. meaning.holds document c (place_at spot) && b) (each_holds_is document marks city cs spot is)

  -- so are the predicates of a step
  pub all_hold_is : (document : Node) (marks : Marks) → IsCity document → (cs : Conditions) (spot : Spot) → IsSpot document spot → eval document (program.all_hold (label_of document) marks cs spot) ≡ meaning.all_hold document cs (place_at spot)
  all_hold_is document marks city no_conditions spot is = refl
  all_hold_is document marks city (conditions c cs) spot is =
      eval_and document (eval document (program.holds (label_of document) marks c spot)) (program.all_hold (label_of document) marks cs spot)
      ∙ ap (λ b. b && eval document (program.all_hold (label_of document) marks cs spot)) (holds_is document marks city c spot is)
      ∙ ap (λ b. meaning.holds document c (place_at spot) && b) (all_hold_is document marks city cs spot is)
