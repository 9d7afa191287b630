-- The names that a query's evaluation looks into, over all of a document, are those that the query means.
use Rattle.std.proofs.Common.{◌≡◌, Bool, true, false, cond, ◌&&◌, ◌||◌, List, [], ◌∷◌, map, filter, fold, refl, ap, sym, ◌∙◌, Option, Some, None, is_some, option_and_then, slice_get}
use Rattle.std.specs.List.{AllByRecursion, list_any}
use Rattle.std.specs.List.Sorted.{IsStrictlySortedBy}
use Rattle.std.specs.Cmp.Lexicographic.{slice_cmp, pointwise}
use Rattle.std.specs.declared.cmp.Ordering.{Ordering}
use Rattle.std.specs.declared.cmp.Ordering.TheVariants.{Less, Equal, Greater}
use Rattle.std.proofs.lemmas.List.Kept.{IsStrictlySortedBy-filter}
use Rattle.iris_base.specs.declared.name.Label.{Label}
use Rattle.iris_base.specs.NameOrder.{label_eq, label_cmp, names_total}
use Rattle.iris_tree.specs.Universe.{Node, label_of, local_of, children_of, child_of, part_at, node_at}
use Rattle.iris_tree.specs.Document.{position, label, Place, name_of, Part, whole, a_node, a_plain, below_node, part_at_place, names_of, places}
use Rattle.iris_fragment.proofs.Names.{name_exact, alike_exact}
use Rattle.iris_xpath.specs.Meaning.{is_reached, passes, parents_of}
use Rattle.iris_xpath.specs.Meaning as meaning
use Rattle.iris_xpath.specs.Syntax.{Syntax, Condition, any_of, all_of, not_so, selects, compares, Conditions, no_conditions, conditions, Side, values_of, literal, number, Steps, here, attribute, itself, parent, step, MainStep, main_of}
use Rattle.iris_xpath.specs.declared.expression.NameTest.{NameTest}
use Rattle.iris_xpath.specs.declared.expression.Separator.{Separator}
use Rattle.iris_xpath.specs.declared.expression.Separator.TheVariants.{Slash, DoubleSlash}
use Rattle.iris_need.proofs.Merged.{merged_ordered}
use Rattle.iris_need.specs.declared.need.Need.{Need}
use Rattle.iris_need.specs.Laws.{need_cmp}
use Rattle.iris_need.specs.Needs.{greater, put_look, with_look, merged, without_states, is_full, is_full_level, full_part, from_document, extent_of_level}
use Rattle.iris_need.specs.Needs as needs
use Rattle.iris_base.specs.Attribute.{is_id}
use Rattle.iris_need.specs.Run as runs
use Rattle.iris_fragment.specs.declared.piece.Level.{Level}
use Rattle.iris_fragment.specs.declared.piece.Level.TheVariants.{Ids, Full}
use Rattle.iris_xpath.specs.Looks as extents
use Rattle.iris_xpath.specs.Looks.{Extent, Looks, is_look, look_at, is_sought, looks_from, extent_of, step_looks, attribute_looks, ends_look, side_looks, condition_looks, each_look, all_look, whole_looks, path_looks, query_looks, is_full_at, full_names}
use Rattle.iris_xpath.proofs.Below.{plain_part, kid_part, first_found}
use Rattle.iris_need.proofs.Looked.{looks_meant}
use Rattle.iris_xpath.proofs.Names.{names_rise, names_are}
use Rattle.iris_xpath.proofs.Order.{one_list}
use Rattle.iris_xpath.proofs.Passes.{any_alike, any_map, any_filter, any_swap, or_false, or_assoc, or_comm}
use Rattle.iris_need.proofs.Attributes.{IsCity}

-- ---- looks at nodes alone

-- the same looks at all places
abbrev SameLooks : Node → Looks → Looks → Type 0
SameLooks document u v = (extent : Extent) (place : Place) → look_at document u extent place ≡ look_at document v extent place

module _ (document : Node) (u v : Looks) (same : SameLooks document u v) where
  from_same : (s : Separator) (extent : Extent) (above : Place) → looks_from document u s extent above ≡ looks_from document v s extent above
  from_same s extent above = any_alike _ _ (λ place. ap (λ b. is_sought s above place && b) (same extent place)) (places document)

  step_same : (s : Separator) (test : NameTest) (above : Place) (f g : Place → Bool) → ((place : Place) → f place ≡ g place) → step_looks document u s test above f ≡ step_looks document v s test above g
  step_same s test above f g h =
      ap (λ b. b || list_any (λ place. (is_reached s above place && passes (part_at_place document place) test) && f place) (places document)) (from_same s (extent_of test) above)
      ∙ ap (λ b. looks_from document v s (extent_of test) above || b) (any_alike _ _ (λ place. ap (λ b. (is_reached s above place && passes (part_at_place document place) test) && b) (h place)) (places document))

  attribute_same : (s : Separator) (by_id : Bool) (place : Place) → attribute_looks document u s by_id place ≡ attribute_looks document v s by_id place
  attribute_same Slash true place = refl
  attribute_same Slash false place = from_same Slash extents.full place
  attribute_same DoubleSlash true place = from_same DoubleSlash extents.ids place
  attribute_same DoubleSlash false place = from_same DoubleSlash extents.full place

  mutual
    ends_alike : (steps : Steps) (place : Place) → ends_look document u steps place ≡ ends_look document v steps place
    ends_alike here place = refl
    ends_alike (attribute s attr) place = attribute_same s (is_id attr) place
    ends_alike (itself steps) place = ends_alike steps place
    ends_alike (parent steps) place = any_alike _ _ (λ above. ends_alike steps above) (parents_of place)
    ends_alike (step s test cs steps) place =
        step_same s test place (λ at. all_look document u cs at || (meaning.all_hold document cs at && ends_look document u steps at)) (λ at. all_look document v cs at || (meaning.all_hold document cs at && ends_look document v steps at))
        (λ at. ap (λ b. b || (meaning.all_hold document cs at && ends_look document u steps at)) (all_alike cs at) ∙ ap (λ b. all_look document v cs at || (meaning.all_hold document cs at && b)) (ends_alike steps at))

    side_alike : (side : Side) (place : Place) → side_looks document u side place ≡ side_looks document v side place
    side_alike (values_of steps) place = ends_alike steps place
    side_alike (literal text) place = refl
    side_alike (number n) place = refl

    condition_alike : (c : Condition) (place : Place) → condition_looks document u c place ≡ condition_looks document v c place
    condition_alike (any_of cs) place = each_alike cs place
    condition_alike (all_of cs) place = each_alike cs place
    condition_alike (not_so c) place = condition_alike c place
    condition_alike (selects steps) place = ends_alike steps place
    condition_alike (compares left comparison right) place = ap (λ b. b || side_looks document u right place) (side_alike left place) ∙ ap (λ b. side_looks document v left place || b) (side_alike right place)

    each_alike : (cs : Conditions) (place : Place) → each_look document u cs place ≡ each_look document v cs place
    each_alike no_conditions place = refl
    each_alike (conditions c cs) place = ap (λ b. b || each_look document u cs place) (condition_alike c place) ∙ ap (λ b. condition_looks document v c place || b) (each_alike cs place)

    all_alike : (cs : Conditions) (place : Place) → all_look document u cs place ≡ all_look document v cs place
    all_alike no_conditions place = refl
    all_alike (conditions c cs) place =
        ap (λ b. b || (meaning.holds document c place && all_look document u cs place)) (condition_alike c place) ∙ ap (λ b. condition_looks document v c place || (meaning.holds document c place && b)) (all_alike cs place)

  whole_alike : (place : Place) → whole_looks document u place ≡ whole_looks document v place
  whole_alike [] = refl
  whole_alike (e ∷ place) = from_same DoubleSlash extents.full (e ∷ place)

  path_alike : (ss : List MainStep) (place : Place) → path_looks document u ss place ≡ path_looks document v ss place
  path_alike [] place = whole_alike place
  path_alike (s ∷ ss) place =
      step_same s.separator s.test place (λ at. all_look document u s.conditions at || (meaning.all_hold document s.conditions at && path_looks document u ss at)) (λ at. all_look document v s.conditions at || (meaning.all_hold document s.conditions at && path_looks document v ss at))
      (λ at. ap (λ b. b || (meaning.all_hold document s.conditions at && path_looks document u ss at)) (all_alike s.conditions at) ∙ ap (λ b. all_look document v s.conditions at || (meaning.all_hold document s.conditions at && b)) (path_alike ss at))

part_below_node : (n : Node) (place : Place) (m : Node) → below_node n place ≡ Some (a_node m) → is_some (part_at n (name_of place)) ≡ true
part_below_node n [] m e = refl
part_below_node n (position i ∷ path) m e = absurd (kid_part path (slice_get (local_of n).plain i) m (λ p h. plain_part p path m h) e)
part_below_node n (label l ∷ place) m e =
    let c = first_found (λ child. below_node child place) (child_of l (children_of n)) (a_node m) e in
    ap (λ (o : Option Node). is_some (option_and_then (λ child. part_at child (name_of place)) o)) c.1 ∙ part_below_node c.0 place m c.2

top_part : (document : Node) (place : Place) (m : Node) (b : Bool) → cond b (below_node document place) None ≡ Some (a_node m) → is_some (cond b (part_at document (name_of place)) None) ≡ true
top_part document place m true e = part_below_node document place m e
top_part document place m false e = absurd (cc)

-- a node stands at the name of its place
stands_there : (document : Node) (place : Place) (m : Node) → part_at_place document place ≡ Some (a_node m) → is_some (node_at document (name_of place)) ≡ true
stands_there document [] m e = absurd (cc)
stands_there document (position i ∷ place) m e = absurd (cc)
stands_there document (label l ∷ place) m e = top_part document place m (label_eq (label_of document) l) e

-- looks at names of nodes alone
abbrev at_nodes : Node → Looks → Looks
at_nodes document looks name extent = is_some (node_at document name) && looks name extent

look_at_node : (document : Node) (looks : Looks) (extent : Extent) (name : List Label) (o : Option Part) → ((m : Node) → o ≡ Some (a_node m) → is_some (node_at document name) ≡ true) → is_look looks extent name o ≡ is_look (at_nodes document looks) extent name o
look_at_node document looks extent name None h = refl
look_at_node document looks extent name (Some whole) h = refl
look_at_node document looks extent name (Some (a_node n)) h = ap (λ b. b && looks name extent) (sym (h n refl))
look_at_node document looks extent name (Some (a_plain p)) h = refl

-- a query looks at nodes of the document alone
pub only_nodes : (document : Node) (query : Syntax) (looks : Looks) → query_looks document looks query ≡ query_looks document (at_nodes document looks) query
only_nodes document query looks =
    path_alike document looks (at_nodes document looks) (λ extent place. look_at_node document looks extent (name_of place) (part_at_place document place) (stands_there document place)) (map main_of query) []

-- each look of an evaluation is at a node of the document
pub looks_at_nodes : (document : Node) (query : Syntax) (looks : Looks) → IsCity document
    → list_any (λ (need : Need). looks need.name (extent_of_level need.level)) (needs.looks query (from_document (label_of document)) (runs.all_of document))
    ≡ list_any (λ (need : Need). is_some (node_at document need.name) && looks need.name (extent_of_level need.level)) (needs.looks query (from_document (label_of document)) (runs.all_of document))
looks_at_nodes document query looks city = looks_meant document query looks city ∙ only_nodes document query looks ∙ sym (looks_meant document query (at_nodes document looks) city)

-- ---- merged looks

full_of_both : (l m : Level) → is_full_level (greater l m) ≡ (is_full_level l || is_full_level m)
full_of_both Full m = refl
full_of_both Ids m = refl

both_full : (a b t r : Bool) → (((a || b) && t) || r) ≡ (((a && t) || r) || (b && t))
both_full true true true r = refl
both_full true true false true = refl
both_full true true false false = refl
both_full true false true r = refl
both_full true false false true = refl
both_full true false false false = refl
both_full false true true true = refl
both_full false true true false = refl
both_full false true false true = refl
both_full false true false false = refl
both_full false false t true = refl
both_full false false t false = refl

-- whether a need is of level Full and its name passes
abbrev full_passes : (List Label → Bool) → Need → Bool
full_passes t need = is_full need && t need.name

put_full : (t : List Label → Bool) (o : Ordering) (look need : Need) (more later : List Need) → slice_cmp label_cmp look.name need.name ≡ o → list_any (full_passes t) later ≡ (list_any (full_passes t) more || full_passes t look)
    → list_any (full_passes t) (put_look o look need more later) ≡ (list_any (full_passes t) (need ∷ more) || full_passes t look)
put_full t Less look need more later e h = or_comm (full_passes t look) (list_any (full_passes t) (need ∷ more))
put_full t Equal look need more later e h =
    ap (λ b. (b && t need.name) || list_any (full_passes t) more) (full_of_both need.level look.level)
    ∙ both_full (is_full need) (is_full look) (t need.name) (list_any (full_passes t) more)
    ∙ ap (λ (name : List Label). list_any (full_passes t) (need ∷ more) || (is_full look && t name)) (sym (name_exact look.name need.name e))
put_full t Greater look need more later e h = ap (λ b. full_passes t need || b) h ∙ sym (or_assoc (full_passes t need) (list_any (full_passes t) more) (full_passes t look))

with_full : (t : List Label → Bool) (more : List Need) (look : Need) → list_any (full_passes t) (with_look more look) ≡ (list_any (full_passes t) more || full_passes t look)
with_full t [] look = or_false (full_passes t look)
with_full t (need ∷ more) look = put_full t (slice_cmp label_cmp look.name need.name) look need more (with_look more look) refl (with_full t more look)

fold_full : (t : List Label → Bool) (looks more : List Need) → list_any (full_passes t) (fold with_look more looks) ≡ (list_any (full_passes t) more || list_any (full_passes t) looks)
fold_full t [] more = sym (or_false (list_any (full_passes t) more))
fold_full t (look ∷ looks) more =
    fold_full t looks (with_look more look) ∙ ap (λ b. b || list_any (full_passes t) looks) (with_full t more look) ∙ or_assoc (list_any (full_passes t) more) (full_passes t look) (list_any (full_passes t) looks)

-- the names of level Full among merged looks are those among the looks
merged_full : (t : List Label → Bool) (looks : List Need) → list_any t (full_part (merged (map without_states looks))) ≡ list_any (full_passes t) looks
merged_full t looks =
    any_map t (λ (need : Need). need.name) (filter is_full (merged (map without_states looks)))
    ∙ any_filter (λ (need : Need). t need.name) is_full (merged (map without_states looks))
    ∙ fold_full t (map without_states looks) []
    ∙ any_map (full_passes t) without_states looks

-- ---- in order

names_after : (need : Need) (more : List Need) → AllByRecursion (λ later. need_cmp need later ≡ Less) more → AllByRecursion (λ name. slice_cmp label_cmp need.name name ≡ Less) (map (λ n. n.name) more)
names_after need [] h = tt
names_after need (n ∷ more) h = (h.0, names_after need more h.1)

names_of_needs : (more : List Need) → IsStrictlySortedBy need_cmp more → IsStrictlySortedBy (slice_cmp label_cmp) (map (λ n. n.name) more)
unfolding IsStrictlySortedBy
names_of_needs [] h = tt
names_of_needs (need ∷ more) h = (names_after need more h.0, names_of_needs more h.1)

full_part_rises : (looks : List Need) → IsStrictlySortedBy (slice_cmp label_cmp) (full_part (merged looks))
full_part_rises looks = names_of_needs (filter is_full (merged looks)) (IsStrictlySortedBy-filter need_cmp is_full (merged looks) (merged_ordered looks))

-- ---- the names

one_name : (t : List Label → Bool) (other name : List Label) (b : Bool) → pointwise label_eq other name ≡ b → (b && t other) ≡ (b && t name)
one_name t other name true e = ap t (alike_exact other name e)
one_name t other name false e = refl

any_and_right : {A : Type 0} (t : A → Bool) (b : Bool) (xs : List A) → list_any (λ x. t x && b) xs ≡ (list_any t xs && b)
any_and_right t true [] = refl
any_and_right t false [] = refl
any_and_right t b (x ∷ xs) = ap (λ c. (t x && b) || c) (any_and_right t b xs) ∙ right (t x) (list_any t xs) b
  where
    right : (a c d : Bool) → ((a && d) || (c && d)) ≡ ((a || c) && d)
    right true true true = refl
    right true true false = refl
    right true false true = refl
    right true false false = refl
    right false c d = refl

-- the one name of the document that is a given one
at_that_name : (document : Node) (t : List Label → Bool) (name : List Label) → IsCity document → list_any (λ other. pointwise label_eq other name && t other) (names_of document) ≡ (is_some (node_at document name) && t name)
at_that_name document t name city =
    any_alike _ _ (λ other. one_name t other name (pointwise label_eq other name) refl) (names_of document)
    ∙ any_and_right (λ other. pointwise label_eq other name) (t name) (names_of document)
    ∙ ap (λ b. b && t name) (names_are document name city.in_order.0)

full_extent : (l : Level) → is_full_level l ≡ extents.is_full (extent_of_level l)
full_extent Ids = refl
full_extent Full = refl

looked_full : (document : Node) (query : Syntax) (t : List Label → Bool) → IsCity document → list_any t (needs.full_names query document) ≡ query_looks document (λ name extent. extents.is_full extent && t name) query
looked_full document query t city =
    merged_full t (needs.looks query (from_document (label_of document)) (runs.all_of document))
    ∙ any_alike (full_passes t) (λ need. extents.is_full (extent_of_level need.level) && t need.name) (λ need. ap (λ b. b && t need.name) (full_extent need.level)) (needs.looks query (from_document (label_of document)) (runs.all_of document))
    ∙ looks_meant document query (λ name extent. extents.is_full extent && t name) city

and_exchange : (a b c : Bool) → (a && (b && c)) ≡ (b && (a && c))
and_exchange true true c = refl
and_exchange true false c = refl
and_exchange false true c = refl
and_exchange false false c = refl

-- they are names of nodes
looked_nodes : (document : Node) (query : Syntax) (t : List Label → Bool) → IsCity document → list_any (λ name. is_some (node_at document name) && t name) (needs.full_names query document) ≡ list_any t (needs.full_names query document)
looked_nodes document query t city =
    looked_full document query (λ name. is_some (node_at document name) && t name) city
    ∙ path_alike document (λ name extent. extents.is_full extent && (is_some (node_at document name) && t name)) (at_nodes document (λ name extent. extents.is_full extent && t name))
    (λ extent place. look_same (λ name lv. and_exchange (extents.is_full lv) (is_some (node_at document name)) (t name)) extent (name_of place) (part_at_place document place)) (map main_of query) []
    ∙ sym (only_nodes document query (λ name extent. extents.is_full extent && t name))
    ∙ sym (looked_full document query t city)
  where
    look_same : {f g : Looks} → ((name : List Label) (extent : Extent) → f name extent ≡ g name extent) → (extent : Extent) (name : List Label) (o : Option Part) → is_look f extent name o ≡ is_look g extent name o
    look_same h extent name None = refl
    look_same h extent name (Some whole) = refl
    look_same h extent name (Some (a_node n)) = h name extent
    look_same h extent name (Some (a_plain p)) = refl

full_same : (document : Node) (query : Syntax) (t : List Label → Bool) → IsCity document → list_any t (needs.full_names query document) ≡ list_any t (full_names document query)
full_same document query t city =
    let full = needs.full_names query document in
    sym (looked_nodes document query t city)
    ∙ any_alike _ _ (λ name. sym (at_that_name document t name city)) full
    ∙ any_swap (λ name other. pointwise label_eq other name && t other) full (names_of document)
    ∙ any_alike _ _ (λ other. any_and_right (λ name. pointwise label_eq other name) (t other) full ∙ ap (λ b. b && t other) (looked_full document query (λ name. pointwise label_eq other name) city)) (names_of document)
    ∙ sym (any_filter t (λ name. query_looks document (is_full_at name) query) (names_of document))

-- the names looked at with level Full, over all of a document
pub full_names_meant : (document : Node) (query : Syntax) → IsCity document → needs.full_names query document ≡ full_names document query
full_names_meant document query city =
    one_list (slice_cmp label_cmp) names_total name_exact (needs.full_names query document) (full_names document query)
    (full_part_rises (map without_states (needs.looks query (from_document (label_of document)) (runs.all_of document))))
    (IsStrictlySortedBy-filter (slice_cmp label_cmp) (λ name. query_looks document (is_full_at name) query) (names_of document) (names_rise document city.in_order.0))
    (λ t. full_same document query t city)
