-- What has all that the rows of the nodes ask is a node.
use Rattle.std.proofs.Common.{◌≡◌, ◌⊎◌, ℕ, suc, ◌<◌, Bool, true, false, ◌||◌, List, [], ◌∷◌, ◌++◌, map, codes, Option, Some, None, is_some, cond, length, Ordering, Less, Equal, Greater, Decides, inl, inr, refl, ap, sym, ◌∙◌, subst, bytes_eq, if◌then◌else◌, arith}
use Rattle.std.specs.List.{All, AllByRecursion, IsDistinct, list_any}
use Rattle.std.specs.List.Sorted.{IsPermutation, IsStrictlySortedBy}
use Rattle.std.specs.Ordering.{nat_cmp, is_lt, is_eq, match_ordering}
use Rattle.std.specs.Cmp.Lexicographic.{slice_cmp, texts_ties}
use Rattle.std.proofs.lemmas.Slice.Eq.{bytes_eq-Decides}
use Rattle.std.proofs.lemmas.List.Sorted.{IsPermutation-refl, IsPermutation-trans, IsPermutation-cons, IsPermutation-append_comm, IsPermutation-append_left, All-permutation}
use Rattle.std.proofs.lemmas.List.Elements.{All-from_recursion}
use Rattle.serde_json.specs.Data.{Data, null, boolean, number, string, array, object, Items, no_items, item, Members, no_members, member}
use Rattle.serde_json.specs.Find.{get, get_member}
use Rattle.iris_base.specs.declared.name.Label.{Label}
use Rattle.iris_base.specs.NameOrder.{label_eq, label_cmp, labels_total, labels_ties}
use Rattle.iris_base.specs.Forms.{IsTag}
use Rattle.iris_base.proofs.Labels.{label_eq-Decides}
use Rattle.iris_tree.specs.declared.local.Local.{Local}
use Rattle.iris_tree.specs.declared.plain.Plain.{Plain}
use Rattle.iris_tree.specs.declared.plain.Plain.TheOpen.{Plain-F}
use Rattle.iris_tree.specs.declared.plain.Plain.TheViews.{out-Plain, roll-Plain, out-roll-Plain}
use Rattle.iris_tree.specs.declared.plain.Plain.TheFolds.{fold_out-Plain}
use Rattle.iris_tree.specs.Attrs.{Pairs, value_of}
use Rattle.iris_tree.specs.LocalText.{attrs_data, attrs_members}
use Rattle.iris_tree.specs.NamesId.{has_id, names_id_step, names_id, plains_name_id}
use Rattle.iris_tree.specs.NamesKind.{is_kind_of, names_kind_step, names_kind}
use Rattle.iris_tree.specs.PlainOrder.{in_text_order}
use Rattle.iris_tree.specs.Siblings.{HaveDistinctLabels}
use Rattle.iris_tree.specs.Universe.{Node, node, nodes_of, label_of, labels_of, insert_node, AllAfter}
use Rattle.iris_tree.proofs.Rising.{turned_greater}
use Rattle.iris_tree.proofs.Siblings.{all_after, all_before}
use Rattle.iris_tree.proofs.TextOrder.{all_ordered}
use Rattle.iris_json.specs.declared.city.CityWhy.TheVariants.{Shape, Label as label_row, Twin, Attribute, Plain as plain_row}
use Rattle.iris_json.specs.Objects.{has_only, TextAt}
use Rattle.iris_json.specs.PlainForm.{AreNames, IsTextOrKids}
use Rattle.iris_json.specs.PlainLine.{ItemsAt, AttrsGiven, AttrsAt, OwnTextAt, PlainOwnAt, IsPlain, is_plain, ArePlains, no_plains, more_plains}
use Rattle.iris_json.specs.CityKeys.{LabelAt, LocalAt, IsNode, is_node, AreNodes, none, more}
use Rattle.iris_json.specs.CityParts.{Spot, spots_below, spots_at, spots_in, spots_of, listed, nodes_in, plains_in}
use Rattle.iris_json.specs.CityRows.{EachMember, IsTextData, IsAttrName, HasTextAttrs, HasPlainShape, HasNodeShape, HasAttrNames, HasFreeTag, HasTextOrKids, IsNoTwin, MayHaveText, MayHaveList, PlainHas, AllHas, EachItem}
use Rattle.iris_json.proofs.NodeReading.{own_label}
use Rattle.iris_json.proofs.PlainReading.{layer}
use Rattle.iris_json.proofs.Spots.{below_is, all_first, all_last}

-- ---- from the values below to those above

abbrev Steps : List ℕ → (Spot → Type 0) → (Data → Type 0) → Type 0
Steps key R T = (s : Spot) → R s → AllByRecursion R (spots_of key [] (listed (get key s.value))) → EachItem T (listed (get key s.value)) → T s.value

mutual
  -- a fact that each value has where those listed in it have it
  pub of_items : (key : List ℕ) (R : Spot → Type 0) (T : Data → Type 0) → Steps key R T → (earlier : List Data) (items : Items) → AllByRecursion R (spots_of key earlier items) → EachItem T items
  of_items key R T step earlier no_items all = tt
  of_items key R T step earlier (item d ds) all =
      let below = all_first R (spots_below key d) (spots_of key (d ∷ earlier) ds) all.1 in (
        step (record { earlier = earlier; value = d }) all.0 (subst (AllByRecursion R) (below_is key d) below) (of_below key R T step d below),
        of_items key R T step (d ∷ earlier) ds (all_last R (spots_below key d) (spots_of key (d ∷ earlier) ds) all.1),
      )

  of_below : (key : List ℕ) (R : Spot → Type 0) (T : Data → Type 0) → Steps key R T → (d : Data) → AllByRecursion R (spots_below key d) → EachItem T (listed (get key d))
  of_below key R T step null all = tt
  of_below key R T step (boolean b) all = tt
  of_below key R T step (number n) all = tt
  of_below key R T step (string s) all = tt
  of_below key R T step (array ds) all = tt
  of_below key R T step (object ms) all = of_members key R T step ms all

  of_members : (key : List ℕ) (R : Spot → Type 0) (T : Data → Type 0) → Steps key R T → (ms : Members) → AllByRecursion R (spots_at key ms) → EachItem T (listed (get_member key ms))
  of_members key R T step no_members all = tt
  of_members key R T step (member l d ms) all = by (slice_cmp nat_cmp key l) all (of_members key R T step ms) (of_listed key R T step d)
    where
      by : (o : Ordering) → AllByRecursion R (match_ordering o (spots_at key ms) (spots_in key d) (spots_at key ms))
          → (AllByRecursion R (spots_at key ms) → EachItem T (listed (get_member key ms))) → (AllByRecursion R (spots_in key d) → EachItem T (listed (Some d)))
          → EachItem T (listed (match_ordering o (get_member key ms) (Some d) (get_member key ms)))
      by Less all rest here = rest all
      by Equal all rest here = here all
      by Greater all rest here = rest all

  of_listed : (key : List ℕ) (R : Spot → Type 0) (T : Data → Type 0) → Steps key R T → (d : Data) → AllByRecursion R (spots_in key d) → EachItem T (listed (Some d))
  of_listed key R T step null all = tt
  of_listed key R T step (boolean b) all = tt
  of_listed key R T step (number n) all = tt
  of_listed key R T step (string s) all = tt
  of_listed key R T step (array ds) all = of_items key R T step [] ds all
  of_listed key R T step (object ms) all = tt

-- ---- attributes

pairs_of : (ms : Members) → EachMember (λ key value. IsTextData value) ms → EachMember (λ name value. IsAttrName name) ms → (pairs : Pairs) × (ms ≡ attrs_members pairs) × AreNames pairs × (has_id pairs ≡ false)
pairs_of no_members texts names = ([], refl, tt, refl)
pairs_of (member key d ms) texts names =
    let rest = pairs_of ms texts.1 names.1 in
    let same : member key d ms ≡ member key (string texts.0.0) (attrs_members rest.0) = rw (texts.0.1, rest.1) refl in
    ((key, texts.0.0) ∷ rest.0, same, (names.0.0, rest.2), not_id key texts.0.0 rest.0 names.0.1 rest.3)
  where
    by : (b : Bool) (key text : List ℕ) (pairs : Pairs) → is_eq (slice_cmp nat_cmp (codes "id") key) ≡ b → bytes_eq (codes "id") key ≡ b → (key ≡ codes "id" → ⊥) → has_id pairs ≡ false → is_some (cond b (Some text) (value_of pairs (codes "id"))) ≡ false
    by true key text pairs is same apart rest = absurd (apart (sym ((bytes_eq-Decides (codes "id") key).0 same)))
    by false key text pairs is same apart rest = rest

    not_id : (key text : List ℕ) (pairs : Pairs) → (key ≡ codes "id" → ⊥) → has_id pairs ≡ false → has_id ((key, text) ∷ pairs) ≡ false
    not_id key text pairs apart rest =
        let ties : is_eq (slice_cmp nat_cmp (codes "id") key) ≡ bytes_eq (codes "id") key = sym (texts_ties (codes "id") key) in
        subst (λ (b : Bool). is_some (cond b (Some text) (value_of pairs (codes "id"))) ≡ false) (sym ties) (by (bytes_eq (codes "id") key) key text pairs ties refl apart rest)

attrs_of : (d : Data) → HasTextAttrs d → HasAttrNames d → (pairs : Pairs) × AttrsAt d pairs × (has_id pairs ≡ false)
attrs_of d (inl missing) names = ([], (inr (missing, refl), tt), refl)
attrs_of d (inr (ms, at, texts)) names =
    let p = pairs_of ms texts (names ms at) in
    (p.0, (inl (at ∙ ap (λ (m : Members). Some (object m)) p.1), p.2), p.3)

-- ---- plain elements

-- a plain element with all that the rows ask of one
pub record IsRightPlain (kinds : List (List ℕ)) (p : Spot) : Type 0 where
  pub shape : HasPlainShape p.value
  pub names : HasAttrNames p.value
  pub tag : HasFreeTag kinds p.value
  pub apart : HasTextOrKids p.value

-- a value is a plain element that names no `id` and no kind
abbrev PlainOf : List (List ℕ) → Data → Type 0
PlainOf kinds d = (p : Plain) × IsPlain d p × (names_id p ≡ false) × (names_kind kinds p ≡ false)

-- these values are such plain elements
abbrev PlainsOf : List (List ℕ) → Items → Type 0
PlainsOf kinds items = (ps : List Plain) × ArePlains items ps × AllByRecursion (λ p. names_id p ≡ false) ps × AllByRecursion (λ p. names_kind kinds p ≡ false) ps

plains_of : (kinds : List (List ℕ)) (items : Items) → EachItem (PlainOf kinds) items → PlainsOf kinds items
plains_of kinds no_items each = ([], no_plains, tt, tt)
plains_of kinds (item d ds) each =
    let rest = plains_of kinds ds each.1 in
    (each.0.0 ∷ rest.0, more_plains d each.0.0 ds rest.0 each.0.1 rest.1, (each.0.2, rest.2), (each.0.3, rest.3))

none_names : (f : Plain → Bool) (ps : List Plain) → AllByRecursion (λ p. f p ≡ false) ps → list_any (λ found. found) (map f ps) ≡ false
none_names f [] all = refl
none_names f (p ∷ ps) all = rw (all.0, none_names f ps all.1) refl

-- no element in the order of their texts names one, where none does
pub none_ordered : (f : Plain → Bool) (ps : List Plain) → AllByRecursion (λ p. f p ≡ false) ps → list_any (λ found. found) (map f (in_text_order ps)) ≡ false
none_ordered f ps all = none_names f (in_text_order ps) (all_ordered (λ p. f p ≡ false) ps all)

items_there : (key : List ℕ) (d : Data) → MayHaveList key d → ItemsAt key d (listed (get key d))
items_there key d (inl missing) = inr (missing, rw missing refl)
items_there key d (inr (items, at)) = inl (at ∙ ap (λ (ds : Items). Some (array ds)) (sym (ap listed at)))

text_of : (d : Data) → MayHaveText (codes "text") d → (text : List ℕ) × OwnTextAt d text
text_of d (inl missing) = ([], inr (missing, refl))
text_of d (inr (text, at)) = (text, inl at)

no_kids : (items : Items) (ps : List Plain) → ArePlains items ps → items ≡ no_items → ps ≡ []
no_kids items ps no_plains is = refl
no_kids items ps (more_plains d p rest others one all) is = absurd (cc)

text_or_kids : (d : Data) (text : List ℕ) (ps : List Plain) → HasTextOrKids d → OwnTextAt d text → ArePlains (listed (get (codes "kids") d)) ps → (ps ≡ []) ⊎ (text ≡ [])
text_or_kids d text ps apart (inr (missing, empty)) are = inr empty
text_or_kids d text ps apart (inl at) are = by (apart text at)
  where
    by : (text ≡ []) ⊎ (listed (get (codes "kids") d) ≡ no_items) → (ps ≡ []) ⊎ (text ≡ [])
    by (inl empty) = inr empty
    by (inr alone) = inl (no_kids (listed (get (codes "kids") d)) ps are alone)

id_is : (p : Plain) → names_id p ≡ (has_id (out-Plain p).attrs || list_any (λ found. found) (map names_id (out-Plain p).kids))
id_is p = fold_out-Plain Bool names_id_step p

kind_is : (kinds : List (List ℕ)) (p : Plain) → names_kind kinds p ≡ (is_kind_of kinds (out-Plain p).tag || list_any (λ found. found) (map (names_kind kinds) (out-Plain p).kids))
kind_is kinds p = fold_out-Plain Bool (names_kind_step kinds) p

apart_of : (tag : List ℕ) (attrs : Pairs) (text : List ℕ) (ps : List Plain) → (ps ≡ []) ⊎ (text ≡ []) → IsTextOrKids (layer tag attrs text (in_text_order ps))
apart_of tag attrs text [] (inl alone) some = absurd (omega (arith, some))
apart_of tag attrs text (p ∷ ps) (inl alone) some = absurd (cc)
apart_of tag attrs text ps (inr empty) some = ap length empty

plain_step : (kinds : List (List ℕ)) → Steps (codes "kids") (IsRightPlain kinds) (PlainOf kinds)
plain_step kinds s right all each =
    let d = s.value in
    let attrs = attrs_of d right.shape.attrs right.names in
    let text = text_of d right.shape.text in
    let kids = plains_of kinds (listed (get (codes "kids") d)) each in
    let tag = right.shape.tag in
    let free = right.tag tag.0 tag.1 in
    let x = layer tag.0 attrs.0 text.0 (in_text_order kids.0) in
    let p = roll-Plain x in
    let is : out-Plain p ≡ x = out-roll-Plain x in
    let own : PlainOwnAt d tag.0 attrs.0 text.0 = record { only = right.shape.keys; tag_at = tag.1; is_tag = free.0; attrs_at = attrs.1; text_at = text.1 } in
    let apart = apart_of tag.0 attrs.0 text.0 kids.0 (text_or_kids d text.0 kids.0 right.apart text.1 kids.1) in
    let ids : (has_id x.attrs || list_any (λ found. found) (map names_id x.kids)) ≡ false = rw (attrs.2, none_ordered names_id kids.0 kids.2) refl in
    let tags : (is_kind_of kinds x.tag || list_any (λ found. found) (map (names_kind kinds) x.kids)) ≡ false = rw (free.1, none_ordered (names_kind kinds) kids.0 kids.3) refl in (
      p,
      is_plain d p (listed (get (codes "kids") d)) kids.0 (subst (λ (y : Plain-F Plain). PlainOwnAt d y.tag y.attrs y.text) (sym is) own) (items_there (codes "kids") d right.shape.kids) kids.1
          (ap (λ (y : Plain-F Plain). y.kids) is) (subst IsTextOrKids (sym is) apart),
      id_is p ∙ ap (λ (y : Plain-F Plain). has_id y.attrs || list_any (λ found. found) (map names_id y.kids)) is ∙ ids,
      kind_is kinds p ∙ ap (λ (y : Plain-F Plain). is_kind_of kinds y.tag || list_any (λ found. found) (map (names_kind kinds) y.kids)) is ∙ tags,
    )

-- ---- nodes in the order of their labels

-- labels rise
abbrev Rise : List Node → Type 0
Rise [] = Unit {0}
Rise (n ∷ ns) = AllAfter (label_of n) (nodes_of ns) × Rise ns

rise_sorted : (ns : List Node) → Rise ns → IsStrictlySortedBy label_cmp (labels_of ns)
unfolding IsStrictlySortedBy
rise_sorted [] r = tt
rise_sorted (n ∷ ns) r = (each ns r.0, rise_sorted ns r.1)
  where
    each : (ms : List Node) → AllAfter (label_of n) (nodes_of ms) → AllByRecursion (λ l. label_cmp (label_of n) l ≡ Less) (labels_of ms)
    each [] h = tt
    each (m ∷ ms) h = (h.0, each ms h.1)

insert_rise : (n : Node) (os : List Node) → Rise os → AllByRecursion (λ l. label_eq (label_of n) l ≡ false) (labels_of os) → Rise (insert_node n os)
insert_rise n [] r apart = (tt, tt)
insert_rise n (o ∷ os) r apart = by (label_cmp (label_of n) (label_of o)) refl (insert_rise n os r.1 apart.1)
  where
    by : (c : Ordering) → label_cmp (label_of n) (label_of o) ≡ c → Rise (insert_node n os) → Rise (if is_lt c then n ∷ o ∷ os else o ∷ insert_node n os)
    by Less is rest = ((is, all_before (label_of n) (label_of o) os is r.0), r)
    by Equal is rest = let same : label_eq (label_of n) (label_of o) ≡ true = labels_ties (label_of n) (label_of o) ∙ ap is_eq is in absurd (cc (same, apart.0))
    by Greater is rest = (all_after (label_of o) n os (turned_greater labels_total (label_of n) (label_of o) is) r.0, rest)

insert_moves : (n : Node) (os : List Node) → IsPermutation (n ∷ os) (insert_node n os)
insert_moves n [] = IsPermutation-refl (n ∷ [])
insert_moves n (o ∷ os) = by (is_lt (label_cmp (label_of n) (label_of o))) (insert_moves n os)
  where
    by : (b : Bool) → IsPermutation (n ∷ os) (insert_node n os) → IsPermutation (n ∷ o ∷ os) (if b then n ∷ o ∷ os else o ∷ insert_node n os)
    by true rest = IsPermutation-refl (n ∷ o ∷ os)
    by false rest = IsPermutation-trans (n ∷ o ∷ os) (o ∷ n ∷ os) (o ∷ insert_node n os) (IsPermutation-append_left os (n ∷ o ∷ []) (o ∷ n ∷ []) (IsPermutation-append_comm (n ∷ []) (o ∷ []))) (IsPermutation-cons o (n ∷ os) (insert_node n os) rest)

labels_all : (P : Label → Type 0) (ns : List Node) → All (λ n. P (label_of n)) ns → AllByRecursion P (labels_of ns)
labels_all P [] h = tt
labels_all P (n ∷ ns) h = (h 0 n (omega arith), labels_all P ns (λ k d lt. h (suc k) d (omega arith)))

labels_back : (P : Label → Type 0) (ns : List Node) → AllByRecursion P (labels_of ns) → AllByRecursion (λ n. P (label_of n)) ns
labels_back P [] h = tt
labels_back P (n ∷ ns) h = (h.0, labels_back P ns h.1)

-- nodes with distinct labels have an order by their labels
put_in_order : (ns : List Node) → HaveDistinctLabels ns → (os : List Node) × IsPermutation ns os × Rise os
unfolding IsDistinct
put_in_order [] distinct = ([], IsPermutation-refl [], tt)
put_in_order (n ∷ ns) distinct =
    let rest = put_in_order ns distinct.1 in
    let P : Label → Type 0 = λ l. label_eq (label_of n) l ≡ false in
    let apart = labels_all P rest.0 (All-permutation (λ m. P (label_of m)) ns rest.0 rest.1 (All-from_recursion (λ m. P (label_of m)) ns (labels_back P ns distinct.0))) in
    (insert_node n rest.0, IsPermutation-trans (n ∷ ns) (n ∷ rest.0) (insert_node n rest.0) (IsPermutation-cons n ns rest.0 rest.1) (insert_moves n rest.0), insert_rise n rest.0 rest.2 apart)

-- ---- siblings that are no twins

-- a node with all that the rows ask of one
pub record IsRightNode (kinds : List (List ℕ)) (n : Spot) : Type 0 where
  pub shape : AllHas Shape [] n
  pub label : AllHas label_row kinds n
  pub alone : AllHas Twin kinds n
  pub names : AllHas Attribute kinds n
  pub plain : AllHas plain_row kinds n

-- one of these values has the label
abbrev Holds : List (List ℕ) → Label → List Data → Type 0
Holds kinds l earlier = AllByRecursion (λ e. LabelAt kinds e l → ⊥) earlier → ⊥

apart_step : (kinds : List (List ℕ)) (l m : Label) (b : Bool) → label_eq l m ≡ b → (l ≡ m → ⊥) → b ≡ false
apart_step kinds l m true is apart = absurd (apart ((label_eq-Decides l m).0 is))
apart_step kinds l m false is apart = refl

apart_from : (kinds : List (List ℕ)) (l : Label) (earlier : List Data) (items : Items) (ns : List Node) → Holds kinds l earlier → AllByRecursion (IsRightNode kinds) (spots_of (codes "nodes") earlier items) → AreNodes kinds items ns → AllByRecursion (λ m. label_eq l m ≡ false) (labels_of ns)
apart_from kinds l earlier items ns holds all none = tt
apart_from kinds l earlier items ns holds all (more d n ds ms one rest) = (
  apart_step kinds l (label_of n) (label_eq l (label_of n)) refl (λ same. holds (subst (λ (x : Label). AllByRecursion (λ e. LabelAt kinds e x → ⊥) earlier) (sym same) (all.0.alone.0 (label_of n) (own_label kinds d n one)))),
  apart_from kinds l (d ∷ earlier) ds ms (λ h. holds h.1) (all_last (IsRightNode kinds) (spots_below (codes "nodes") d) (spots_of (codes "nodes") (d ∷ earlier) ds) all.1) rest,
)

distinct_of : (kinds : List (List ℕ)) (earlier : List Data) (items : Items) (ns : List Node) → AllByRecursion (IsRightNode kinds) (spots_of (codes "nodes") earlier items) → AreNodes kinds items ns → HaveDistinctLabels ns
unfolding IsDistinct
distinct_of kinds earlier items ns all none = tt
distinct_of kinds earlier items ns all (more d n ds ms one rest) =
    let last = all_last (IsRightNode kinds) (spots_below (codes "nodes") d) (spots_of (codes "nodes") (d ∷ earlier) ds) all.1 in
    (apart_from kinds (label_of n) (d ∷ earlier) ds ms (λ h. h.0 (own_label kinds d n one)) last rest, distinct_of kinds (d ∷ earlier) ds ms last rest)

-- ---- nodes

abbrev NodeOf : List (List ℕ) → Data → Type 0
NodeOf kinds d = (n : Node) × IsNode kinds d n

nodes_from : (kinds : List (List ℕ)) (items : Items) → EachItem (NodeOf kinds) items → (ns : List Node) × AreNodes kinds items ns
nodes_from kinds no_items each = ([], none)
nodes_from kinds (item d ds) each = let rest = nodes_from kinds ds each.1 in (each.0.0 ∷ rest.0, more d each.0.0 ds rest.0 each.0.1 rest.1)

right_plains : (kinds : List (List ℕ)) (ps : List Spot) → AllByRecursion (PlainHas Shape []) ps → AllByRecursion (PlainHas Attribute kinds) ps → AllByRecursion (PlainHas plain_row kinds) ps → AllByRecursion (IsRightPlain kinds) ps
right_plains kinds [] shapes names plains = tt
right_plains kinds (p ∷ ps) shapes names plains = (record { shape = shapes.0; names = names.0; tag = plains.0.0; apart = plains.0.1 }, right_plains kinds ps shapes.1 names.1 plains.1)

local_from : (kinds : List (List ℕ)) (n : Spot) → IsRightNode kinds n → (local : Local) × LocalAt kinds n.value local
local_from kinds n right =
    let d = n.value in
    let attrs = attrs_of d right.shape.0.attrs right.names.0 in
    let items = listed (get (codes "plain") d) in
    let each = of_items (codes "kids") (IsRightPlain kinds) (PlainOf kinds) (plain_step kinds) [] items (right_plains kinds (plains_in d) right.shape.1 right.names.1 right.plain.1) in
    let plains = plains_of kinds items each in
    let ids : (has_id attrs.0 || plains_name_id (in_text_order plains.0)) ≡ false = rw (attrs.2, none_ordered names_id plains.0 plains.2) refl in
    (record { attrs = attrs.0; plain = in_text_order plains.0 }, record { attrs_at = attrs.1; plain_at = (items, plains.0, items_there (codes "plain") d right.shape.0.plain, plains.1, refl); no_id = ids; no_kind = none_ordered (names_kind kinds) plains.0 plains.3 })

node_step : (kinds : List (List ℕ)) → Steps (codes "nodes") (IsRightNode kinds) (NodeOf kinds)
node_step kinds s right all each =
    let d = s.value in
    let items = listed (get (codes "nodes") d) in
    let ns = nodes_from kinds items each in
    let os = put_in_order ns.0 (distinct_of kinds [] items ns.0 all ns.1) in
    let local = local_from kinds s right in
    let label = right.label.0 in
    (node label.0 local.0 (nodes_of os.0), is_node d label.0 local.0 items ns.0 os.0 (right.shape.0.keys, label.1, local.1) (items_there (codes "nodes") d right.shape.0.nodes) ns.1 (record { same = os.1; rise = rise_sorted os.0 os.2 }))

right_nodes : (kinds : List (List ℕ)) (ns : List Spot) → AllByRecursion (AllHas Shape []) ns → AllByRecursion (AllHas label_row kinds) ns → AllByRecursion (AllHas Twin kinds) ns → AllByRecursion (AllHas Attribute kinds) ns → AllByRecursion (AllHas plain_row kinds) ns → AllByRecursion (IsRightNode kinds) ns
right_nodes kinds [] shapes labels twins names plains = tt
right_nodes kinds (n ∷ ns) shapes labels twins names plains = (record { shape = shapes.0; label = labels.0; alone = twins.0; names = names.0; plain = plains.0 }, right_nodes kinds ns shapes.1 labels.1 twins.1 names.1 plains.1)

-- a value that has what each row of the nodes asks is a node
pub node_exists : (kinds : List (List ℕ)) (tree : Data) → AllByRecursion (AllHas Shape []) (nodes_in tree) → AllByRecursion (AllHas label_row kinds) (nodes_in tree) → AllByRecursion (AllHas Twin kinds) (nodes_in tree) → AllByRecursion (AllHas Attribute kinds) (nodes_in tree) → AllByRecursion (AllHas plain_row kinds) (nodes_in tree)
    → (n : Node) × IsNode kinds tree n
node_exists kinds tree shapes labels twins names plains =
    let all = right_nodes kinds (nodes_in tree) shapes labels twins names plains in
    node_step kinds (record { earlier = []; value = tree }) all.0 (subst (AllByRecursion (IsRightNode kinds)) (below_is (codes "nodes") tree) all.1) (of_below (codes "nodes") (IsRightNode kinds) (NodeOf kinds) (node_step kinds) tree all.1)
