-- From a JSON value to a plain element: its kids are read one after another, and put in the order of their texts.
use Rattle.std.proofs.Common.{◌≡◌, ℕ, zero, suc, ◌+◌, ◌<◌, ◌≤◌, max, inl, inr, ◌⊎◌, Ordering, Less, Equal, Greater, nat_cmp, codes, List, [], ◌∷◌, ◌++◌, length, take, get_or, Option, Some, None, refl, ap, sym, ◌∙◌, subst, arith}
use Rattle.std.specs.Prelude.{option_and_then}
use Rattle.std.specs.Cmp.Lexicographic.{slice_cmp}
use Rattle.std.specs.List.{AllByRecursion, slice_get}
use Rattle.std.specs.Ordering.{match_ordering}
use Rattle.std.specs.Str.{IsUtf8}
use Rattle.std.proofs.lemmas.List.{take_more, take_all}
use Rattle.std.proofs.lemmas.List.Elements.{All-from_recursion}
use Rattle.serde_json.specs.declared.value.Value.{Value}
use Rattle.serde_json.specs.Data.{Data, object, Members, no_members, member, Items, no_items, item, depth, items_depth, members_depth}
use Rattle.serde_json.specs.Find.{as_object, get_member}
use Rattle.serde_json.specs.View.{view, items_view}
use Rattle.iris_tree.specs.declared.plain.Plain.{Plain}
use Rattle.iris_tree.specs.declared.plain.Plain.TheOpen.{Plain-F}
use Rattle.iris_tree.specs.declared.plain.Plain.TheViews.{out-Plain, roll-Plain, out-roll-Plain, roll-out-Plain}
use Rattle.iris_tree.specs.Attrs.{Pairs}
use Rattle.iris_tree.specs.Document.{Place, position, label, a_plain, below_plain}
use Rattle.iris_tree.specs.LocalText.{attrs_members}
use Rattle.iris_tree.specs.PlainOrder.{IsCanonicalPlain, AreCanonical, AreInTextOrder, in_text_order}
use Rattle.iris_tree.proofs.TextOrder.{all_ordered, ordered_rises, length-in_text_order}
use Rattle.iris_json.specs.PlainForm.{AreTexts, IsTextOrKids, IsPlainOwn, EachPlain, IsPlainForm, ArePlainForms}
use Rattle.iris_json.specs.PlainLine.{ItemsAt, AttrsAt, OwnTextAt, PlainOwnAt, IsPlain, is_plain, ArePlains, no_plains, more_plains, PlainsAt}
use Rattle.iris_json.proofs.AttrReading.{attrs_same}
use Rattle.iris_json.proofs.MemberKeys.{object_of}

-- ---- a fact of an element and of each below it

found_in : (P : Plain → Type 0) (ps : List Plain) (i : ℕ) (p : Plain) → AllByRecursion P ps → slice_get ps i ≡ Some p → P p
found_in P [] i p each found = absurd (cc)
found_in P (q ∷ ps) zero p each found = let same : q ≡ p = cc in subst P same each.0
found_in P (q ∷ ps) (suc i) p each found = found_in P ps i p each.1 found

-- of the element itself and of each below its kids
pub each_plain : (P : Plain → Type 0) (p : Plain) → P p → AllByRecursion (EachPlain P) (out-Plain p).kids → EachPlain P p
each_plain P p own kids [] q there = let same : p ≡ q = cc in subst P same own
each_plain P p own kids (label l ∷ place) q there = absurd (cc)
each_plain P p own kids (position i ∷ place) q there = by (slice_get (out-Plain p).kids i) refl there
  where
    by : (o : Option Plain) → slice_get (out-Plain p).kids i ≡ o → option_and_then (λ kid. below_plain kid place) o ≡ Some (a_plain q) → P q
    by None found at = absurd (cc)
    by (Some kid) found at = found_in (EachPlain P) (out-Plain p).kids i kid kids found place q at

-- and back
pub own_plain : (P : Plain → Type 0) (p : Plain) → EachPlain P p → P p
own_plain P p each = each [] p refl

each_in : (P : Plain → Type 0) (ps : List Plain) → ((i : ℕ) (place : Place) (q : Plain) → option_and_then (λ kid. below_plain kid place) (slice_get ps i) ≡ Some (a_plain q) → P q) → AllByRecursion (EachPlain P) ps
each_in P [] h = tt
each_in P (p ∷ ps) h = (λ place q there. h 0 place q there, each_in P ps (λ i place q there. h (suc i) place q there))

-- of each of its kids, and of each below them
pub kids_plain : (P : Plain → Type 0) (p : Plain) → EachPlain P p → AllByRecursion (EachPlain P) (out-Plain p).kids
kids_plain P p each = each_in P (out-Plain p).kids (λ i place q there. each (position i ∷ place) q there)

-- ---- lists of elements

abbrev Splits : Items → List Plain → Type 0
Splits no_items ps = ps ≡ []
Splits (item d items) ps = (p : Plain) × (rest : List Plain) × (ps ≡ p ∷ rest) × IsPlain d p × ArePlains items rest

split : (items : Items) (ps : List Plain) → ArePlains items ps → Splits items ps
split items ps no_plains = refl
split items ps (more_plains d p rest qs one all) = (p, qs, refl, one, all)

-- one more at the end
plains_more : (xs : List Value) (v : Value) (ps : List Plain) (p : Plain) → ArePlains (items_view xs) ps → IsPlain (view v) p → ArePlains (items_view (xs ++ v ∷ [])) (ps ++ p ∷ [])
plains_more [] v ps p are one = subst (λ (qs : List Plain). ArePlains (items_view (v ∷ [])) (qs ++ p ∷ [])) (sym (split no_items ps are)) (more_plains (view v) p no_items [] one no_plains)
plains_more (x ∷ xs) v ps p are one =
    let s = split (items_view (x ∷ xs)) ps are in
    subst (λ (qs : List Plain). ArePlains (items_view ((x ∷ xs) ++ v ∷ [])) (qs ++ p ∷ [])) (sym s.2) (more_plains (view x) s.0 (items_view (xs ++ v ∷ [])) (s.1 ++ p ∷ []) s.3 (plains_more xs v s.1 p s.4 one))

-- the value at a place of a list of elements is an element
pub plain_there : (vs : List Value) (ps : List Plain) (i : ℕ) (v : Value) → ArePlains (items_view vs) ps → i < length vs → v ≡ get_or vs i v → (p : Plain) × IsPlain (view v) p
plain_there [] ps i v are within is = absurd (omega (arith, within))
plain_there (x ∷ vs) ps zero v are within is =
    let s = split (items_view (x ∷ vs)) ps are in
    (s.0, subst (λ (w : Value). IsPlain (view w) s.0) (sym is) s.3)
plain_there (x ∷ vs) ps (suc i) v are within is = let s = split (items_view (x ∷ vs)) ps are in plain_there vs s.1 i v s.4 (omega (arith, within)) is

plains_len : (vs : List Value) (ps : List Plain) → ArePlains (items_view vs) ps → length ps ≡ length vs
plains_len [] ps are = ap length (split no_items ps are)
plains_len (x ∷ vs) ps are = let s = split (items_view (x ∷ vs)) ps are in ap length s.2 ∙ ap suc (plains_len vs s.1 s.4)

-- ---- one element at most

-- what a value that is an element has
abbrev pub PlainParts : Data → Plain → Type 0
PlainParts d p =
    (items : Items) × (given : List Plain) × PlainOwnAt d (out-Plain p).tag (out-Plain p).attrs (out-Plain p).text × ItemsAt (codes "kids") d items × ArePlains items given × ((out-Plain p).kids ≡ in_text_order given) × IsTextOrKids (out-Plain p)

parts : (d : Data) (p : Plain) → IsPlain d p → PlainParts d p
parts d p (is_plain e q items given own at are order apart) = (items, given, own, at, are, order, apart)

-- of attributes
pub attrs_once : (d : Data) (pairs others : Pairs) → AttrsAt d pairs → AttrsAt d others → pairs ≡ others
attrs_once d pairs others (inl h, named) (inl k, also) = let same : attrs_members pairs ≡ attrs_members others = cc (h, k) in attrs_same pairs others same
attrs_once d pairs others (inl h, named) (inr k, also) = absurd (cc (h, k.0))
attrs_once d pairs others (inr h, named) (inl k, also) = absurd (cc (h.0, k))
attrs_once d pairs others (inr h, named) (inr k, also) = h.1 ∙ sym k.1

text_once : (d : Data) (text other : List ℕ) → OwnTextAt d text → OwnTextAt d other → text ≡ other
text_once d text other (inl h) (inl k) = cc (h, k)
text_once d text other (inl h) (inr k) = absurd (cc (h, k.0))
text_once d text other (inr h) (inl k) = absurd (cc (h.0, k))
text_once d text other (inr h) (inr k) = h.1 ∙ sym k.1

-- of a list
pub items_once : (key : List ℕ) (d : Data) (items others : Items) → ItemsAt key d items → ItemsAt key d others → items ≡ others
items_once key d items others (inl h) (inl k) = cc (h, k)
items_once key d items others (inl h) (inr k) = absurd (cc (h, k.0))
items_once key d items others (inr h) (inl k) = absurd (cc (h.0, k))
items_once key d items others (inr h) (inr k) = h.1 ∙ sym k.1

-- elements with the same parts are the same
same_plain : (p q : Plain) → (out-Plain p).tag ≡ (out-Plain q).tag → (out-Plain p).attrs ≡ (out-Plain q).attrs → (out-Plain p).text ≡ (out-Plain q).text → (out-Plain p).kids ≡ (out-Plain q).kids → p ≡ q
same_plain p q tags attrs texts kids =
    let layers : out-Plain p ≡ out-Plain q = λ i. record { tag = tags i; attrs = attrs i; text = texts i; kids = kids i } in
    sym (roll-out-Plain p) ∙ ap roll-Plain layers ∙ roll-out-Plain q

-- a value is one element at most
mutual
  pub plain_once : (d : Data) (p q : Plain) → IsPlain d p → IsPlain d q → p ≡ q
  plain_once d p q (is_plain e r items given own at are order apart) is =
      let s = parts d q is in
      let also : ArePlains items s.1 = subst (λ (xs : Items). ArePlains xs s.1) (sym (items_once (codes "kids") d items s.0 at s.3)) s.4 in
      same_plain p q (cc (own.tag_at, s.2.tag_at)) (attrs_once d (out-Plain p).attrs (out-Plain q).attrs own.attrs_at s.2.attrs_at) (text_once d (out-Plain p).text (out-Plain q).text own.text_at s.2.text_at)
      (order ∙ ap in_text_order (plains_once items given s.1 are also) ∙ sym s.5)

  pub plains_once : (items : Items) (ps qs : List Plain) → ArePlains items ps → ArePlains items qs → ps ≡ qs
  plains_once items ps qs no_plains is = sym (split no_items qs is)
  plains_once items ps qs (more_plains d p rest others one all) is =
      let s = split (item d rest) qs is in
      let first : p ≡ s.0 = plain_once d p s.0 one s.3 in
      let later : others ≡ s.1 = plains_once rest others s.1 all s.4 in
      ap (λ (x : Plain). x ∷ others) first ∙ ap (λ (xs : List Plain). s.0 ∷ xs) later ∙ sym s.2

-- of the elements of a node
pub plains_at_once : (d : Data) (ps qs : List Plain) → PlainsAt d ps → PlainsAt d qs → ps ≡ qs
plains_at_once d ps qs h g =
    let same = subst (λ (items : Items). ArePlains items g.1) (sym (items_once (codes "plain") d h.0 g.0 h.2 g.2)) g.3 in
    h.4 ∙ ap in_text_order (plains_once h.0 h.1 g.1 h.3 same) ∙ sym g.4

-- ---- the loop over the kids

-- the first i of these values are the elements ps
pub record ReadSo (items : List Value) (i : ℕ) (ps : List Plain) : Type 0 where
  pub are : ArePlains (items_view (take i items)) ps
  pub form : ArePlainForms ps
  pub canonical : AllByRecursion IsCanonicalPlain ps

pub so_start : (items : List Value) (ps : List Plain) → ps ≡ [] → ReadSo items 0 ps
so_start items [] alone = record { are = no_plains; form = tt; canonical = tt }
so_start items (p ∷ ps) alone = absurd (cc)

each_more : (P : Plain → Type 0) (ps : List Plain) (p : Plain) → AllByRecursion P ps → P p → AllByRecursion P (ps ++ p ∷ [])
each_more P [] p all one = (one, tt)
each_more P (q ∷ ps) p all one = (all.0, each_more P ps p all.1 one)

-- one element more
pub so_step : (items : List Value) (i : ℕ) (ps : List Plain) → ReadSo items i ps → (v : Value) → i < length items → v ≡ get_or items i v
    → (p : Plain) → IsPlain (view v) p → IsPlainForm p → IsCanonicalPlain p → (new : List Plain) → new ≡ ps ++ p ∷ [] → ReadSo items (i + 1) new
so_step items i ps s v within is p one form canonical new made =
    let before : take i items ++ v ∷ [] ≡ take (i + 1) items = ap (λ (x : Value). take i items ++ x ∷ []) is ∙ sym (take_more items i v within) in
    let are = subst (λ (vs : List Value). ArePlains (items_view vs) (ps ++ p ∷ [])) before (plains_more (take i items) v ps p s.are one) in
    record {
      are = subst (ArePlains (items_view (take (i + 1) items))) (sym made) are;
      form = subst ArePlainForms (sym made) (each_more IsPlainForm ps p s.form form);
      canonical = subst (AllByRecursion IsCanonicalPlain) (sym made) (each_more IsCanonicalPlain ps p s.canonical canonical);
    }

-- all of the values are read
pub all_read : (items : List Value) (i : ℕ) (ps : List Plain) → ReadSo items i ps → length items ≤ i → ArePlains (items_view items) ps
all_read items i ps s end = subst (λ (vs : List Value). ArePlains (items_view vs) ps) (take_all i items end) s.are

-- ---- each kid is less deep than the value that it is in

shallow_step : (o : Ordering) (later : Option Data) (e d : Data) (most : ℕ) → match_ordering o later (Some e) later ≡ Some d → (later ≡ Some d → depth d ≤ most) → depth d ≤ max (depth e) most
shallow_step Less later e d most h rest = omega (arith, rest h)
shallow_step Equal later e d most h rest = let same : e ≡ d = cc in omega (arith, ap depth same)
shallow_step Greater later e d most h rest = omega (arith, rest h)

shallow_member : (key : List ℕ) (ms : Members) (d : Data) → get_member key ms ≡ Some d → depth d ≤ members_depth ms
shallow_member key no_members d h = absurd (cc)
shallow_member key (member k e ms) d h = shallow_step (slice_cmp nat_cmp key k) (get_member key ms) e d (members_depth ms) h (shallow_member key ms d)

shallow_item : (vs : List Value) (i : ℕ) (v : Value) → i < length vs → depth (view (get_or vs i v)) ≤ items_depth (items_view vs)
shallow_item [] i v within = absurd (omega arith)
shallow_item (x ∷ vs) zero v within = omega arith
shallow_item (x ∷ vs) (suc i) v within = omega (arith, shallow_item vs i v (omega arith))

shallow_items : (key : List ℕ) (ms : Members) (vs : List Value) (i : ℕ) (v : Value) → ItemsAt key (object ms) (items_view vs) → i < length vs → suc (depth (view (get_or vs i v))) ≤ members_depth ms
shallow_items key ms vs i v (inl at) within = omega (arith, shallow_member key ms _ at, shallow_item vs i v within)
shallow_items key ms [] i v (inr at) within = absurd (omega arith)
shallow_items key ms (x ∷ vs) i v (inr at) within = absurd (cc (at.1))

-- as the loop over a list knows them
pub less_deep : (key : List ℕ) (t : ℕ) (d : Data) (ms : Members) (vs : List Value) (i : ℕ) (v : Value) → Some ms ≡ as_object d → ItemsAt key (object ms) (items_view vs) → i < length vs → v ≡ get_or vs i v → depth d ≡ t → depth (view v) < t
less_deep key t d ms vs i v o at within is whole = omega (arith, whole, ap depth (object_of d ms o), ap (λ (x : Value). depth (view x)) is, shallow_items key ms vs i v at within)

-- ---- the ways out

-- what an element of this object has
pub inside : (d : Data) (ms : Members) (p : Plain) → Some ms ≡ as_object d → IsPlain d p → PlainParts (object ms) p
inside d ms p o is = subst (λ (v : Data). PlainParts v p) (object_of d ms o) (parts d p is)

-- the kids of an element of this object, whose list of kids is vs
pub kids_of_it : (d : Data) (ms : Members) (vs : List Value) (p : Plain) → Some ms ≡ as_object d → ((items : Items) → ItemsAt (codes "kids") (object ms) items → items_view vs ≡ items) → IsPlain d p
    → (given : List Plain) × ArePlains (items_view vs) given × ((out-Plain p).kids ≡ in_text_order given) × IsTextOrKids (out-Plain p)
kids_of_it d ms vs p o same is =
    let s = inside d ms p o is in
    (s.1, subst (λ (items : Items). ArePlains items s.1) (sym (same s.0 s.3)) s.4, s.5, s.6)

-- no element of this object has both kids and a text
pub not_both : (d : Data) (ms : Members) (vs : List Value) (p : Plain) (tag : List ℕ) (attrs : Pairs) (text : List ℕ) → Some ms ≡ as_object d → ((items : Items) → ItemsAt (codes "kids") (object ms) items → items_view vs ≡ items) → PlainOwnAt (object ms) tag attrs text
    → 0 < length vs → 0 < length text → IsPlain d p → ⊥
not_both d ms vs p tag attrs text o same own kids some is =
    let s = inside d ms p o is in
    let k = kids_of_it d ms vs p o same is in
    let texts : text ≡ (out-Plain p).text = text_once (object ms) text (out-Plain p).text own.text_at s.2.text_at in
    let empty = k.3 (omega (arith, kids, plains_len vs k.0 k.1, length-in_text_order k.0, ap length k.2)) in
    omega (arith, some, ap length texts, empty)

-- a plain element of these parts
abbrev pub layer : List ℕ → Pairs → List ℕ → List Plain → Plain-F Plain
layer tag attrs text kids = record { tag = tag; attrs = attrs; text = text; kids = kids }

text_or_kids : (vs : List Value) (given kids : List Plain) (text : List ℕ) → ArePlains (items_view vs) given → kids ≡ in_text_order given → (length vs ≡ 0) ⊎ (length text ≡ 0) → 0 < length kids → length text ≡ 0
text_or_kids vs given kids text are order (inl none) some = absurd (omega (arith, none, some, plains_len vs given are, length-in_text_order given, ap length order))
text_or_kids vs given kids text are order (inr empty) some = empty

-- the same, as its parts are spelled
pub own_same : (d : Data) (tag : List ℕ) (attrs same : Pairs) (text also : List ℕ) → same ≡ attrs → also ≡ text → PlainOwnAt d tag attrs text → PlainOwnAt d tag same also
own_same d tag attrs same text also attrs_are text_is own = subst (λ (a : Pairs). PlainOwnAt d tag a also) (sym attrs_are) (subst (PlainOwnAt d tag attrs) (sym text_is) own)

-- all of the values are read, and put in order
pub so_found : (d : Data) (ms : Members) (items : List Value) (i : ℕ) (given : List Plain) → ReadSo items i given → Some ms ≡ as_object d
    → (tag : List ℕ) (attrs : Pairs) (text : List ℕ) (kids : List Plain) → PlainOwnAt (object ms) tag attrs text → ItemsAt (codes "kids") (object ms) (items_view items) → length items ≤ i → kids ≡ in_text_order given
    → (length items ≡ 0) ⊎ (length text ≡ 0) → IsPlain d (roll-Plain (layer tag attrs text kids))
so_found d ms items i given s o tag attrs text kids own at end order apart =
    let x = layer tag attrs text kids in
    let are = all_read items i given s end in
    subst (λ (v : Data). IsPlain v (roll-Plain x)) (sym (object_of d ms o))
    (is_plain (object ms) (roll-Plain x) (items_view items) given (subst (λ (y : Plain-F Plain). PlainOwnAt (object ms) y.tag y.attrs y.text) (sym (out-roll-Plain x)) own) at are
    (ap (λ (y : Plain-F Plain). y.kids) (out-roll-Plain x) ∙ order) (subst IsTextOrKids (sym (out-roll-Plain x)) (text_or_kids items given kids text are order apart)))

own_form : (d : Data) (p : Plain) → IsPlain d p → AreTexts (out-Plain p).attrs → IsUtf8 (out-Plain p).text → IsPlainOwn (out-Plain p)
own_form d p is texts utf8 = let s = parts d p is in record { tag = s.2.is_tag; names = s.2.attrs_at.1; texts = texts; utf8 = utf8; apart = s.6 }

-- it is of its form
pub so_form : (d : Data) (given : List Plain) → ArePlainForms given → (tag : List ℕ) (attrs same : Pairs) (text also : List ℕ) (kids : List Plain) → IsPlain d (roll-Plain (layer tag same also kids)) → same ≡ attrs → also ≡ text → AreTexts attrs × IsUtf8 text
    → kids ≡ in_text_order given → IsPlainForm (roll-Plain (layer tag same also kids))
so_form d given each tag attrs same text also kids is attrs_are text_is texts order =
    let x = layer tag same also kids in
    let rise = subst (λ (y : Plain-F Plain). AreTexts y.attrs) (sym (out-roll-Plain x)) (subst AreTexts (sym attrs_are) texts.0) in
    let utf8 = subst (λ (y : Plain-F Plain). IsUtf8 y.text) (sym (out-roll-Plain x)) (subst IsUtf8 (sym text_is) texts.1) in
    each_plain (λ p. IsPlainOwn (out-Plain p)) (roll-Plain x) (own_form d (roll-Plain x) is rise utf8)
    (subst ArePlainForms (sym (ap (λ (y : Plain-F Plain). y.kids) (out-roll-Plain x) ∙ order)) (all_ordered IsPlainForm given each))

-- and canonical
pub so_canonical : (given : List Plain) → AllByRecursion IsCanonicalPlain given → (x : Plain-F Plain) → x.kids ≡ in_text_order given → IsCanonicalPlain (roll-Plain x)
so_canonical given each x order =
    let kids = ap (λ (y : Plain-F Plain). y.kids) (out-roll-Plain x) ∙ order in
    each_plain (λ p. AreInTextOrder (out-Plain p).kids) (roll-Plain x) (subst AreInTextOrder (sym kids) (ordered_rises given))
    (subst (AllByRecursion IsCanonicalPlain) (sym kids) (all_ordered IsCanonicalPlain given each))

-- ---- the elements of a node

-- those of this object, whose list of them is vs
pub plains_there : (d : Data) (vs : List Value) (ps : List Plain) → ((items : Items) → ItemsAt (codes "plain") d items → items_view vs ≡ items) → PlainsAt d ps → (given : List Plain) × ArePlains (items_view vs) given
plains_there d vs ps same at = (at.1, subst (λ (items : Items). ArePlains items at.1) (sym (same at.0 at.2)) at.3)

-- all of the values are read, and put in order
pub all_found : (d : Data) (items : List Value) (i : ℕ) (given : List Plain) → ReadSo items i given → ItemsAt (codes "plain") d (items_view items) → length items ≤ i → (ps : List Plain) → ps ≡ in_text_order given → PlainsAt d ps
all_found d items i given s at end ps order = (items_view items, given, at, all_read items i given s end, order)

-- they are of their form
pub all_form : (items : List Value) (i : ℕ) (given : List Plain) → ReadSo items i given → (ps : List Plain) → ps ≡ in_text_order given → ArePlainForms ps
all_form items i given s ps order = subst ArePlainForms (sym order) (all_ordered IsPlainForm given s.form)

-- and canonical
pub all_canonical : (items : List Value) (i : ℕ) (given : List Plain) → ReadSo items i given → (ps : List Plain) → ps ≡ in_text_order given → AreCanonical ps
all_canonical items i given s ps order =
    subst AreCanonical (sym order) (ordered_rises given, All-from_recursion IsCanonicalPlain (in_text_order given) (all_ordered IsCanonicalPlain given s.canonical))
