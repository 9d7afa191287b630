-- From the members of an object to attributes.
use Rattle.std.proofs.Common.{◌≡◌, ℕ, List, [], ◌∷◌, ◌++◌, map, String, Global, Ordering, Less, Equal, Greater, string_bytes, string_cmp, nat_cmp, Option, Some, Bor, Err, refl, ap, sym, ◌∙◌, subst}
use Rattle.std.specs.Cmp.Lexicographic.{slice_cmp}
use Rattle.std.specs.List.{AllByRecursion}
use Rattle.std.specs.List.Sorted.{IsStrictlySortedBy}
use Rattle.std.specs.Str.{IsUtf8}
use Rattle.std.specs.Map.{keys_of}
use Rattle.std.specs.Ordering.{match_ordering}
use Rattle.std.specs.Iterator.{Yields}
use Rattle.std.specs.Map.Iter.{TakesFirst, deref_pair}
use Rattle.std.proofs.lemmas.Map.Iter.{rest_so_far, rest_more}
use Rattle.serde_json.specs.declared.value.Value.{Value}
use Rattle.serde_json.specs.Data.{string, put}
use Rattle.serde_json.specs.View.{view, members_view}
use Rattle.serde_json.proofs.Views.{Entry, put_last}
use Rattle.iris_tree.specs.Attrs.{Pairs, with_attr}
use Rattle.iris_tree.specs.LocalText.{attrs_members}
use Rattle.iris_json.specs.declared.city.FormError.{FormError}
use Rattle.iris_json.specs.declared.city.FormError.TheVariants.{Shape, Memory}
use Rattle.iris_base.specs.Forms.{IsTag}
use Rattle.iris_json.specs.PlainForm.{AreNames, AreTexts}
use Rattle.iris_json.specs.CityKeys.{GivesCityPart}

-- an error that one reader may give another may give too
pub same_error : {X Y : Type 0} (e : FormError) (x : X) (y : Y) → GivesCityPart (Err e) x → GivesCityPart (Err e) y
same_error Shape x y h = absurd h
same_error Memory x y h = tt

members-match_ordering : (o : Ordering) (a b c : Pairs) → attrs_members (match_ordering o a b c) ≡ match_ordering o (attrs_members a) (attrs_members b) (attrs_members c)
members-match_ordering Less a b c = refl
members-match_ordering Equal a b c = refl
members-match_ordering Greater a b c = refl

members-with_attr : (pairs : Pairs) (name text : List ℕ) → attrs_members (with_attr pairs name text) ≡ put name (string text) (attrs_members pairs)
members-with_attr [] name text = refl
members-with_attr (p ∷ pairs) name text = members-match_ordering (slice_cmp nat_cmp name p.0) _ _ _ ∙ rw (members-with_attr pairs name text) refl

-- an attribute whose name is above those before it goes last
attr_last : (done : List Entry) (e : Entry) (more : List Entry) (pairs : Pairs) (text : List ℕ) → IsStrictlySortedBy string_cmp (keys_of (done ++ e ∷ more)) → members_view done ≡ attrs_members pairs → view e.1 ≡ string text
    → members_view (done ++ e ∷ []) ≡ attrs_members (with_attr pairs (string_bytes e.0) text)
attr_last done e more pairs text sorted same is =
    sym (put_last done e more sorted) ∙ rw (same, is) (sym (members-with_attr pairs (string_bytes e.0) text))

all-match_ordering : (P : List ℕ × List ℕ → Type 0) (o : Ordering) (a b c : Pairs) → AllByRecursion P a → AllByRecursion P b → AllByRecursion P c → AllByRecursion P (match_ordering o a b c)
all-match_ordering P Less a b c ha hb hc = ha
all-match_ordering P Equal a b c ha hb hc = hb
all-match_ordering P Greater a b c ha hb hc = hc

-- an attribute: a name of the form, and a text
abbrev pub IsAttr : List ℕ × List ℕ → Type 0
IsAttr pair = IsTag pair.0 × IsUtf8 pair.1

-- one more attribute
attrs_more : (pairs : Pairs) (name text : List ℕ) → IsAttr (name, text) → AllByRecursion IsAttr pairs → AllByRecursion IsAttr (with_attr pairs name text)
attrs_more [] name text h all = (h, tt)
attrs_more (p ∷ pairs) name text h all = all-match_ordering IsAttr (slice_cmp nat_cmp name p.0) _ _ _ (h, all) ((all.0.0, h.1), all.1) (all.0, attrs_more pairs name text h all.1)

-- a loop over members has read one attribute more
pub attr_step : (done : List Entry) (e : Entry) (more : List Entry) (pairs new : Pairs) (name tag text : List ℕ) → IsStrictlySortedBy string_cmp (keys_of (done ++ e ∷ more))
    → (members_view done ≡ attrs_members pairs) × AllByRecursion IsAttr pairs → name ≡ string_bytes e.0
    → (tag ≡ name) × IsTag name × (view e.1 ≡ string text) → IsUtf8 text → new ≡ with_attr pairs tag text
    → (members_view (done ++ e ∷ []) ≡ attrs_members new) × AllByRecursion IsAttr new
attr_step done e more pairs new name tag text sorted so_far named read utf8 is =
    let tag_is : tag ≡ string_bytes e.0 = read.0 ∙ named in
    let new_is : new ≡ with_attr pairs (string_bytes e.0) text = is ∙ ap (λ (t : List ℕ). with_attr pairs t text) tag_is in (
      attr_last done e more pairs text sorted so_far.0 read.2 ∙ ap attrs_members (sym new_is),
      subst (AllByRecursion IsAttr) (sym new_is) (attrs_more pairs (string_bytes e.0) text (subst IsTag named read.1, utf8) so_far.1),
    )

-- the members before an item of a loop, the item, and those after it
pub turn : (es : List Entry) (xs : List (Bor (String Global) × Bor Value)) (s t u : List Entry) (r : Option (Bor (String Global) × Bor Value)) (x : Bor (String Global) × Bor Value)
    → s ≡ es → Yields (TakesFirst deref_pair) s xs t → r ≡ Some x → TakesFirst deref_pair t r u → es ≡ map deref_pair xs ++ deref_pair x ∷ u
turn es xs s t u r x start yielded is step =
    sym start ∙ rest_so_far deref_pair xs s t yielded ∙ ap (λ (rest : List Entry). map deref_pair xs ++ rest) (rest_more deref_pair t u r x is step)

-- members are those of one list of attributes
pub attrs_same : (pairs others : Pairs) → attrs_members pairs ≡ attrs_members others → pairs ≡ others
attrs_same [] [] same = refl
attrs_same [] (q ∷ others) same = absurd (cc)
attrs_same (p ∷ pairs) [] same = absurd (cc)
attrs_same (p ∷ pairs) (q ∷ others) same =
    let rest : attrs_members pairs ≡ attrs_members others = cc in
    let left : p.0 ≡ q.0 = cc in
    let right : p.1 ≡ q.1 = cc in
    let tail = attrs_same pairs others rest in
    rw (left, right, tail) refl

-- a member that is an attribute has a name of the form and a text
pub attr_here : (done : List Entry) (e : Entry) (more : List Entry) (pairs : Pairs) → members_view (done ++ e ∷ more) ≡ attrs_members pairs → AreNames pairs
    → (text : List ℕ) × IsTag (string_bytes e.0) × (view e.1 ≡ string text)
attr_here [] e more [] same named = absurd (cc)
attr_here [] e more (p ∷ pairs) same named =
    let name : p.0 ≡ string_bytes e.0 = cc in
    let is : view e.1 ≡ string p.1 = cc in
    (p.1, subst IsTag name named.0, is)
attr_here (d ∷ done) e more [] same named = absurd (cc)
attr_here (d ∷ done) e more (p ∷ pairs) same named =
    let rest : members_view (done ++ e ∷ more) ≡ attrs_members pairs = cc in
    attr_here done e more pairs rest named.1

-- ---- the order of names

names_after : (name : List ℕ) (key : String Global) (es : List Entry) (pairs : Pairs) → name ≡ string_bytes key → members_view es ≡ attrs_members pairs → AllByRecursion (λ y. string_cmp key y ≡ Less) (keys_of es)
    → AllByRecursion (λ y. slice_cmp nat_cmp name y ≡ Less) (keys_of pairs)
names_after name key [] [] named same h = tt
names_after name key [] (p ∷ pairs) named same h = absurd (cc)
names_after name key (e ∷ es) [] named same h = absurd (cc)
names_after name key (e ∷ es) (p ∷ pairs) named same h =
    let first : p.0 ≡ string_bytes e.0 = cc in
    let rest : members_view es ≡ attrs_members pairs = cc in
    (rw (named, first) h.0, names_after name key es pairs named rest h.1)

-- the names of attributes rise as the keys of the members do
pub names_rise : (es : List Entry) (pairs : Pairs) → members_view es ≡ attrs_members pairs → IsStrictlySortedBy string_cmp (keys_of es) → IsStrictlySortedBy (slice_cmp nat_cmp) (keys_of pairs)
unfolding IsStrictlySortedBy
names_rise [] [] same h = tt
names_rise [] (p ∷ pairs) same h = absurd (cc)
names_rise (e ∷ es) [] same h = absurd (cc)
names_rise (e ∷ es) (p ∷ pairs) same h =
    let first : p.0 ≡ string_bytes e.0 = cc in
    let rest : members_view es ≡ attrs_members pairs = cc in
    (names_after p.0 e.0 es pairs first rest h.0, names_rise es pairs rest h.1)

-- the names, and the texts
pub names_of : (pairs : Pairs) → AllByRecursion IsAttr pairs → AreNames pairs
names_of [] each = tt
names_of (p ∷ pairs) each = (each.0.0, names_of pairs each.1)

pub texts_of : (pairs : Pairs) → AllByRecursion IsAttr pairs → AllByRecursion (λ p. IsUtf8 p.1) pairs
texts_of [] each = tt
texts_of (p ∷ pairs) each = (each.0.1, texts_of pairs each.1)

-- no attributes
pub no_texts : AreTexts []
unfolding IsStrictlySortedBy
no_texts = record { rise = tt; utf8 = tt }
