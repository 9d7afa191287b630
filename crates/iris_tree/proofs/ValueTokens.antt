-- What is written for attributes, plain elements and local information.
use Rattle.std.proofs.Common.{◌≡◌, ℕ, ◌+◌, ◌<◌, List, [], ◌∷◌, ◌++◌, ◌∙◌, ap, sym, refl, get_or, length, take, map, flat_map, codes, append_assoc}
use Rattle.std.proofs.lemmas.List.{take_more, map-append, append-nil}
use Rattle.json.specs.Token.{Token}
use Rattle.json.specs.Print.{print}
use Rattle.json.specs.Tree.{items_tokens, members_tokens}
use Rattle.serde_json.specs.Data.{Data}
use Rattle.serde_json.specs.View.{items_of}
use Rattle.serde_json.specs.Written.{items_outline, members_outline, compact_text}
use Rattle.serde_json.proofs.Texts.{print-outline}
use Rattle.iris_tree.specs.declared.local.Local.{Local}
use Rattle.iris_tree.specs.declared.plain.Plain.{Plain}
use Rattle.iris_tree.specs.declared.plain.Plain.TheViews.{out-Plain}
use Rattle.iris_tree.specs.declared.plain.Plain.TheFolds.{fold_out-Plain}
use Rattle.iris_tree.specs.Attrs.{Pairs}
use Rattle.iris_tree.specs.declared.change.Change.{Change}
use Rattle.iris_tree.specs.Changes.{change_data, changes_data}
use Rattle.iris_tree.specs.LocalText.{attrs_members, attrs_data, plain_step, plain_data, local_data, value_tokens, pair_tokens}

-- the text of what is written for a value
pub printed : (d : Data) → print (value_tokens d) ≡ compact_text d
unfolding value_tokens
printed d = print-outline d

-- ---- attributes

members_written : (pairs : Pairs) → members_tokens (members_outline (attrs_members pairs)) ≡ flat_map pair_tokens pairs ++ Token.end_object ∷ []
members_written [] = refl
members_written (pair ∷ pairs) = ap (λ (ts : List Token). Token.key pair.0 ∷ Token.string pair.1 ∷ ts) (members_written pairs)

-- attributes are written member by member
pub attrs_written : (pairs : Pairs) → value_tokens (attrs_data pairs) ≡ Token.begin_object ∷ (flat_map pair_tokens pairs ++ Token.end_object ∷ [])
unfolding value_tokens
attrs_written pairs = ap (λ (ts : List Token). Token.begin_object ∷ ts) (members_written pairs)

-- ---- lists of values, one after another

abbrev joined : List Data → List Token
joined [] = []
joined (d ∷ ds) = value_tokens d ++ joined ds

joined-append : (ds es : List Data) → joined (ds ++ es) ≡ joined ds ++ joined es
joined-append [] es = refl
joined-append (d ∷ ds) es = rw (joined-append ds es) (simp append_assoc)

items_written : (ds : List Data) → items_tokens (items_outline (items_of ds)) ≡ joined ds ++ Token.end_array ∷ []
unfolding value_tokens
items_written [] = refl
items_written (d ∷ ds) = rw (items_written ds) (simp append_assoc)

-- values one after another, each of an element
abbrev pub values_tokens : {X : Type 0} → (X → Data) → List X → List Token
values_tokens f xs = joined (map f xs)

-- one more
pub values_more : {X : Type 0} (f : X → Data) (xs : List X) (i : ℕ) (x : X) → i < length xs → x ≡ get_or xs i x
    → values_tokens f (take (i + 1) xs) ≡ values_tokens f (take i xs) ++ value_tokens (f x)
values_more {X} f xs i x within is =
    ap (values_tokens f) (take_more xs i x within ∙ ap (λ (y : X). take i xs ++ y ∷ []) (sym is))
    ∙ rw (map-append f (take i xs) (x ∷ []), joined-append (map f (take i xs)) (f x ∷ []), append-nil (value_tokens (f x))) refl

-- ---- plain elements

-- elements one after another
abbrev pub plains_tokens : List Plain → List Token
plains_tokens ps = values_tokens plain_data ps

-- one more element
pub plains_more : (ps : List Plain) (i : ℕ) (p : Plain) → i < length ps → p ≡ get_or ps i p → plains_tokens (take (i + 1) ps) ≡ plains_tokens (take i ps) ++ value_tokens (plain_data p)
plains_more = values_more plain_data

-- an array of elements, and what follows it
array_written : (ps : List Plain) (ts : List Token) → items_tokens (items_outline (items_of (map plain_data ps))) ++ ts ≡ plains_tokens ps ++ Token.end_array ∷ ts
array_written ps ts = rw (items_written (map plain_data ps)) (append_assoc (plains_tokens ps) (Token.end_array ∷ []) ts)

step_written : (tag text : List ℕ) (attrs : Pairs) (kids : List Plain)
    → value_tokens (plain_step (record { tag = tag; attrs = attrs; text = text; kids = map plain_data kids }))
    ≡ Token.begin_object ∷ Token.key (codes "attrs") ∷ (value_tokens (attrs_data attrs) ++ (Token.key (codes "kids") ∷ Token.begin_array ∷ (plains_tokens kids
    ++ (Token.end_array ∷ Token.key (codes "tag") ∷ Token.string tag ∷ Token.key (codes "text") ∷ Token.string text ∷ Token.end_object ∷ []))))
unfolding value_tokens plain_step
step_written tag text attrs kids =
    let rest = Token.key (codes "tag") ∷ Token.string tag ∷ Token.key (codes "text") ∷ Token.string text ∷ Token.end_object ∷ [] in
    ap (λ (ts : List Token). Token.begin_object ∷ Token.key (codes "attrs") ∷ (value_tokens (attrs_data attrs) ++ (Token.key (codes "kids") ∷ Token.begin_array ∷ ts))) (array_written kids rest)

-- a plain element is written with its kids one after another
pub plain_written : (p : Plain) → value_tokens (plain_data p)
    ≡ Token.begin_object ∷ Token.key (codes "attrs") ∷ (value_tokens (attrs_data (out-Plain p).attrs) ++ (Token.key (codes "kids") ∷ Token.begin_array ∷ (plains_tokens (out-Plain p).kids
    ++ (Token.end_array ∷ Token.key (codes "tag") ∷ Token.string (out-Plain p).tag ∷ Token.key (codes "text") ∷ Token.string (out-Plain p).text ∷ Token.end_object ∷ []))))
plain_written p = ap value_tokens (fold_out-Plain Data plain_step p) ∙ step_written (out-Plain p).tag (out-Plain p).text (out-Plain p).attrs (out-Plain p).kids

-- ---- changes

-- changes one after another
abbrev pub changes_tokens : List Change → List Token
changes_tokens cs = values_tokens change_data cs

-- one more change
pub changes_more : (cs : List Change) (i : ℕ) (c : Change) → i < length cs → c ≡ get_or cs i c → changes_tokens (take (i + 1) cs) ≡ changes_tokens (take i cs) ++ value_tokens (change_data c)
changes_more = values_more change_data

-- changes are written one after another
pub changes_written : (cs : List Change) → value_tokens (changes_data cs) ≡ Token.begin_array ∷ (changes_tokens cs ++ Token.end_array ∷ [])
unfolding value_tokens
changes_written cs = ap (λ (ts : List Token). Token.begin_array ∷ ts) (items_written (map change_data cs))

-- ---- local information

-- local information is written with its plain elements one after another
pub local_written : (l : Local) → value_tokens (local_data l)
    ≡ Token.begin_object ∷ Token.key (codes "attrs") ∷ (value_tokens (attrs_data l.attrs) ++ (Token.key (codes "plain") ∷ Token.begin_array ∷ (plains_tokens l.plain
    ++ (Token.end_array ∷ Token.end_object ∷ []))))
unfolding value_tokens
local_written l =
    ap (λ (ts : List Token). Token.begin_object ∷ Token.key (codes "attrs") ∷ (value_tokens (attrs_data l.attrs) ++ (Token.key (codes "plain") ∷ Token.begin_array ∷ ts))) (array_written l.plain (Token.end_object ∷ []))
