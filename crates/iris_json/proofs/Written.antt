-- What is written for nodes, items and rows of fields.
use Rattle.std.proofs.Common.{◌≡◌, ℕ, ◌+◌, ◌<◌, List, [], ◌∷◌, ◌++◌, ◌∙◌, ap, sym, refl, get_or, length, take, map, flat_map, codes, append_assoc, Bor}
use Rattle.std.proofs.lemmas.List.{take_more, append-nil, map-append}
use Rattle.std.proofs.lemmas.Grind.{flat_map-append}
use Rattle.json.specs.Token.{Token}
use Rattle.json.specs.Tree.{items_tokens, members_tokens}
use Rattle.serde_json.specs.Data.{Data, string, array}
use Rattle.serde_json.specs.View.{items_of}
use Rattle.serde_json.specs.Written.{items_outline, members_outline}
use Rattle.iris_base.specs.NameText.{name_text}
use Rattle.iris_tree.specs.LocalText.{attrs_data, plain_data, value_tokens}
use Rattle.iris_tree.specs.Universe.{Node, node, Nodes, no_nodes, nodes, label_of, local_of, list_of, children_of}
use Rattle.iris_tree.specs.declared.item.Item.{Item}
use Rattle.std.specs.Fmt.{decimal}
use Rattle.iris_json.specs.declared.city.City.{City}
use Rattle.iris_json.specs.CityKeys.{texts_data, numbers_data, places_data, show_text, cap_data}
use Rattle.iris_json.specs.CityText.{city_data, front_tokens, back_tokens}
use Rattle.iris_json.specs.Render.{node_data, nodes_data, element_data, item_data}
use Rattle.iris_json.specs.declared.row.Field.{Field}
use Rattle.iris_json.specs.Rows.{members_of, row_data, field_data, fields_of}

-- what is written for one value after another
abbrev pub all_tokens : {A : Type 0} → (A → Data) → List A → List Token
all_tokens as_data xs = flat_map (λ x. value_tokens (as_data x)) xs

-- one value more
pub tokens_more : {A : Type 0} (as_data : A → Data) (xs : List A) (i : ℕ) (x : A) → i < length xs → x ≡ get_or xs i x → all_tokens as_data (take (i + 1) xs) ≡ all_tokens as_data (take i xs) ++ value_tokens (as_data x)
tokens_more as_data xs i x within is =
    ap (all_tokens as_data) (take_more xs i x within ∙ ap (λ y. take i xs ++ y ∷ []) (sym is))
    ∙ flat_map-append (λ y. value_tokens (as_data y)) (take i xs) (x ∷ []) ∙ ap (λ (ts : List Token). all_tokens as_data (take i xs) ++ ts) (append-nil (value_tokens (as_data x)))

-- the rest of an array, and what follows it
items_written : {A : Type 0} (as_data : A → Data) (xs : List A) (ts : List Token) → items_tokens (items_outline (items_of (map as_data xs))) ++ ts ≡ all_tokens as_data xs ++ Token.end_array ∷ ts
unfolding value_tokens
items_written as_data [] ts = refl
items_written as_data (x ∷ xs) ts = rw (append_assoc (value_tokens (as_data x)) (items_tokens (items_outline (items_of (map as_data xs)))) ts, items_written as_data xs ts, append_assoc (value_tokens (as_data x)) (all_tokens as_data xs) (Token.end_array ∷ ts)) refl

-- an array
pub array_written : {A : Type 0} (as_data : A → Data) (xs : List A) → value_tokens (array (items_of (map as_data xs))) ≡ Token.begin_array ∷ (all_tokens as_data xs ++ Token.end_array ∷ [])
unfolding value_tokens
array_written as_data xs = ap (λ (ts : List Token). Token.begin_array ∷ ts) (sym (append-nil (items_tokens (items_outline (items_of (map as_data xs))))) ∙ items_written as_data xs [])

-- a text
pub text_written : (text : List ℕ) → value_tokens (string text) ≡ Token.string text ∷ []
unfolding value_tokens
text_written text = refl

-- a capacity
pub cap_written : (cap : ℕ) → value_tokens (cap_data cap) ≡ Token.number (decimal cap) ∷ []
unfolding value_tokens
cap_written cap = refl

-- the nodes below a node, and what follows them
nodes_written : (ns : Nodes) (ts : List Token) → items_tokens (items_outline (nodes_data ns)) ++ ts ≡ all_tokens node_data (list_of ns) ++ Token.end_array ∷ ts
unfolding value_tokens
nodes_written no_nodes ts = refl
nodes_written (nodes n ns) ts = rw (append_assoc (value_tokens (node_data n)) (items_tokens (items_outline (nodes_data ns))) ts, nodes_written ns ts, append_assoc (value_tokens (node_data n)) (all_tokens node_data (list_of ns)) (Token.end_array ∷ ts)) refl

-- a node
pub node_written : (n : Node) → value_tokens (node_data n)
    ≡ Token.begin_object ∷ Token.key (codes "attrs") ∷ (value_tokens (attrs_data (local_of n).attrs)
    ++ (Token.key (codes "id") ∷ Token.string (label_of n).id ∷ Token.key (codes "kind") ∷ Token.string (label_of n).kind ∷ Token.key (codes "nodes") ∷ Token.begin_array ∷ (all_tokens node_data (children_of n)
    ++ (Token.end_array ∷ Token.key (codes "plain") ∷ Token.begin_array ∷ (all_tokens plain_data (local_of n).plain
    ++ (Token.end_array ∷ Token.end_object ∷ []))))))
unfolding value_tokens
node_written (node label local below) =
    ap (λ (ts : List Token). Token.begin_object ∷ Token.key (codes "attrs") ∷ (value_tokens (attrs_data local.attrs)
    ++ (Token.key (codes "id") ∷ Token.string label.id ∷ Token.key (codes "kind") ∷ Token.string label.kind ∷ Token.key (codes "nodes") ∷ Token.begin_array ∷ ts)))
    (nodes_written below (Token.key (codes "plain") ∷ Token.begin_array ∷ (items_tokens (items_outline (items_of (map plain_data local.plain))) ++ Token.end_object ∷ []))
    ∙ ap (λ (ts : List Token). all_tokens node_data (list_of below) ++ (Token.end_array ∷ Token.key (codes "plain") ∷ Token.begin_array ∷ ts)) (items_written plain_data local.plain (Token.end_object ∷ [])))

front_joined : (k l m n : Token) (as_ bs cs ds rest : List Token) → (k ∷ (as_ ++ (l ∷ (bs ++ (m ∷ (cs ++ (n ∷ ds))))))) ++ rest ≡ k ∷ (as_ ++ (l ∷ (bs ++ (m ∷ (cs ++ (n ∷ (ds ++ rest)))))))
front_joined k l m n as_ bs cs ds rest = simp append_assoc

back_joined : (k t l m u : Token) (as_ rest : List Token) → (k ∷ t ∷ l ∷ (as_ ++ (m ∷ u ∷ []))) ++ rest ≡ k ∷ t ∷ l ∷ (as_ ++ (m ∷ u ∷ rest))
back_joined k t l m u as_ rest = simp append_assoc

-- a city
pub city_written : (city : City) → value_tokens (city_data city) ≡ Token.begin_object ∷ (front_tokens city ++ (back_tokens city ++ Token.end_object ∷ []))
unfolding value_tokens
city_written city =
    let back = back_joined (Token.key (codes "show")) (Token.string (show_text city.show)) (Token.key (codes "tree")) (Token.key (codes "zone")) (Token.string city.zone) (value_tokens (node_data city.tree)) (Token.end_object ∷ []) in
    let end : List Token = Token.key (codes "show") ∷ Token.string (show_text city.show) ∷ Token.key (codes "tree") ∷ (value_tokens (node_data city.tree) ++ (Token.key (codes "zone") ∷ Token.string city.zone ∷ Token.end_object ∷ [])) in
    let front = front_joined (Token.key (codes "agents")) (Token.key (codes "caps")) (Token.key (codes "kinds")) (Token.key (codes "place")) (value_tokens (texts_data city.agents)) (value_tokens (numbers_data city.caps)) (value_tokens (texts_data city.kinds)) (value_tokens (places_data city.place)) end in
    sym (ap (λ (ts : List Token). Token.begin_object ∷ ts) (ap (λ (ts : List Token). front_tokens city ++ ts) back ∙ front))

-- an item
pub item_written : (i : Item) → value_tokens (item_data i)
    ≡ Token.begin_object ∷ Token.key (codes "at") ∷ Token.string (name_text i.at) ∷ Token.key (codes "is") ∷ (value_tokens (element_data i.is) ++ Token.end_object ∷ [])
unfolding value_tokens
item_written i = refl

-- what is written for one member after another
abbrev pub member_tokens : List (List ℕ × Data) → List Token
member_tokens [] = []
member_tokens (f ∷ fs) = Token.key f.0 ∷ (value_tokens f.1 ++ member_tokens fs)

member_tokens-append : (fs gs : List (List ℕ × Data)) → member_tokens (fs ++ gs) ≡ member_tokens fs ++ member_tokens gs
member_tokens-append [] gs = refl
member_tokens-append (f ∷ fs) gs = ap (λ (ts : List Token). Token.key f.0 ∷ (value_tokens f.1 ++ ts)) (member_tokens-append fs gs) ∙ ap (λ (ts : List Token). Token.key f.0 ∷ ts) (sym (append_assoc (value_tokens f.1) (member_tokens fs) (member_tokens gs)))

-- one field more
pub fields_more : (row : List (Bor (List ℕ) × Field)) (i : ℕ) (f : Bor (List ℕ) × Field) → i < length row → f ≡ get_or row i f
    → member_tokens (fields_of (take (i + 1) row)) ≡ member_tokens (fields_of (take i row)) ++ Token.key f.0.now ∷ value_tokens (field_data f.1)
fields_more row i f within is =
    ap (λ (fs : List (Bor (List ℕ) × Field)). member_tokens (fields_of fs)) (take_more row i f within ∙ ap (λ y. take i row ++ y ∷ []) (sym is))
    ∙ ap member_tokens (map-append (λ (g : Bor (List ℕ) × Field). (g.0.now, field_data g.1)) (take i row) (f ∷ []))
    ∙ member_tokens-append (fields_of (take i row)) (fields_of (f ∷ []))
    ∙ ap (λ (ts : List Token). member_tokens (fields_of (take i row)) ++ Token.key f.0.now ∷ ts) (append-nil (value_tokens (field_data f.1)))

members_written : (row : List (List ℕ × Data)) (ts : List Token) → members_tokens (members_outline (members_of row)) ++ ts ≡ member_tokens row ++ Token.end_object ∷ ts
unfolding value_tokens
members_written [] ts = refl
members_written (f ∷ fs) ts = rw (append_assoc (value_tokens f.1) (members_tokens (members_outline (members_of fs))) ts, members_written fs ts, append_assoc (value_tokens f.1) (member_tokens fs) (Token.end_object ∷ ts)) refl

-- a row
pub row_written : (row : List (List ℕ × Data)) → value_tokens (row_data row) ≡ Token.begin_object ∷ (member_tokens row ++ Token.end_object ∷ [])
unfolding value_tokens
row_written row = ap (λ (ts : List Token). Token.begin_object ∷ ts) (sym (append-nil (members_tokens (members_outline (members_of row)))) ∙ members_written row [])
