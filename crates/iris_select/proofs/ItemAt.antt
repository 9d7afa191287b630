-- What stands at a place, by its name and its path.
use Rattle.std.proofs.Common.{◌≡◌, ℕ, Bool, true, false, cond, List, [], ◌∷◌, ◌++◌, map, refl, ap, sym, ◌∙◌, Option, Some, None, option_and_then, option_map, slice_get}
use Rattle.std.specs.Bool.{IsTrue}
use Rattle.iris_base.specs.declared.name.Label.{Label}
use Rattle.iris_base.specs.NameOrder.{label_eq}
use Rattle.iris_tree.specs.declared.plain.Plain.{Plain}
use Rattle.iris_tree.specs.declared.plain.Plain.TheViews.{out-Plain}
use Rattle.iris_tree.specs.Universe.{Node, label_of, local_of, children_of, child_of, part_at, node_at}
use Rattle.iris_tree.specs.Document.{Place, position, place_of, name_of, Part, a_plain, below_plain, below_node, part_at_place}
use Rattle.iris_tree.specs.declared.item.Element.TheVariants as elements
use Rattle.iris_tree.specs.declared.item.Item.{Item}
use Rattle.iris_tree.specs.Items.{item_of, item_at}
use Rattle.iris_select.specs.Places.{kid_at, element_at}
use Rattle.iris_select.specs.Selected.{node_item}

-- ---- what stands there

kid_there : (o : Option Plain) (f : Plain → Option Part) (g : Plain → Option Plain) → ((p : Plain) → f p ≡ option_map a_plain (g p)) → option_and_then f o ≡ option_map a_plain (option_and_then g o)
kid_there None f g h = refl
kid_there (Some p) f g h = h p

kid_is : (path : List ℕ) (p : Plain) → below_plain p (map position path) ≡ option_map a_plain (kid_at p path)
kid_is [] p = refl
kid_is (i ∷ path) p = kid_there (slice_get (out-Plain p).kids i) (λ kid. below_plain kid (map position path)) (λ kid. kid_at kid path) (kid_is path)

element_is : (n : Node) (i : ℕ) (path : List ℕ) → below_node n (map position (i ∷ path)) ≡ option_map a_plain (element_at (local_of n).plain (i ∷ path))
element_is n i path = kid_there (slice_get (local_of n).plain i) (λ p. below_plain p (map position path)) (λ p. kid_at p path) (kid_is path)

child_there : (o : Option Node) (f : Node → Option Part) (g : Node → Option Node) (h : Node → Option Part) → ((n : Node) → f n ≡ option_and_then h (g n)) → option_and_then f o ≡ option_and_then h (option_and_then g o)
child_there None f g h same = refl
child_there (Some n) f g h same = same n

part_below : (name : List Label) (place : Place) (n : Node) → below_node n (place_of name ++ place) ≡ option_and_then (λ m. below_node m place) (part_at n name)
part_below [] place n = refl
part_below (l ∷ name) place n =
    child_there (child_of l (children_of n)) (λ c. below_node c (place_of name ++ place)) (λ c. part_at c name) (λ m. below_node m place) (part_below name place)

top_there : (b : Bool) (o : Option Part) (p : Option Node) (h : Node → Option Part) → o ≡ option_and_then h p → cond b o None ≡ option_and_then h (cond b p None)
top_there true o p h same = same
top_there false o p h same = refl

part_is : (document : Node) (l : Label) (name : List Label) (place : Place) → part_at_place document (place_of (l ∷ name) ++ place) ≡ option_and_then (λ m. below_node m place) (node_at document (l ∷ name))
part_is document l name place = top_there (label_eq (label_of document) l) _ _ (λ m. below_node m place) (part_below name place document)

name_is : (name : List Label) (path : List ℕ) → name_of (place_of name ++ map position path) ≡ name
name_is [] [] = refl
name_is [] (i ∷ path) = refl
name_is (l ∷ name) path = ap (λ ls. l ∷ ls) (name_is name path)

-- a plain element as an item
abbrev pub plain_item : List Label → Plain → Item
plain_item name p = record { at = name; is = elements.Plain p }

-- the item, where the node at the name is known
abbrev pub item_by : List Label → List ℕ → Option Node → Option Item
item_by name path None = None
item_by name [] (Some n) = Some (node_item name n)
item_by name (i ∷ path) (Some n) = option_map (plain_item name) (element_at (local_of n).plain (i ∷ path))

of_part : (name : List Label) (o : Option Plain) → option_and_then (item_of name) (option_map a_plain o) ≡ option_map (plain_item name) o
of_part name None = refl
of_part name (Some p) = refl

item_there : (name : List Label) (path : List ℕ) (o : Option Node) → option_and_then (item_of name) (option_and_then (λ m. below_node m (map position path)) o) ≡ item_by name path o
item_there name path None = refl
item_there name [] (Some n) = refl
item_there name (i ∷ path) (Some n) = ap (λ (o : Option Part). option_and_then (item_of name) o) (element_is n i path) ∙ of_part name (element_at (local_of n).plain (i ∷ path))

pub item_is : (document : Node) (name : List Label) (path : List ℕ) → item_at document (place_of name ++ map position path) ≡ item_by name path (node_at document name)
item_is document [] [] = refl
item_is document [] (i ∷ path) = refl
item_is document (l ∷ name) path =
    ap (λ (m : List Label). option_and_then (item_of m) (part_at_place document (place_of (l ∷ name) ++ map position path))) (name_is (l ∷ name) path)
    ∙ ap (λ (o : Option Part). option_and_then (item_of (l ∷ name)) o) (part_is document l name (map position path)) ∙ item_there (l ∷ name) path (node_at document (l ∷ name))

-- ---- for the code

-- no node has the name
pub item_none : (document : Node) (name : List Label) (path : List ℕ) → None ≡ node_at document name → None ≡ item_at document (place_of name ++ map position path)
item_none document name path none = ap (item_by name path) none ∙ sym (item_is document name path)

-- a node at the place
pub item_node : (document : Node) (name at : List Label) (path : List ℕ) (n copy : Node) → Some n ≡ node_at document name → path ≡ [] → at ≡ name → copy ≡ n
    → Some (node_item at copy) ≡ item_at document (place_of name ++ map position path)
item_node document name at path n copy found none named copied =
    ap (λ (m : List Label). Some (node_item m copy)) named ∙ ap (λ (m : Node). Some (node_item name m)) copied
    ∙ ap (item_by name []) found ∙ ap (λ (is : List ℕ). item_by name is (node_at document name)) (sym none) ∙ sym (item_is document name path)

plain_by : (name : List Label) (path : List ℕ) (n : Node) → (path ≡ [] → IsTrue false) → item_by name path (Some n) ≡ option_map (plain_item name) (element_at (local_of n).plain path)
plain_by name [] n some = let h : IsTrue false = some refl in absurd (cc)
plain_by name (i ∷ path) n some = refl

-- a plain element at the place, or none
pub item_plain : (document : Node) (name : List Label) (path : List ℕ) (n : Node) (o : Option Plain) → Some n ≡ node_at document name → (path ≡ [] → IsTrue false) → o ≡ element_at (local_of n).plain path
    → option_map (plain_item name) o ≡ item_at document (place_of name ++ map position path)
item_plain document name path n o found some there =
    ap (option_map (plain_item name)) there ∙ sym (plain_by name path n some) ∙ ap (item_by name path) found ∙ sym (item_is document name path)
