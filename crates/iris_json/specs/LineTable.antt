-- The table of the lines of a script after the first: the keys that each has beside `do`, and what stands at them.
use Rattle.std.specs.Prelude.{◌≡◌, ℕ, ◌≤◌, ⊤, Bool, true, false, ◌&&◌, not, is_some, List, [], ◌∷◌, map, codes, Option, Some, None}
use Rattle.std.specs.List.{AllByRecursion, list_all}
use Rattle.std.specs.Map.{lookup}
use Rattle.std.specs.Str.{bytes_eq}
use Rattle.serde_json.specs.Data.{unsigned, Data, number, string, array, Items}
use Rattle.serde_json.specs.Find.{get, as_str, as_number, as_array}
use Rattle.iris_base.specs.declared.limits.TheConstants.{MAX_NUMBER, MAX_ARRIVAL, MAX_STAY, MAX_OFFERS}
use Rattle.iris_base.specs.Forms.{IsId, IsAgentId}
use Rattle.iris_base.specs.NameText.{IsNameText}
use Rattle.iris_tree.specs.declared.change.Change.{Change}
use Rattle.iris_json.specs.declared.part.JsonType.{JsonType}
use Rattle.iris_json.specs.declared.part.JsonType.TheVariants.{Text, Number, Array}
use Rattle.iris_json.specs.declared.line.LineWhy.{LineWhy}
use Rattle.iris_json.specs.declared.line.LineWhy.TheVariants as whys
use Rattle.iris_json.specs.Objects.{has_only, TextAt}
use Rattle.iris_json.specs.ChangeLine.{AreLineChanges}

-- what stands at a key: a text, one of a name, of an id or of an agent's id, a whole number from the least to the greatest, or a list of changes
pub data Form : Type 0 where
  a_text : Form
  a_name : Form
  an_id : Form
  an_agent : Form
  a_number : (least most : ℕ) → Form
  a_change_list : Form

-- a key, what stands at it, and whether it is needed
pub record Key : Type 0 where
  pub key : List ℕ
  pub form : Form
  pub needed : Bool

-- a key that a line has
abbrev pub has : List ℕ → Form → Key
has key form = record { key = key; form = form; needed = true }

-- a key that a line may have
abbrev pub may : List ℕ → Form → Key
may key form = record { key = key; form = form; needed = false }

-- ---- the table

-- how old a copy may be that an answer rests on
abbrev pub bound_key : Key
bound_key = may (codes "bound") (a_number 0 MAX_NUMBER)

abbrev pub query_keys : List Key
query_keys = has (codes "query") a_text ∷ bound_key ∷ []

abbrev pub find_keys : List Key
find_keys =
    has (codes "hood") an_id ∷ has (codes "arrive") (a_number 0 MAX_ARRIVAL) ∷ has (codes "stay") (a_number 1 MAX_STAY)
    ∷ has (codes "top") (a_number 1 MAX_OFFERS) ∷ bound_key ∷ []

abbrev pub update_keys : List Key
update_keys = has (codes "name") a_name ∷ has (codes "no") (a_number 1 MAX_NUMBER) ∷ has (codes "change") a_change_list ∷ []

abbrev pub give_keys : List Key
give_keys = has (codes "name") a_name ∷ has (codes "to") an_agent ∷ []

abbrev pub evict_keys : List Key
evict_keys = has (codes "agent") an_agent ∷ has (codes "name") a_name ∷ []

abbrev pub audit_keys : List Key
audit_keys = has (codes "query") a_text ∷ []

abbrev pub now_keys : List Key
now_keys = has (codes "at") (a_number 0 MAX_NUMBER) ∷ []

abbrev pub deliver_keys : List Key
deliver_keys = has (codes "post") (a_number 0 MAX_NUMBER) ∷ []

abbrev pub owner_keys : List Key
owner_keys = has (codes "name") a_name ∷ []

-- each word of `do`, and the keys beside it
abbrev pub line_table : List (List ℕ × List Key)
line_table =
    (codes "query", query_keys) ∷ (codes "find", find_keys) ∷ (codes "update", update_keys) ∷ (codes "give", give_keys)
    ∷ (codes "evict", evict_keys) ∷ (codes "audit", audit_keys) ∷ (codes "now", now_keys) ∷ (codes "deliver", deliver_keys)
    ∷ (codes "settle", []) ∷ (codes "forget", []) ∷ (codes "owner", owner_keys) ∷ (codes "summary", []) ∷ []

-- ---- the shape of a line

-- the JSON type of a form
abbrev pub type_of : Form → JsonType
type_of a_text = Text
type_of a_name = Text
type_of an_id = Text
type_of an_agent = Text
type_of (a_number least most) = Number
type_of a_change_list = Array

-- whether a value is of a JSON type
abbrev pub is_of_type : JsonType → Data → Bool
is_of_type Text d = is_some (as_str d)
is_of_type Number d = is_some (as_number d)
is_of_type Array d = is_some (as_array d)

-- whether a value of the type stands at a key, or nothing where the key is not needed
abbrev pub stands : JsonType → Bool → Option Data → Bool
stands of needed None = not needed
stands of needed (Some d) = is_of_type of d

-- whether an object has, beside `do`, just these keys, with a value of its type at each
abbrev pub has_keys : List Key → Data → Bool
has_keys keys d =
    has_only (codes "do" ∷ map (λ k. k.key) keys) d && list_all (λ k. stands (type_of k.form) k.needed (get k.key d)) keys

-- the value has a known `do`, and beside it just the keys of its row, with a value of its type at each
pub record HasLineShape (d : Data) (keys : List Key) : Type 0 where
  pub word : List ℕ
  pub does : TextAt (codes "do") d word
  pub row : lookup (bytes_eq word) line_table ≡ Some keys
  pub keys_are : has_keys keys d ≡ true

-- ---- what stands at its keys

-- a value is as its form asks, in what the word of a fault is about: a name, an id or an agent's id is well formed, a number is whole and in its range, changes are well formed
abbrev pub Fits : LineWhy → Form → Data → Type 0
Fits whys.Name a_name d = (text : List ℕ) × (d ≡ string text) × IsNameText text
Fits whys.Name an_id d = (text : List ℕ) × (d ≡ string text) × IsId text
Fits whys.Name an_agent d = (text : List ℕ) × (d ≡ string text) × IsAgentId text
Fits whys.Number (a_number least most) d = (n : ℕ) × (d ≡ number (unsigned n)) × (least ≤ n) × (n ≤ most)
Fits whys.Change a_change_list d = (items : Items) × (changes : List Change) × (d ≡ array items) × AreLineChanges items changes
Fits why form d = ⊤

-- and so is what stands at a key, if anything does
abbrev pub FitsThere : LineWhy → Form → Option Data → Type 0
FitsThere why form there = (d : Data) → there ≡ Some d → Fits why form d

-- and so is what stands at each of these keys
abbrev pub AllFit : LineWhy → List Key → Data → Type 0
AllFit why keys d = AllByRecursion (λ k. FitsThere why k.form (get k.key d)) keys
