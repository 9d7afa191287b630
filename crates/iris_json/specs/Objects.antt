-- What an object has at its keys.
use Rattle.std.specs.Prelude.{◌≡◌, ℕ, Bool, true, false, ◌&&◌, List, Some}
use Rattle.std.specs.List.{list_any}
use Rattle.std.specs.Str.{bytes_eq}
use Rattle.serde_json.specs.Data.{Num, Data, null, boolean, number, string, array, object, Items, Members, no_members, member}
use Rattle.serde_json.specs.Find.{get}

-- whether a key is one of these
abbrev pub is_among : List (List ℕ) → List ℕ → Bool
is_among keys key = list_any (λ known. bytes_eq known key) keys

-- whether each key of an object is one of these
abbrev pub all_among : List (List ℕ) → Members → Bool
all_among keys no_members = true
all_among keys (member key d more) = is_among keys key && all_among keys more

-- an object with no key beside these
abbrev pub has_only : List (List ℕ) → Data → Bool
has_only keys null = false
has_only keys (boolean b) = false
has_only keys (number n) = false
has_only keys (string s) = false
has_only keys (array ds) = false
has_only keys (object ms) = all_among keys ms

-- ---- at a key

-- a value has that text at a key
abbrev pub TextAt : List ℕ → Data → List ℕ → Type 0
TextAt key d text = get key d ≡ Some (string text)

-- a value has that number at a key
abbrev pub NumberAt : List ℕ → Data → Num → Type 0
NumberAt key d n = get key d ≡ Some (number n)

-- a value has that list at a key
abbrev pub ListAt : List ℕ → Data → Items → Type 0
ListAt key d items = get key d ≡ Some (array items)
