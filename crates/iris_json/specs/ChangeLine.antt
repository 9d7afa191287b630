-- The changes of an update's line.
use Rattle.std.specs.Prelude.{◌≡◌, ◌<◌, ◌≤◌, ⊤, List, [], ◌∷◌, length, codes}
use Rattle.serde_json.specs.Data.{Data, string, array, Items, no_items, item}
use Rattle.iris_base.specs.declared.limits.TheConstants.{MAX_CHANGES}
use Rattle.iris_base.specs.Forms.{IsTag}
use Rattle.iris_tree.specs.declared.change.Change.{Change}
use Rattle.iris_tree.specs.declared.change.Change.TheVariants.{Attr, Drop, Put}
use Rattle.iris_json.specs.PlainLine.{IsPlain}

-- a list of two values
abbrev pub pair_data : Data → Data → Data
pair_data a b = array (item a (item b no_items))

-- a list of three values
abbrev pub triple_data : Data → Data → Data → Data
triple_data a b c = array (item a (item b (item c no_items)))

-- a value is a change: a list of its word and what it names, sets or puts; the attribute's name may be `id`
abbrev pub IsChange : Data → Change → Type 0
IsChange d (Attr name value) = (d ≡ triple_data (string (codes "attr")) (string name) (string value)) × IsTag name
IsChange d (Drop name) = (d ≡ pair_data (string (codes "drop")) (string name)) × IsTag name
IsChange d (Put plain) = (value : Data) × (d ≡ pair_data (string (codes "put")) value) × IsPlain value plain

-- each of these values is the change at its place of the list
abbrev pub AreChanges : Items → List Change → Type 0
AreChanges no_items [] = ⊤
AreChanges no_items (c ∷ cs) = ⊥
AreChanges (item d items) [] = ⊥
AreChanges (item d items) (c ∷ cs) = IsChange d c × AreChanges items cs

-- a list is that of these changes, some and no more than an update may have
pub record AreLineChanges (items : Items) (changes : List Change) : Type 0 where
  pub are : AreChanges items changes
  pub some : 0 < length changes
  pub few : length changes ≤ MAX_CHANGES
