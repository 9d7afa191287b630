-- What the readers of the parts of a city line answer.
use Rattle.std.specs.Prelude.{◌≡◌, ℕ, List}
use Rattle.serde_json.specs.Data.{Data}
use Rattle.iris_base.specs.declared.name.Label.{Label}
use Rattle.iris_tree.specs.Universe.{Node}
use Rattle.iris_json.specs.declared.city.CityError.{CityError}
use Rattle.iris_json.specs.declared.city.CityError.TheVariants.{NotJson, BadCity, CityLimit, Memory}
use Rattle.iris_json.specs.declared.city.FormError.{FormError}
use Rattle.iris_json.specs.declared.city.FormError.TheVariants.{Shape}
use Rattle.iris_json.specs.declared.city.FormError.TheVariants as forms
use Rattle.iris_json.specs.declared.city.Show.{Show}
use Rattle.iris_json.specs.declared.city_line.Parts.{Parts}
use Rattle.iris_json.specs.CityLine.{SaysCity, IsBadCity}

-- there is nothing to find, or there was no memory
abbrev pub HasNone : Type 0 → FormError → Type 0
HasNone nothing Shape = nothing
HasNone nothing forms.Memory = Unit {0}

-- a value is not of the form of a city line
abbrev pub IsNoCity : Data → Type 0
IsNoCity d = (kinds agents : List (List ℕ)) (caps : List ℕ) (place : List (List Label × List ℕ)) (tree : Node) (zone : List ℕ) (show : Show) → SaysCity d kinds agents caps place tree zone show → ⊥

-- the error tells what a value lacks first, or there was no memory
abbrev pub LacksRow : Data → CityError → Type 0
LacksRow d NotJson = ⊥
LacksRow d (BadCity node why) = IsBadCity d node why
LacksRow d (CityLimit which count) = ⊥
LacksRow d Memory = Unit {0}

-- a value is not of the form of a city line, or there was no memory
abbrev pub FindsNone : Data → CityError → Type 0
FindsNone d NotJson = ⊥
FindsNone d (BadCity node why) = IsNoCity d
FindsNone d (CityLimit which count) = ⊥
FindsNone d Memory = Unit {0}

-- these parts are what a value says of a city
abbrev pub AreParts : Data → Parts → Type 0
AreParts d parts = SaysCity d parts.kinds parts.agents parts.caps parts.place parts.tree parts.zone parts.show
