-- The city line, as a relation between bytes and cities, and why bytes are of none.
use Rattle.std.specs.Prelude.{◌≡◌, ◌⊎◌, ℕ, ◌<◌, ◌≤◌, true, List, length, codes, Some, Result, Ok, Err}
use Rattle.serde_json.specs.Data.{Data}
use Rattle.iris_base.specs.declared.limits.TheConstants.{MAX_CITY_BYTES}
use Rattle.iris_base.specs.declared.name.Label.{Label}
use Rattle.iris_tree.specs.Universe.{Node}
use Rattle.iris_json.specs.declared.city.City.{City}
use Rattle.iris_json.specs.declared.city.CityError.{CityError}
use Rattle.iris_json.specs.declared.city.CityError.TheVariants.{NotJson, BadCity, CityLimit, Memory}
use Rattle.iris_json.specs.declared.city.CityWhy.{CityWhy}
use Rattle.iris_json.specs.declared.city.Show.{Show}
use Rattle.iris_json.specs.declared.out.Which.{Which}
use Rattle.iris_json.specs.declared.out.Which.TheVariants.{Line}
use Rattle.iris_json.specs.Lines.{IsJson}
use Rattle.iris_json.specs.CityKeys.{KindsAt, AgentsAt, CapsAt, TreeAt, PlaceAt, ZoneAt, ShowAt}
use Rattle.iris_json.specs.CityLimits.{passed_limit}
use Rattle.iris_json.specs.CityParts.{told}
use Rattle.iris_json.specs.CityForm.{ArePlaced}
use Rattle.iris_json.specs.CityRows.{city_keys, CityLacks}
use Rattle.iris_json.specs.Objects.{has_only}
use Rattle.iris_json.specs.Zones.{IsZone}

-- a value is of the form of a city line, and says this of a city
pub record SaysCity (d : Data) (kinds agents : List (List ℕ)) (caps : List ℕ) (place : List (List Label × List ℕ)) (tree : Node) (zone : List ℕ) (show : Show) : Type 0 where
  pub keys : has_only city_keys d ≡ true
  pub kinds_at : KindsAt d kinds
  pub agents_at : AgentsAt d agents
  pub caps_at : CapsAt d agents caps
  pub tree_at : TreeAt kinds d tree
  pub place_at : PlaceAt d place
  pub placed : ArePlaced agents tree place
  pub zone_at : ZoneAt d zone
  pub is_zone : IsZone zone
  pub show_at : ShowAt d show

-- a value is that city
abbrev pub IsCity : Data → City → Type 0
IsCity d city = SaysCity d city.kinds city.agents city.caps city.place city.tree city.zone city.show

-- a line is no longer than a city line may be
abbrev pub IsShortCityLine : List ℕ → Type 0
IsShortCityLine bytes = length bytes ≤ MAX_CITY_BYTES

-- the bytes are a spelling of the line of the city
abbrev pub ReadsCity : List ℕ → City → Type 0
ReadsCity bytes city = IsShortCityLine bytes × ((d : Data) × IsJson bytes d × IsCity d city)

-- ---- what a reader answers

-- a reader gives that city, unless there was no memory
abbrev pub GivesCity : Result City CityError → City → Type 0
GivesCity (Ok found) city = found ≡ city
GivesCity (Err NotJson) city = ⊥
GivesCity (Err (BadCity node why)) city = ⊥
GivesCity (Err (CityLimit which count)) city = ⊥
GivesCity (Err Memory) city = Unit {0}

-- the line is too long, and that is its length
abbrev pub IsTooLongCityLine : List ℕ → Which → ℕ → Type 0
IsTooLongCityLine bytes which count = (MAX_CITY_BYTES < length bytes) × (which ≡ Line) × (count ≡ length bytes)

-- the value lacks the row, no row before it, and it lacks the row first at the node of that number
abbrev pub IsBadCity : Data → ℕ → CityWhy → Type 0
IsBadCity d node why = (before : ℕ) × CityLacks why d before × (node ≡ told before)

-- the value is of the form of a city line, and that limit of its nodes is the first that is passed
pub record PassesCityLimit (d : Data) (which : Which) (count : ℕ) : Type 0 where
  pub kinds : List (List ℕ)
  pub agents : List (List ℕ)
  pub caps : List ℕ
  pub place : List (List Label × List ℕ)
  pub tree : Node
  pub zone : List ℕ
  pub show : Show
  pub says : SaysCity d kinds agents caps place tree zone show
  pub passed : passed_limit tree ≡ Some (which, count)

-- the error is of its cause: the line is too long; or else it is no JSON, or its value lacks a row, or a limit of its nodes is passed; or there was no memory
abbrev pub RefusesCity : List ℕ → CityError → Type 0
RefusesCity bytes NotJson = IsShortCityLine bytes × ((d : Data) → IsJson bytes d → ⊥)
RefusesCity bytes (BadCity node why) = IsShortCityLine bytes × ((d : Data) × IsJson bytes d × IsBadCity d node why)
RefusesCity bytes (CityLimit which count) = IsTooLongCityLine bytes which count ⊎ (IsShortCityLine bytes × ((d : Data) × IsJson bytes d × PassesCityLimit d which count))
RefusesCity bytes Memory = IsShortCityLine bytes
