-- What is told of a value that is not of the form of a city line.
use Rattle.std.specs.Prelude.{◌≡◌, ℕ, List, [], codes, Option, Some, MatchOption}
use Rattle.std.specs.List.{AllByRecursion}
use Rattle.serde_json.specs.Data.{Data}
use Rattle.serde_json.specs.Find.{get}
use Rattle.iris_json.specs.declared.city.CityWhy.{CityWhy}
use Rattle.iris_json.specs.declared.city.CityWhy.TheVariants.{Shape}
use Rattle.iris_json.specs.declared.city_fault.Fault.{Fault}
use Rattle.iris_json.specs.CityLine.{IsBadCity}
use Rattle.iris_json.specs.CityParts.{nodes_in, FirstFails, told}
use Rattle.iris_json.specs.CityRows.{HasCityKeys, AllHas}

-- a value has the keys and types of a city line, and so has its tree, at every depth
pub record IsShaped (d tree : Data) : Type 0 where
  pub keys : HasCityKeys d
  pub tree_at : get (codes "tree") d ≡ Some tree
  pub nodes : AllByRecursion (AllHas Shape []) (nodes_in tree)

-- the fault is that of the row, at the first node without what it asks; there is none where each has it
abbrev pub TellsNode : CityWhy → List (List ℕ) → Data → Option Fault → Type 0
TellsNode why kinds tree found = MatchOption found (AllByRecursion (AllHas why kinds) (nodes_in tree)) (λ fault. (fault.why ≡ why) × ((before : ℕ) × FirstFails (AllHas why kinds) (nodes_in tree) before × (fault.node ≡ told before)))

-- the fault is what the value lacks first
abbrev pub TellsFault : Data → Fault → Type 0
TellsFault d fault = IsBadCity d fault.node fault.why
