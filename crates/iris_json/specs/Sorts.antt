-- Sorts of values in the lists of a city line.
use Rattle.serde_json.specs.Data.{Data}
use Rattle.iris_json.specs.declared.city_keys.Sort.{Sort}
use Rattle.iris_json.specs.declared.city_keys.Sort.TheVariants.{Text, Number, Pair}
use Rattle.iris_json.specs.CityRows.{IsTextData, IsNumberData, IsTextPair}

-- a value is of the sort
abbrev pub IsOfSort : Sort → Data → Type 0
IsOfSort Text d = IsTextData d
IsOfSort Number d = IsNumberData d
IsOfSort Pair d = IsTextPair d
