-- What a reader answers where a callee failed.
use Rattle.iris_json.specs.declared.keys.ValueError.{ValueError}
use Rattle.iris_json.specs.declared.keys.ValueError.TheVariants as values
use Rattle.iris_json.specs.declared.line.LineError.{LineError}
use Rattle.iris_json.specs.declared.line.LineError.TheVariants as lines
use Rattle.iris_json.specs.declared.line.LineWhy.TheVariants.{Name}
use Rattle.iris_json.specs.declared.city.CityError.{CityError}
use Rattle.iris_json.specs.declared.city.CityError.TheVariants as cities
use Rattle.iris_base.specs.declared.error.NameError.{NameError}
use Rattle.iris_base.specs.declared.error.NameError.TheVariants as names

-- bytes that are no JSON are told as such
abbrev pub line_error : ValueError → LineError
line_error values.NotJson = lines.NotJson
line_error values.Memory = lines.Memory

-- a text that is of no name is in no line
abbrev pub name_error : NameError → LineError
name_error (names.BadName at) = lines.BadLine Name
name_error names.Memory = lines.Memory

-- bytes that are no JSON are told as such
abbrev pub city_error : ValueError → CityError
city_error values.NotJson = cities.NotJson
city_error values.Memory = cities.Memory
