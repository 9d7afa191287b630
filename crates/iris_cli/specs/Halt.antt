-- Why the play of a script goes no further, by the errors of what it calls.
use Rattle.std.specs.Prelude.{◌≡◌, List, [], ◌∷◌, ℕ, codes, Bool, true, false, if◌then◌else◌, None, Some}
use Rattle.iris_base.specs.declared.faults.Fault.{Fault}
use Rattle.iris_base.specs.declared.faults.Fault.TheVariants as faults
use Rattle.iris_json.specs.declared.out.Why.{Why}
use Rattle.iris_json.specs.declared.out.Why.TheVariants as whys
use Rattle.iris_json.specs.declared.line.LineWhy.{LineWhy}
use Rattle.iris_json.specs.declared.line.LineWhy.TheVariants as line_whys
use Rattle.iris_json.specs.declared.city.CityWhy.{CityWhy}
use Rattle.iris_json.specs.declared.city.CityWhy.TheVariants as city_whys
use Rattle.iris_json.specs.declared.city.CityError.{CityError}
use Rattle.iris_json.specs.declared.city.CityError.TheVariants as city
use Rattle.iris_json.specs.declared.line.LineError.{LineError}
use Rattle.iris_json.specs.declared.line.LineError.TheVariants as line
use Rattle.iris_cli.specs.declared.halt.Halt.{Halt}
use Rattle.iris_cli.specs.declared.halt.Halt.TheVariants.{ReadFault, WriteFault, BadLine, Limit, Memory}

-- by the fault of a source
abbrev pub of_source : Fault → Halt
of_source faults.Failed = ReadFault
of_source faults.Memory = Memory

-- by the fault of a sink
abbrev pub of_sink : Fault → Halt
of_sink faults.Failed = WriteFault
of_sink faults.Memory = Memory

-- what a last line tells of a city line
abbrev pub city_why : CityWhy → Why
city_why city_whys.Shape = whys.Shape
city_why city_whys.Kinds = whys.Kinds
city_why city_whys.Agents = whys.Agents
city_why city_whys.Capacities = whys.Capacities
city_why city_whys.Label = whys.Label
city_why city_whys.Twin = whys.Twin
city_why city_whys.Attribute = whys.Attribute
city_why city_whys.Plain = whys.Plain
city_why city_whys.Place = whys.Place
city_why city_whys.Zone = whys.Zone

-- whether it is the fault of one node
abbrev pub is_of_node : CityWhy → Bool
is_of_node city_whys.Shape = false
is_of_node city_whys.Kinds = false
is_of_node city_whys.Agents = false
is_of_node city_whys.Capacities = false
is_of_node city_whys.Label = true
is_of_node city_whys.Twin = true
is_of_node city_whys.Attribute = true
is_of_node city_whys.Plain = true
is_of_node city_whys.Place = false
is_of_node city_whys.Zone = false

-- by the error of a city line
abbrev pub of_city : CityError → Halt
of_city city.NotJson = BadLine whys.NotJson None
of_city (city.BadCity node why) = BadLine (city_why why) (if is_of_node why then Some node else None)
of_city (city.CityLimit which count) = Limit which count
of_city city.Memory = Memory

-- what a last line tells of a line that is none
abbrev pub why_of : LineWhy → Why
why_of line_whys.Shape = whys.Shape
why_of line_whys.Name = whys.Name
why_of line_whys.Number = whys.Number
why_of line_whys.Change = whys.Change

-- by the error of a line after it
abbrev pub of_line : LineError → Halt
of_line line.NotJson = BadLine whys.NotJson None
of_line (line.BadLine why) = BadLine (why_of why) None
of_line line.Memory = Memory

-- the sink is at fault, or there was no memory
abbrev pub IsOfWriting : Halt → Type 0
IsOfWriting ReadFault = ⊥
IsOfWriting WriteFault = Unit {0}
IsOfWriting (BadLine why at) = ⊥
IsOfWriting (Limit which count) = ⊥
IsOfWriting Memory = Unit {0}

-- the words ask to play a script without a store
abbrev pub IsPlay : List (List ℕ) → Type 0
IsPlay words = words ≡ codes "play" ∷ []
