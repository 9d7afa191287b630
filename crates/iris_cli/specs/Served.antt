-- What `play` serves as yet: cities of one agent, all of whose lines are shown, and the lines that ask nothing of several agents.
use Rattle.std.specs.Prelude.{◌≡◌, ℕ, Bool, true, false, List, [], ◌∷◌, None}
use Rattle.iris_json.specs.declared.city.City.{City}
use Rattle.iris_json.specs.declared.city.Show.TheVariants.{All}
use Rattle.iris_json.specs.declared.line.Line.{Line}
use Rattle.iris_json.specs.declared.line.Line.TheVariants as lines
use Rattle.iris_json.specs.declared.out.Why.TheVariants.{Shape}
use Rattle.iris_json.specs.Lines.{ReadsLine}
use Rattle.iris_json.specs.CityLine.{ReadsCity}
use Rattle.iris_cli.specs.declared.halt.Halt.{Halt}
use Rattle.iris_cli.specs.declared.halt.Halt.TheVariants.{BadLine}

-- what is told of what is not served
abbrev pub not_served : Halt
not_served = BadLine Shape None

-- a city of that one agent, all of whose lines are shown
pub record IsServedCity (city : City) (agent : List ℕ) : Type 0 where
  pub alone : city.agents ≡ agent ∷ []
  pub shown : city.show ≡ All

-- a line that asks nothing of several agents
abbrev pub is_served : Line → Bool
is_served (lines.Query query bound) = true
is_served (lines.Find find) = false
is_served (lines.Update name n changes) = true
is_served (lines.Give name to) = false
is_served (lines.Evict agent name) = false
is_served (lines.Audit query) = true
is_served (lines.Now at) = true
is_served (lines.Deliver post) = false
is_served lines.Settle = true
is_served lines.Forget = false
is_served (lines.Owner name) = false
is_served lines.Summary = false

-- the bytes are a spelling of a line that is not served
abbrev pub IsUnservedLine : List ℕ → Type 0
IsUnservedLine bytes = (line : Line) × ReadsLine bytes line × (is_served line ≡ false)

-- the bytes are a spelling of the line of a city that is not served
abbrev pub IsUnservedCity : List ℕ → Type 0
IsUnservedCity bytes = (city : City) × ReadsCity bytes city × ((agent : List ℕ) → IsServedCity city agent → ⊥)
