-- What an event at an agent leaves.
use Rattle.std.specs.Prelude.{◌≡◌, suc, List, [], ◌∷◌, Some}
use Rattle.iris_book.specs.declared.entry.Entry.{Entry}
use Rattle.iris_gather.specs.Gathers.{Gathering}
use Rattle.iris_gather.specs.OpenGathers.{unlent}
use Rattle.iris_agent.specs.declared.step.Step.{Step}
use Rattle.iris_agent.specs.declared.turn.Turn.{Turn}
use Rattle.iris_agent.specs.Tables.{Holdings, Tables, tables_of, with_gather}

-- the agent, the turn with the numbers that are free then, what is entered into the book, and the steps
pub record Handled : Type 0 where
  pub tables : Tables
  pub turn : Turn
  pub entries : List Entry
  pub steps : List Step

-- the agent changed, or did not, and nothing follows
abbrev pub only_change : Tables → Turn → Handled
only_change t turn = record { tables = t; turn = turn; entries = []; steps = [] }

-- all stays, and one step follows
abbrev pub only_step : Tables → Turn → Step → Handled
only_step t turn step = record { tables = t; turn = turn; entries = []; steps = step ∷ [] }

-- the turn once the number that was free for a gather is taken
abbrev pub after_opening : Turn → Turn
after_opening turn = record turn { next_gather = suc turn.next_gather }

-- a gather is open under the number that was free
abbrev pub opened_gather : Tables → Turn → Gathering → Handled
opened_gather t turn gather = only_change (with_gather t turn.next_gather (Some (unlent gather))) (after_opening turn)

-- the agent, the turn and the steps are those
pub record Does (new : Holdings) (after : Turn) (made : List Step) (h : Handled) : Type 0 where
  pub tables : tables_of new ≡ h.tables
  pub turn : after ≡ h.turn
  pub steps : made ≡ h.steps
