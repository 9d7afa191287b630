-- What holds of a city between its events.
use Rattle.std.specs.Prelude.{◌≡◌, ℕ, List, Some, slice_get}
use Rattle.iris_route.specs.Titles.{Titles}
use Rattle.iris_book.specs.Book.{Recorded}
use Rattle.iris_agent.specs.Tables.{Holdings}
use Rattle.iris_runs.specs.Among.{AreOwnedAmong, AreAmong}
use Rattle.iris_runs.specs.Answers.{AnswersRightly}
use Rattle.iris_runs.specs.Entered.{KeptUpdates}
use Rattle.iris_runs.specs.Good.{Past, IsGood}
use Rattle.iris_runs.specs.Starts.{IsStart}
use Rattle.iris_state.specs.Agents.{is_here, place_in}
use Rattle.iris_state.specs.Whole.{Whole, begun, world_of}

-- each agent has an id of its own
abbrev pub HaveOwnPlaces : List Holdings → Type 0
HaveOwnPlaces hs = (place : ℕ) (h : Holdings) → slice_get hs place ≡ Some h → place_in h.id hs ≡ Some place

-- A city between events: it is good with some past, each answer in its book is allowed by what was entered before it, what is owned and sent in it names only its agents, and these have ids of their own.
pub record IsSteady (c : Whole) : Type 0 where
  pub past : Past
  pub good : IsGood (world_of c) past
  pub answers : AnswersRightly (world_of c)
  pub among : AreAmong (is_here c.agents) (world_of c)
  pub ids : HaveOwnPlaces c.agents

-- these agents, with that registry and that book, begin a city with some rows that were kept before or none, and own all its nodes
pub record MayBegin (registry : Titles) (agents : List Holdings) (book : Recorded) : Type 0 where
  pub rows : KeptUpdates
  pub start : IsStart rows (world_of (begun registry agents book))
  pub owned : AreOwnedAmong (is_here agents) registry
  pub ids : HaveOwnPlaces agents
