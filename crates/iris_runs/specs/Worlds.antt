-- A city as it runs: all that its agents have, the posts between them, the registry and the book, as tables.
use Rattle.std.specs.Prelude.{ℕ, suc, Bool, true, false, List, [], fold, Option, Some, option_map, unwrap_or}
use Rattle.iris_base.specs.declared.name.Label.{Label}
use Rattle.iris_route.specs.Titles.{Title, Titles, title_at}
use Rattle.iris_book.specs.Book.{History, with_entry}
use Rattle.iris_book.specs.declared.entry.Entry.TheVariants as entries
use Rattle.iris_migrate.specs.declared.message.Message.{Message}
use Rattle.iris_agent.specs.declared.step.Step.{Step}
use Rattle.iris_agent.specs.declared.step.Step.TheVariants as steps
use Rattle.iris_agent.specs.declared.turn.Turn.{Turn}
use Rattle.iris_agent.specs.Handled.{Handled}
use Rattle.iris_agent.specs.Tables.{Tables, at_number}
use Rattle.iris_protocol.specs.Table.{AgentId, agents, set_at}
use Rattle.iris_protocol.specs.World as model
use Rattle.iris_protocol.specs.World.{letter_to}
use Rattle.iris_protocol.specs.Program.{Program}
use Rattle.iris_runs.specs.Letters.{agent_of, letter_of}

-- a message on its way
pub record Sent : Type 0 where
  pub to : AgentId
  pub message : Message

-- the city at a moment; of its requests it knows how many there were, and which have their outcome
pub record World : Type 0 where
  pub registry : Titles
  pub agent : AgentId → Tables
  pub post : ℕ → Option Sent  -- those that are kept
  pub seen : ℕ → Bool  -- the post was delivered
  pub posts : ℕ
  pub closed : ℕ → Bool
  pub requests : ℕ
  pub turn : Turn
  pub history : History

-- ---- the registry

-- the owner of a node and the number of its moves; a name of no node has the id of no agent
abbrev pub title_of : Titles → List Label → Title
title_of registry name = unwrap_or (title_at registry name) ([], 0)

abbrev pub owner_of : Titles → List Label → AgentId
owner_of registry name = (title_of registry name).0

abbrev pub epoch_of : Titles → List Label → ℕ
epoch_of registry name = (title_of registry name).1

-- ---- small changes

abbrev pub posting : World → AgentId → Message → World
posting w to message = record w { post = at_number w.post w.posts (Some (record { to = to; message = message })); seen = at_number w.seen w.posts false; posts = suc w.posts }

abbrev pub marked : World → ℕ → World
marked w k = record w { seen = at_number w.seen k true }

abbrev pub closes : World → ℕ → World
closes w request = record w { closed = at_number w.closed request true }

abbrev pub with_agent : World → AgentId → Tables → World
with_agent w a t = record w { agent = set_at agents w.agent a t }

-- ---- what follows from an event at an agent

-- one step of it: a message is posted, or a request has its outcome
abbrev pub stepped : World → Step → World
stepped w (steps.Post to message) = posting w to message
stepped w (steps.Answered request query floor items cites) = record (closes w request) { history = with_entry w.history (entries.Answered request query floor cites) }
stepped w (steps.Accepted request version) = closes w request
stepped w (steps.Refused request refusal) = closes w request

-- the agent, the turn and the book are those that the event left, and then its steps are made in their order
abbrev pub after : World → AgentId → Handled → World
after w a h = fold stepped (record (with_agent w a h.tables) { turn = h.turn; history = fold with_entry w.history h.entries }) h.steps

-- ---- what the protocol sees

abbrev pub post_of : Sent → model.Post
post_of sent = letter_to sent.to (letter_of sent.message)

-- the city, with the updates that were accepted, the newest first, each with its request
unfoldable pub program_of : World → List model.Entry → Program
program_of w accepted = record {
  owner = owner_of w.registry;
  epoch = epoch_of w.registry;
  agent = λ a. agent_of (w.agent a);
  posted = record { post = λ k. option_map post_of (w.post k); seen = w.seen; posts = w.posts };
  closed = w.closed;
  requests = w.requests;
  next_gather = w.turn.next_gather;
  next_ask = w.turn.next_ask;
  book = accepted;
}
