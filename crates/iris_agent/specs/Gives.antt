-- What an agent leaves that gives a node away.
use Rattle.std.specs.Prelude.{ℕ, ◌<◌, [], ◌∷◌, unwrap_or}
use Rattle.iris_book.specs.declared.entry.Entry.TheVariants as entries
use Rattle.iris_cache.specs.Recency.{released_in}
use Rattle.iris_migrate.specs.declared.message.Handover.{Handover}
use Rattle.iris_migrate.specs.declared.message.Message.TheVariants as messages
use Rattle.iris_migrate.specs.Titles.{given}
use Rattle.iris_agent.specs.declared.give.GiveError.{GiveError}
use Rattle.iris_agent.specs.declared.give.GiveError.TheVariants.{Unkept, Memory}
use Rattle.iris_agent.specs.declared.give.Move.{Move}
use Rattle.iris_agent.specs.declared.step.Step.TheVariants as steps
use Rattle.iris_agent.specs.declared.turn.Turn.{Turn}
use Rattle.iris_agent.specs.Moves.{handover_pieces}
use Rattle.iris_agent.specs.Tables.{Tables, with_cache, with_seat}
use Rattle.iris_agent.specs.Handled.{Handled}

-- the handover of a move, with the number of the last update that was accepted
abbrev pub handover_of : Tables → Turn → Move → Handover
handover_of t turn m = record { name = m.name; epoch = m.epoch; last = unwrap_or (t.seat m.name).last 0; pieces = handover_pieces t.cache.contents m.name turn.now }

-- a move: the giver keeps a copy in front of its order, sends on what comes later, and posts the handover
abbrev pub gives : Tables → Turn → Move → Handled
gives t turn m = record {
  tables = with_seat (with_cache t (released_in t.cache m.name turn.now)) m.name (given (t.seat m.name) m.to m.epoch);
  turn = turn;
  entries = entries.Gave m.name m.to m.epoch ∷ [];
  steps = steps.Post m.to (messages.Handover (handover_of t turn m)) ∷ [];
}

-- where a move was not kept, the keeper failed in this call
abbrev pub HasFailed : ℕ → ℕ → GiveError → Type 0
HasFailed before now Unkept = before < now
HasFailed before now Memory = Unit {0}
