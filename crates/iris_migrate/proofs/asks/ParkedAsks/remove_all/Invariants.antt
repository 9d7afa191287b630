use Rattle.std.proofs.Common.{◌≡◌, ℕ, ◌-◌, take}
use Rattle.iris_migrate.specs.Messages.{asks_among}
use Rattle.iris_migrate.specs.Titles.{count_of}
use Rattle.iris_migrate.proofs.asks.ParkedAsks.remove_all.Given as goal

abbrev pub invariant-loop-message : goal.invariant-loop-message
invariant-loop-message l = (ask : ℕ) → count_of l.self ask ≡ count_of l.initial.self ask - asks_among ask (take l.message-index l.messages)
