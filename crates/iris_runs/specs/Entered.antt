-- The updates in a book, and those that the protocol accepted.
use Rattle.std.specs.Prelude.{ℕ, List, map, reverse}
use Rattle.iris_base.specs.declared.name.Label.{Label}
use Rattle.iris_book.specs.Book.{updates_in}
use Rattle.iris_book.specs.declared.entry.Entry.{Entry}
use Rattle.iris_protocol.specs.World as model

-- updates, the newest first: each with its node and its number
abbrev pub KeptUpdates : Type 0
KeptUpdates = List (List Label × ℕ)

-- the updates among entries, the newest first
abbrev pub updates_entered : List Entry → KeptUpdates
updates_entered es = map (λ u. (u.0, u.1.no)) (reverse (updates_in es))

-- the updates that the protocol accepted, the newest first
abbrev pub updates_accepted : List model.Entry → KeptUpdates
updates_accepted accepted = map (λ entry. (entry.node, entry.number)) accepted
