-- The answers in a book.
use Rattle.std.specs.Prelude.{ℕ, List, [], ◌∷◌, ◌++◌}
use Rattle.iris_tree.specs.declared.item.Item.{Item}
use Rattle.iris_book.specs.Book.{History}
use Rattle.iris_book.specs.declared.entry.Entry.{Entry}
use Rattle.iris_book.specs.declared.entry.Entry.TheVariants.{Updated, Gave, Answered}
use Rattle.iris_copies.specs.Allowed.{IsAllowed}
use Rattle.iris_runs.specs.Worlds.{World}

-- the history as it was with those entries alone
abbrev pub history_of : History → List Entry → History
history_of h earlier = record h { entries = earlier }

-- an answer is allowed by a history: its cites tell of a document, and some items are what the query selects there
abbrev pub IsAllowedEntry : History → ℕ → Entry → Type 0
IsAllowedEntry h now (Updated name number changes local at) = Unit {0}
IsAllowedEntry h now (Gave name to epoch) = Unit {0}
IsAllowedEntry h now (Answered request asked floor cites) = (items : List Item) × IsAllowed h now floor asked items cites

-- each of these entries is allowed by those before it
abbrev pub AreAllowedAfter : History → ℕ → List Entry → List Entry → Type 0
AreAllowedAfter h now earlier [] = Unit {0}
AreAllowedAfter h now earlier (entry ∷ later) = IsAllowedEntry (history_of h earlier) now entry × AreAllowedAfter h now (earlier ++ entry ∷ []) later

-- each answer in a book is allowed by the entries before it
abbrev pub AreAnswersAllowed : History → ℕ → Type 0
AreAnswersAllowed h now = AreAllowedAfter h now [] h.entries

-- so it is in a city
abbrev pub AnswersRightly : World → Type 0
AnswersRightly w = AreAnswersAllowed w.history w.turn.now
