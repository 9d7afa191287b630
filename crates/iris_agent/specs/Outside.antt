-- What an event does to the keeper and to the book.
use Rattle.std.specs.Prelude.{◌≡◌, ℕ, ◌<◌, Bool, true, false, List, [], ◌∷◌, Option, Some, None}
use Rattle.iris_book.specs.declared.entry.Entry.{Entry}
use Rattle.iris_book.specs.declared.entry.Entry.TheVariants.{Updated, Gave, Answered}
use Rattle.iris_book.specs.Book.{Recorded, with_entry}
use Rattle.iris_keeper.specs.declared.kept.Kept.{Kept}
use Rattle.iris_keeper.specs.declared.kept.Kept.TheVariants as rows
use Rattle.iris_keeper.specs.Told.{Telling, StillTells, Adds, DidTell}

-- what is seen of a keeper: what it tells of its rows and of what it gives, and its count of faults
pub record Seen : Type 1 where
  pub rows : Telling
  pub gives : Telling
  pub faults : ℕ

abbrev pub seen : Telling → Telling → ℕ → Seen
seen rows gives faults = record { rows = rows; gives = gives; faults = faults }

-- the row that an entry is kept by; an answer is not kept
abbrev pub row_of : Entry → Option Kept
row_of (Updated name number changes local at) = Some (rows.Update name number changes)
row_of (Gave name to epoch) = Some (rows.Gave name to epoch)
row_of (Answered request query floor cites) = None

-- one row was added to what the keeper tells
pub record KeptRow (old new : Seen) (row : Kept) : Type 0 where
  pub rows : Adds old.rows new.rows row
  pub gives : DidTell old.gives new.gives

-- what the keeper tells is as before
pub record KeptNothing (old new : Seen) : Type 0 where
  pub rows : StillTells old.rows new.rows
  pub gives : StillTells old.gives new.gives

abbrev pub KeptRowOf : Seen → Seen → Option Kept → Type 0
KeptRowOf old new None = KeptNothing old new
KeptRowOf old new (Some row) = KeptRow old new row

-- of the entries of an event, which are at most one, the row was kept, and nothing else
abbrev pub KeptEntries : Seen → Seen → List Entry → Type 0
KeptEntries old new [] = KeptNothing old new
KeptEntries old new (entry ∷ entries) = KeptRowOf old new (row_of entry)

-- the book has the entries of an event, which are at most one, more
abbrev pub Entered : Recorded → Recorded → List Entry → Type 0
Entered old new [] = new ≡ old
Entered old new (entry ∷ entries) = new.history ≡ with_entry old.history entry

-- a row was kept, or the count of faults rose
abbrev pub HasKept : Bool → Seen → Seen → Type 0
HasKept true old new = Unit {0}
HasKept false old new = old.faults < new.faults

-- a row was kept, or nothing was and the count of faults rose
abbrev pub WasKept : Bool → Seen → Seen → Kept → Type 0
WasKept true old new row = KeptRow old new row
WasKept false old new row = KeptNothing old new × (old.faults < new.faults)
