-- A log: the entries without the updates themselves, which stand beside it.
use Rattle.std.specs.Prelude.{Bool, true, false, List, [], ◌∷◌}
use Rattle.iris_base.specs.declared.name.Label.{Label}
use Rattle.iris_book.specs.declared.update.NodeUpdate.{NodeUpdate}
use Rattle.iris_book.specs.declared.entry.Entry.{Entry}
use Rattle.iris_book.specs.declared.entry.Entry.TheVariants as entry
use Rattle.iris_book.specs.declared.log.Slot.{Slot}
use Rattle.iris_book.specs.declared.log.Slot.TheVariants as slot
use Rattle.iris_book.specs.Book.{Updates}

-- an update as an entry
abbrev pub updated : List Label × NodeUpdate → Entry
updated u = entry.Updated u.0 u.1.no u.1.changes u.1.local u.1.at

-- the entries that a log and the updates beside it make
abbrev pub entries_of : List Slot → Updates → List Entry
entries_of [] us = []
entries_of (slot.Update ∷ slots) [] = []
entries_of (slot.Update ∷ slots) (u ∷ us) = updated u ∷ entries_of slots us
entries_of (slot.Gave name to epoch ∷ slots) us = entry.Gave name to epoch ∷ entries_of slots us
entries_of (slot.Answered request query floor cites ∷ slots) us = entry.Answered request query floor cites ∷ entries_of slots us

-- whether the slot is that of an update
abbrev pub is_update : Slot → Bool
is_update slot.Update = true
is_update (slot.Gave name to epoch) = false
is_update (slot.Answered request query floor cites) = false

-- whether the slot is not that of an answer
abbrev pub stays : Slot → Bool
stays slot.Update = true
stays (slot.Gave name to epoch) = true
stays (slot.Answered request query floor cites) = false
