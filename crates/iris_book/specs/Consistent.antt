-- What the parts of a book keep to.
use Rattle.std.specs.Prelude.{◌≡◌, ℕ, ◌≤◌, not, List, length, filter, sum_by}
use Rattle.iris_tree.specs.Universe.{Node}
use Rattle.iris_tree.specs.TextLen.{saturated}
use Rattle.iris_book.specs.declared.entry.Entry.{Entry}
use Rattle.iris_book.specs.declared.log.Slot.{Slot}
use Rattle.iris_book.specs.Book.{AreSound, weight}
use Rattle.iris_book.specs.Entering.{is_lasting}
use Rattle.iris_book.specs.Log.{entries_of, is_update}
use Rattle.iris_book.specs.Linked.{AcceptedUpdates}

-- what the entries that last weigh together
abbrev pub lasting_weight : List Entry → ℕ
lasting_weight entries = saturated (sum_by weight (filter is_lasting entries))

-- what the answers weigh together
abbrev pub answered_weight : List Entry → ℕ
answered_weight entries = saturated (sum_by weight (filter (λ e. not (is_lasting e)) entries))

-- the parts of a book agree: the updates are sound, the log has a slot for each, the weights are kept, and there is room
pub record IsConsistent (start : Node) (linked : AcceptedUpdates) (slots : List Slot) (slot_room lasting answered spare : ℕ) : Type 0 where
  pub sound : AreSound start linked.updates
  pub counted : length (filter is_update slots) ≡ length linked.updates
  pub lasting_is : lasting ≡ lasting_weight (entries_of slots linked.updates)
  pub answered_is : answered ≡ answered_weight (entries_of slots linked.updates)
  pub linked_room : spare ≤ linked.spare
  pub log_room : spare ≤ slot_room
