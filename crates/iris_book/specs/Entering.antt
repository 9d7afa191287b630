-- How a book changes.
use Rattle.std.specs.Prelude.{◌≡◌, ℕ, ◌≤◌, Bool, true, false, List, filter, if◌then◌else◌}
use Rattle.std.specs.Cmp.Lexicographic.{pointwise}
use Rattle.iris_base.specs.declared.name.Label.{Label}
use Rattle.iris_base.specs.NameOrder.{label_eq}
use Rattle.iris_tree.specs.Universe.{Node}
use Rattle.iris_tree.specs.Document.{with_local}
use Rattle.iris_book.specs.declared.entry.Entry.{Entry}
use Rattle.iris_book.specs.declared.entry.Entry.TheVariants.{Updated, Gave, Answered}
use Rattle.iris_book.specs.Book.{History, update_count, value_at, HadVersion}

-- a document after an entry: an update's node has its local information
abbrev pub after_entry : Node → Entry → Node
after_entry document (Updated name number changes local at) = with_local document name local
after_entry document (Gave name to epoch) = document
after_entry document (Answered request query floor cites) = document

-- how many updates of that node an entry is
abbrev pub updates_by : Entry → List Label → ℕ
updates_by (Updated other number changes local at) name = if pointwise label_eq name other then 1 else 0
updates_by (Gave other to epoch) name = 0
updates_by (Answered request query floor cites) name = 0

-- the moment is not after that of an update
abbrev pub IsBy : ℕ → Entry → Type 0
IsBy stamp (Updated name number changes local at) = stamp ≤ at
IsBy stamp (Gave name to epoch) = Unit {0}
IsBy stamp (Answered request query floor cites) = Unit {0}

-- what versions there were have their values, and what was held up to the moment of the entry still was
pub record KeepsEarlier (old new : History) (entry : Entry) : Type 0 where
  pub values : (name : List Label) (version : ℕ) → version ≤ update_count old name → value_at new name version ≡ value_at old name version
  pub held : (name : List Label) (version stamp : ℕ) → HadVersion old name version stamp → IsBy stamp entry → HadVersion new name version stamp

-- whether an entry is no answer
abbrev pub is_lasting : Entry → Bool
is_lasting (Updated name number changes local at) = true
is_lasting (Gave name to epoch) = true
is_lasting (Answered request query floor cites) = false

-- the history without what was answered
abbrev pub without_answers : History → History
without_answers h = record h { entries = filter is_lasting h.entries }
