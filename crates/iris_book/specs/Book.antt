-- The book: what was accepted in a city since its start, and what that says of each node.
use Rattle.std.specs.Prelude.{◌≡◌, ℕ, ◌+◌, ◌-◌, ◌*◌, ◌≤◌, nat_le, List, [], ◌∷◌, ◌++◌, length, take, fold, slice_get, All, Option, Some, None, IsSome, IfSome, option_map, option_and_then, Ok, refl, if◌then◌else◌}
use Rattle.std.specs.Option.{option_map_or}
use Rattle.std.specs.Result.{result_ok}
use Rattle.std.specs.List.{filter_map}
use Rattle.std.specs.List.Sorted.{IsNonDecreasingBy}
use Rattle.std.specs.Coded.{Coded, code_by, coded×, coded_ℕ, coded_list}
use Rattle.std.specs.Cmp.Lexicographic.{pointwise}
use Rattle.iris_base.specs.declared.name.Label.{Label}
use Rattle.iris_base.specs.NameOrder.{label_eq}
use Rattle.iris_tree.specs.declared.local.Local.{Local}
use Rattle.iris_tree.specs.Universe.{Node, node_at}
use Rattle.iris_tree.specs.Document.{local_at, with_locals}
use Rattle.iris_tree.specs.LocalText.{local_text}
use Rattle.iris_tree.specs.Changes.{apply_changes, changes_text}
use Rattle.iris_book.specs.declared.update.NodeUpdate.{NodeUpdate}
use Rattle.iris_book.specs.declared.entry.Entry.{Entry}
use Rattle.iris_book.specs.declared.weights.TheConstants.{ENTRY_WEIGHT, CITE_WEIGHT}
use Rattle.iris_book.specs.declared.entry.Entry.TheVariants.{Updated, Gave, Answered}

-- a start document, and what was entered since, in its order
pub record History : Type 0 where
  pub start : Node
  pub entries : List Entry

-- a book: its history, and how many more entries take no memory
pub record Recorded : Type 0 where
  pub history : History
  pub spare : ℕ

-- how proofs store a book
abbrev pub recorded_code : Coded Node → Coded Entry → Coded Recorded
recorded_code document entry =
    code_by ((Node × List Entry) × ℕ) (coded× (coded× document (coded_list entry)) coded_ℕ)
    (λ r. ((r.history.start, r.history.entries), r.spare))
    (λ p. record { history = record { start = p.0.0; entries = p.0.1 }; spare = p.1 })
    (λ _. refl)

-- the history with one entry more
abbrev pub with_entry : History → Entry → History
with_entry h entry = record h { entries = h.entries ++ entry ∷ [] }

-- ---- the updates of a node

-- updates, each with the name of its node
abbrev pub Updates : Type 0
Updates = List (List Label × NodeUpdate)

-- the update that an entry is, with the name of its node
abbrev pub update_in : Entry → Option (List Label × NodeUpdate)
update_in (Updated name number changes local at) = Some (name, record { no = number; changes = changes; local = local; at = at })
update_in (Gave name to epoch) = None
update_in (Answered request query floor cites) = None

-- the updates among entries
abbrev pub updates_in : List Entry → Updates
updates_in entries = filter_map update_in entries

-- the update, where it is of that node
abbrev pub if_of : List Label → List Label × NodeUpdate → Option NodeUpdate
if_of name u = if pointwise label_eq name u.0 then Some u.1 else None

-- the updates of that node among these
abbrev pub updates_of : Updates → List Label → List NodeUpdate
updates_of us name = filter_map (if_of name) us

-- the updates of that node
abbrev pub updates_at : History → List Label → List NodeUpdate
updates_at h name = updates_of (updates_in h.entries) name

-- the number of its updates, which is its newest version
abbrev pub update_count : History → List Label → ℕ
update_count h name = length (updates_at h name)

-- ---- values

-- local information after these changes, one list after another; nothing where some change of them fails
abbrev pub changed_by : Local → List NodeUpdate → Option Local
changed_by l [] = Some l
changed_by l (u ∷ us) = option_and_then (λ changed. changed_by changed us) (result_ok (apply_changes l u.changes))

-- the first n of these, where there are as many
abbrev pub first_of : {X : Type 0} → ℕ → List X → Option (List X)
first_of n xs = if nat_le n (length xs) then Some (take n xs) else None

-- the start value of that node changed by its first updates, as many as the version says; nothing where no such node or update is
abbrev pub value_after : Node → Updates → List Label → ℕ → Option Local
value_after start us name version = option_and_then (λ local. option_and_then (changed_by local) (first_of version (updates_of us name))) (local_at start name)

-- the value of a node after so many of its updates
abbrev pub value_at : History → List Label → ℕ → Option Local
value_at h name version = value_after h.start (updates_in h.entries) name version

-- the newest version of a node, where it is one
abbrev pub latest : History → List Label → Option ℕ
latest h name = option_map (λ _. update_count h name) (node_at h.start name)

-- the number of the last update of that node, 0 where it has none
abbrev pub last_number_at : History → List Label → ℕ
last_number_at h name = option_map_or (λ u. u.no) (slice_get (updates_at h name) (update_count h name - 1)) 0

-- what the last of these updates left, or what was there
abbrev pub left_by : Local → List NodeUpdate → Local
left_by old us = fold (λ _ u. u.local) old us

-- the start document with the newest value everywhere
abbrev pub today_of : Node → Updates → Node
today_of start us = with_locals start (λ name old. left_by old (updates_of us name))

-- the newest document
abbrev pub today : History → Node
today h = today_of h.start (updates_in h.entries)

-- ---- what may come next

-- the local information of an update is the newest value changed by its changes, and its moment is not before an earlier one
pub record IsNext (start : Node) (us : Updates) (name : List Label) (update : NodeUpdate) : Type 0 where
  pub value : (old : Local) × (value_after start us name (length (updates_of us name)) ≡ Some old) × (apply_changes old update.changes ≡ Ok update.local)
  pub later : All (λ u. u.1.at ≤ update.at) us

-- the entry may come next: an update is that of a node, as above
abbrev pub MayBeEntered : History → Entry → Type 0
MayBeEntered h (Updated name number changes local at) = IsNext h.start (updates_in h.entries) name (record { no = number; changes = changes; local = local; at = at })
MayBeEntered h (Gave name to epoch) = Unit {0}
MayBeEntered h (Answered request query floor cites) = Unit {0}

-- each update's local information is that of the version before it, changed by its changes, and moments do not fall
pub record AreSound (start : Node) (us : Updates) : Type 0 where
  pub values : (name : List Label) (version : ℕ) (u : NodeUpdate) → slice_get (updates_of us name) version ≡ Some u
      → (old : Local) × (value_after start us name version ≡ Some old) × (apply_changes old u.changes ≡ Ok u.local)
  pub moments : IsNonDecreasingBy (λ u. u.1.at) us

-- the same of the updates of a history
abbrev pub IsSound : History → Type 0
IsSound h = AreSound h.start (updates_in h.entries)

-- ---- what was held when

-- that version of the node is there; the update that made it, if one did, came at that moment or before; and the next update has not come, or came at that moment or after. Where an update comes both versions are held.
pub record HadVersion (h : History) (name : List Label) (version stamp : ℕ) : Type 0 where
  pub there : IsSome (value_at h name version)
  pub begun : (before : ℕ) → before + 1 ≡ version → IfSome (slice_get (updates_at h name) before) (λ u. u.at ≤ stamp)
  pub not_over : IfSome (slice_get (updates_at h name) version) (λ u. stamp ≤ u.at)

-- ---- weights

-- what an entry weighs, in bytes
abbrev pub weight : Entry → ℕ
weight (Updated name number changes local at) = ENTRY_WEIGHT + length (changes_text changes) + length (local_text local)
weight (Gave name to epoch) = ENTRY_WEIGHT
weight (Answered request query floor cites) = ENTRY_WEIGHT + CITE_WEIGHT * length cites
