-- What the laws of needs speak of.
use Rattle.std.specs.Prelude.{◌≡◌, false, ◌⊎◌, List, [], Contains}
use Rattle.std.specs.Cmp.Lexicographic.{slice_cmp}
use Rattle.std.specs.List.Sorted.{IsStrictlySortedBy}
use Rattle.std.specs.Ordering.{on}
use Rattle.std.specs.declared.cmp.Ordering.{Ordering}
use Rattle.iris_base.specs.declared.name.Label.{Label}
use Rattle.iris_base.specs.NameOrder.{label_cmp}
use Rattle.iris_fragment.specs.declared.piece.Level.{Level}
use Rattle.iris_fragment.specs.declared.piece.Level.TheVariants.{Ids, Full}
use Rattle.iris_need.specs.declared.need.Need.{Need}
use Rattle.iris_need.specs.declared.need.Start.{Start}
use Rattle.iris_need.specs.Pieces.{Pieces, view_of}
use Rattle.iris_need.specs.Run.{meets}

-- needs by their names
abbrev pub need_cmp : Need → Need → Ordering
need_cmp = on (λ need. need.name) (slice_cmp label_cmp)

-- the names of needs rise, so each is there once
abbrev pub AreOrderedNeeds : List Need → Type 0
AreOrderedNeeds needs = IsStrictlySortedBy need_cmp needs

-- one of these looks is at that name and at that level
abbrev pub HasLook : List Need → List Label → Level → Type 0
HasLook looks name level = (look : Need) × Contains looks look × (look.name ≡ name) × (look.level ≡ level)

-- the look at the start's own name, at its level
abbrev pub look_at_start : Start → Need
look_at_start start = record { name = start.name; level = start.level; states = [] }

-- the start's own look leaves a need open: it asks for less, or the view doesn't meet it
abbrev pub IsOpenAtStart : Start → Pieces → Need → Type 0
IsOpenAtStart start view need = ((need.level ≡ Full) × (start.level ≡ Ids)) ⊎ (meets (view_of view) (look_at_start start) ≡ false)
