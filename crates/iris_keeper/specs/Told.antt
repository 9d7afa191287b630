-- What a keeper's calls do to what it tells.
use Rattle.std.specs.Prelude.{◌≡◌, List, [], ◌∷◌, ◌++◌}
use Rattle.iris_keeper.specs.declared.kept.Kept.{Kept}

-- a list of rows that is told, and no list where nothing is
abbrev pub Telling : Type 1
Telling = List Kept → Type 0

-- what is told now was told before
abbrev pub StillTells : Telling → Telling → Type 0
StillTells old new = (rows : List Kept) → new rows → old rows

-- what is told now is what was told before, with this row behind it
abbrev pub Adds : Telling → Telling → Kept → Type 0
Adds old new row = (rows : List Kept) → new rows → (before : List Kept) × old before × (rows ≡ before ++ row ∷ [])

-- where something is told now, something was told before
abbrev pub DidTell : Telling → Telling → Type 0
DidTell old new = (rows : List Kept) → new rows → (before : List Kept) × old before
