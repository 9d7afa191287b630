-- Changes in a city whose nodes have some kinds: none puts an element with the tag of a kind.
use Rattle.std.specs.Prelude.{◌≡◌, ℕ, List, take, Option, Some, None, Result, Ok, Err}
use Rattle.std.specs.List.{position}
use Rattle.iris_tree.specs.declared.local.Local.{Local}
use Rattle.iris_tree.specs.declared.change.Change.{Change}
use Rattle.iris_tree.specs.declared.change.ChangeError.{ChangeError}
use Rattle.iris_tree.specs.declared.change.ChangeError.TheVariants.{BadChange, Memory}
use Rattle.iris_tree.specs.Changes.{apply_changes}
use Rattle.iris_tree.specs.NamesKind.{change_names_kind}

-- the change at that place fails, unless one before it does
abbrev pub fails_at : ℕ → Result Local ℕ → Result Local ℕ
fails_at at (Ok before) = Err at
fails_at at (Err earlier) = Err earlier

-- the changes, where the one at that place puts an element with the tag of a kind, if one does
abbrev pub changes_but : Local → List Change → Option ℕ → Result Local ℕ
changes_but l cs None = apply_changes l cs
changes_but l cs (Some at) = fails_at at (apply_changes l (take at cs))

-- the local information after these changes, or the place of the first that fails: it can't be made, or puts an element with the tag of a kind, at any depth
abbrev pub changes_in_city : List (List ℕ) → Local → List Change → Result Local ℕ
changes_in_city kinds l cs = changes_but l cs (position (change_names_kind kinds) cs)

-- the error is just the place of the first change that fails, or memory ran out
abbrev pub RefusesInCity : List (List ℕ) → Local → List Change → ChangeError → Type 0
RefusesInCity kinds l cs (BadChange at) = changes_in_city kinds l cs ≡ Err at
RefusesInCity kinds l cs Memory = Unit {0}
