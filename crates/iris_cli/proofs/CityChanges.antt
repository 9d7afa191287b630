-- Changes in a city, by changes anywhere.
use Rattle.std.proofs.Common.{◌≡◌, ℕ, List, Option, Some, None, Result, Ok, Err, take}
use Rattle.std.specs.List.{position}
use Rattle.iris_tree.specs.declared.local.Local.{Local}
use Rattle.iris_tree.specs.declared.change.Change.{Change}
use Rattle.iris_tree.specs.Changes.{apply_changes}
use Rattle.iris_tree.specs.NamesKind.{change_names_kind}
use Rattle.iris_cli.specs.CityChanges.{fails_at, changes_but, changes_in_city}

not_made : (at : ℕ) (before : Result Local ℕ) (made : Local) → fails_at at before ≡ Ok made → ⊥
not_made at (Ok l) made e = absurd (cc)
not_made at (Err earlier) made e = absurd (cc)

made_but : (l : Local) (cs : List Change) (first : Option ℕ) (made : Local) → changes_but l cs first ≡ Ok made → apply_changes l cs ≡ Ok made
made_but l cs None made e = e
made_but l cs (Some at) made e = absurd (not_made at (apply_changes l (take at cs)) made e)

-- what changes make in a city they make anywhere
pub made_in_city : (kinds : List (List ℕ)) (l : Local) (cs : List Change) (made : Local) → changes_in_city kinds l cs ≡ Ok made → apply_changes l cs ≡ Ok made
made_in_city kinds l cs made e = made_but l cs (position (change_names_kind kinds) cs) made e
