-- Plain elements whose tags are kinds of a city, which no tag may be.
use Rattle.std.specs.Prelude.{ℕ, Bool, false, ◌||◌, List, map}
use Rattle.std.specs.List.{list_any}
use Rattle.std.specs.Str.{bytes_eq}
use Rattle.iris_tree.specs.declared.change.Change.{Change}
use Rattle.iris_tree.specs.declared.change.Change.TheVariants.{Attr, Drop, Put}
use Rattle.iris_tree.specs.declared.plain.Plain.{Plain}
use Rattle.iris_tree.specs.declared.plain.Plain.TheOpen.{Plain-F}
use Rattle.iris_tree.specs.declared.plain.Plain.TheFolds.{fold-Plain}

-- whether a tag is one of these kinds
abbrev pub is_kind_of : List (List ℕ) → List ℕ → Bool
is_kind_of kinds tag = list_any (λ kind. bytes_eq kind tag) kinds

-- its own tag, or one of its kids'
abbrev pub names_kind_step : List (List ℕ) → Plain-F Bool → Bool
names_kind_step kinds p = is_kind_of kinds p.tag || list_any (λ found. found) p.kids

-- whether the tag of an element, or of one below it, is one of these kinds
abbrev pub names_kind : List (List ℕ) → Plain → Bool
names_kind kinds = fold-Plain Bool (names_kind_step kinds)

-- whether that of one of these elements is, or of one below them
abbrev pub plains_name_kind : List (List ℕ) → List Plain → Bool
plains_name_kind kinds ps = list_any (λ found. found) (map (names_kind kinds) ps)

-- whether a change puts such an element
abbrev pub change_names_kind : List (List ℕ) → Change → Bool
change_names_kind kinds (Attr name value) = false
change_names_kind kinds (Drop name) = false
change_names_kind kinds (Put p) = names_kind kinds p
