-- Who owns each node, and how often it moved.
use Rattle.std.specs.Prelude.{ℕ, ◌<◌, Bool, true, false, List, [], ◌∷◌, Option}
use Rattle.std.specs.Option.{IsSomeAnd}
use Rattle.std.specs.Map.{lookup, set_value}
use Rattle.std.specs.Cmp.Lexicographic.{pointwise}
use Rattle.iris_base.specs.declared.name.Label.{Label}
use Rattle.iris_base.specs.NameOrder.{label_eq}

-- a node's owner and its epoch, which is the number of its moves
abbrev pub Title : Type 0
Title = List ℕ × ℕ

-- the names of nodes, each with its title
abbrev pub Titles : Type 0
Titles = List (List Label × Title)

-- the title of the node of that name
abbrev pub title_at : Titles → List Label → Option Title
title_at titles name = lookup (pointwise label_eq name) titles

-- the node is there, and its epoch is less
abbrev pub IsNewer : Titles → List Label → ℕ → Type 0
IsNewer titles name epoch = IsSomeAnd (title_at titles name) (λ title. title.1 < epoch)

-- with that title at that name
abbrev pub with_title : Titles → List Label → Title → Titles
with_title titles name title = set_value (pointwise label_eq name) titles title

-- ---- the top node stands first

-- whether a name has just one label
abbrev pub is_top_name : List Label → Bool
is_top_name [] = false
is_top_name (l ∷ []) = true
is_top_name (l ∷ m ∷ ls) = false

-- whether the first name is such
abbrev pub begins_at_top : Titles → Bool
begins_at_top [] = false
begins_at_top (e ∷ es) = is_top_name e.0

-- the first name, that of the top node
abbrev pub top_name : Titles → List Label
top_name [] = []
top_name (e ∷ es) = e.0
