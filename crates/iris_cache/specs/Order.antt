-- Lists of names without repetition: the order in which copies were used.
use Rattle.std.specs.Prelude.{◌-◌, Bool, not, List, ◌∷◌, length, slice_get, filter, Option, Some, None}
use Rattle.std.specs.List.{list_any}
use Rattle.std.specs.Cmp.Lexicographic.{pointwise}
use Rattle.iris_base.specs.declared.name.Label.{Label}
use Rattle.iris_base.specs.NameOrder.{label_eq}

-- names, the one used last in front
abbrev pub Order : Type 0
Order = List (List Label)

-- whether that name is in the order
abbrev pub lists : Order → List Label → Bool
lists order name = list_any (pointwise label_eq name) order

-- the order without that name
abbrev pub without : Order → List Label → Order
without order name = filter (λ other. not (pointwise label_eq name other)) order

-- the order without that name, if there is one
abbrev pub without_any : Order → Option (List Label) → Order
without_any order None = order
without_any order (Some name) = without order name

-- the order with that name at the front, wherever it was
abbrev pub in_front : Order → List Label → Order
in_front order name = name ∷ without order name

-- the last name, that of the copy whose last use is the longest ago
abbrev pub last_of : Order → Option (List Label)
last_of order = slice_get order (length order - 1)
