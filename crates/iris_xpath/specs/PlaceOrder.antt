-- The order of places: edge by edge, a place before those below it, plain elements before nodes.
use Rattle.std.specs.Prelude.{List, [], ◌∷◌, fold}
use Rattle.std.specs.Ordering.{nat_cmp}
use Rattle.std.specs.declared.cmp.Ordering.{Ordering}
use Rattle.std.specs.declared.cmp.Ordering.TheVariants.{Less, Equal, Greater}
use Rattle.std.specs.Cmp.Lexicographic.{slice_cmp}
use Rattle.iris_base.specs.NameOrder.{label_cmp}
use Rattle.iris_tree.specs.Document.{Edge, position, label, Place}

-- positions by number, labels in their order
abbrev pub edge_cmp : Edge → Edge → Ordering
edge_cmp (position i) (position j) = nat_cmp i j
edge_cmp (position i) (label m) = Less
edge_cmp (label l) (position j) = Greater
edge_cmp (label l) (label m) = label_cmp l m

-- places edge by edge
abbrev pub place_cmp : Place → Place → Ordering
place_cmp = slice_cmp edge_cmp

-- ---- places put in order, each once

-- a place before another one, in its stead, or among those after it
abbrev pub put_place : Ordering → Place → Place → List Place → List Place → List Place
put_place Less place other others more = place ∷ other ∷ others
put_place Equal place other others more = other ∷ others
put_place Greater place other others more = other ∷ more

-- places in order with one more, if it is not there yet
abbrev pub with_place : List Place → Place → List Place
with_place [] place = place ∷ []
with_place (other ∷ others) place = put_place (place_cmp place other) place other others (with_place others place)

-- places in order, each once
abbrev pub in_place_order : List Place → List Place
in_place_order places = fold with_place [] places
