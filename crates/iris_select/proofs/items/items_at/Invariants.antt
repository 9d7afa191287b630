use Rattle.std.proofs.Common.{◌≡◌, ◌++◌, map, drop}
use Rattle.iris_tree.specs.Items.{items_at}
use Rattle.iris_select.specs.Places.{edges_of}
use Rattle.iris_select.proofs.items.items_at.Given as goal

-- the items so far, and those at the places that are left, are all
abbrev pub invariant-loop-place : goal.invariant-loop-place
invariant-loop-place l =
    l.items.items ++ items_at l.tree (map edges_of (drop l.place-index l.places)) ≡ items_at l.tree (map edges_of l.places)
