use Rattle.std.proofs.Common.{◌≡◌, drop, map}
use Rattle.iris_tree.specs.Document.{part_at_place}
use Rattle.iris_select.specs.Parts.{edge_of, part_of, part_below}
use Rattle.iris_select.proofs.spot.Spot.find.Given as goal

-- what is left leads from here to what all of it leads to
abbrev pub invariant-loop-edge : goal.invariant-loop-edge
invariant-loop-edge l = part_below l.top (part_of l.spot) (map edge_of (drop l.edge-index l.edges)) ≡ part_at_place l.top (map edge_of l.edges)
