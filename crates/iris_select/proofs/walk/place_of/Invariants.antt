use Rattle.std.proofs.Common.{◌≡◌, ◌++◌, drop}
use Rattle.iris_select.specs.Parts.{place_at}
use Rattle.iris_select.specs.Walking.{labels_in, positions_in}
use Rattle.iris_select.proofs.walk.place_of.Given as goal

-- those so far, and those that are left, are all
abbrev pub invariant-loop-edge : goal.invariant-loop-edge
invariant-loop-edge l = record {
  name : l.name ++ labels_in (place_at (drop l.edge-index l.trail)) ≡ labels_in (place_at l.trail);
  path : l.path ++ positions_in (place_at (drop l.edge-index l.trail)) ≡ positions_in (place_at l.trail);
}
