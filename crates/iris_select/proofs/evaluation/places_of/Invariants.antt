use Rattle.std.proofs.Common.{◌≡◌, ◌++◌, map}
use Rattle.iris_select.specs.Selected.{place_of_selected}
use Rattle.iris_select.proofs.evaluation.places_of.Given as goal

-- those so far, and those that are left, are all
abbrev pub invariant-loop-selected : goal.invariant-loop-selected
invariant-loop-selected l = record {
  next : (goal.iterator-loop-selected).can_next l.selected-iterator;
  finite : (goal.iterator-loop-selected).is_finite l.selected-iterator;
  all : l.places.items ++ map place_of_selected l.selected-iterator.rest.items ≡ map place_of_selected l.fn.all.items;
}
