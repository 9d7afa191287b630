use Rattle.std.proofs.Common.{◌≡◌, ◌++◌}
use Rattle.std.specs.List.{filter_map}
use Rattle.iris_select.specs.Selected.{selected_item}
use Rattle.iris_select.proofs.evaluation.items_of.Given as goal

-- those so far, and those of the places that are left, are all
abbrev pub invariant-loop-selected : goal.invariant-loop-selected
invariant-loop-selected l = record {
  next : (goal.iterator-loop-selected).can_next l.selected-iterator;
  finite : (goal.iterator-loop-selected).is_finite l.selected-iterator;
  all : l.items.items ++ filter_map selected_item l.selected-iterator.rest.items ≡ filter_map selected_item l.fn.all.items;
}
