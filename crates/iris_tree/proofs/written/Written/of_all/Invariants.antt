use Rattle.std.proofs.Common.{◌≡◌, ◌++◌, length}
use Rattle.std.specs.Vec.Iter.{into_iter_items, into_iter_len}
use Rattle.iris_tree.proofs.written.Written.of_all.Given as goal

abbrev pub invariant-loop-element : goal.invariant-loop-element
invariant-loop-element l = (l.written.items ++ into_iter_items l.element-iterator ≡ into_iter_items l.initial.element-iterator) × (into_iter_len l.element-iterator ≡ length (into_iter_items l.element-iterator))
