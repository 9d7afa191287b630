use Rattle.std.proofs.Common.{◌≡◌, map, filter_map}
use Rattle.std.specs.Map.Iter.{deref_pair}
use Rattle.iris_fragment.specs.Stored.{entries_named}
use Rattle.iris_fragment.specs.Usable.{usable_piece}
use Rattle.iris_fragment.proofs.fragment.Fragment.usable_pieces.Given as goal

abbrev pub invariant-loop-name : goal.invariant-loop-name
invariant-loop-name l = l.pieces.items ≡ filter_map (usable_piece l.floor l.now) (entries_named (map deref_pair l.yielded))
