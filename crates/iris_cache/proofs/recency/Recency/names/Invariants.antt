use Rattle.std.proofs.Common.{◌≡◌, map}
use Rattle.std.specs.Map.Iter.{deref_pair}
use Rattle.iris_cache.specs.Ready.{order_among}
use Rattle.iris_cache.proofs.recency.Recency.names.Given as goal

abbrev pub invariant-loop-name : goal.invariant-loop-name
invariant-loop-name l = l.names.items ≡ order_among (map deref_pair l.yielded) l.self.ready
