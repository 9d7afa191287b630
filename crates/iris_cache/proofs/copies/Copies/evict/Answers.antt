use Rattle.std.proofs.Common.{◌≤◌, length, subst}
use Rattle.iris_cache.specs.Stored.{Ordered}
use Rattle.iris_cache.proofs.Bounds.{fewer_left}
use Rattle.iris_cache.proofs.Completeness.{stays_evicted}
use Rattle.iris_cache.proofs.copies.Copies.evict.Goals as goal

pub invariant_of-self-2 : goal.invariant_of-self-2
invariant_of-self-2 c =
    stays_evicted c.self.inside.fragment c.evict.new.self c.self.inside.recency.order c.remove.new.self.order c.args.name.now c.keeps_shape.ensures.ordered c.self.invariant c.in_ok-left.ensures.ok c.remove.ensures.order

pub returns-clause-len : goal.returns-clause-len
returns-clause-len c = subst (λ (o : Ordered). length c.remove.new.self.order ≤ length o.recent.order) c.self.view_is (fewer_left c.self.inside.recency.order c.remove.new.self.order c.args.name.now c.remove.ensures.order)
