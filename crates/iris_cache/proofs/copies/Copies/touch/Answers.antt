use Rattle.iris_cache.proofs.Completeness.{stays_used}
use Rattle.iris_cache.proofs.copies.Copies.touch.Goals as goal

pub invariant_of-self : goal.invariant_of-self
invariant_of-self c = stays_used c.self.inside.fragment c.self.inside.recency.order c.touch.new.self.order c.args.name.now c.self.invariant c.touch.ensures.order
