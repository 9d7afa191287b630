use Rattle.iris_cache.proofs.Completeness.{stays_renewed}
use Rattle.iris_cache.proofs.copies.Copies.renew.Goals as goal

pub invariant_of-self : goal.invariant_of-self
invariant_of-self c = stays_renewed c.self.inside.fragment c.renew.new.self c.self.inside.recency.order c.args.name.now c.args.local c.self.invariant c.renew.ensures.after
