use Rattle.std.proofs.Common.{◌≤◌, List, length, ap, subst, ◌∙◌}
use Rattle.iris_base.specs.declared.name.Label.{Label}
use Rattle.iris_cache.specs.Order.{without}
use Rattle.iris_cache.specs.Stored.{Ordered}
use Rattle.iris_cache.proofs.Bounds.{fewer_left}
use Rattle.iris_cache.proofs.Completeness.{stays_owned}
use Rattle.iris_cache.proofs.copies.Copies.own.Goals as goal

pub invariant_of-self-2 : goal.invariant_of-self-2
invariant_of-self-2 c =
    stays_owned c.self.inside.fragment c.set_owned.new.self c.self.inside.recency.order c.remove.new.self.order c.args.piece c.requires.full c.self.invariant c.in_ok-set_owned.ensures.ok
    (c.remove.ensures.order ∙ ap (λ (n : List Label). without c.self.inside.recency.order n) c.in_ok-name.ensures)

pub returns-clause-len : goal.returns-clause-len
returns-clause-len c = subst (λ (o : Ordered). length c.remove.new.self.order ≤ length o.recent.order) c.self.view_is (fewer_left c.self.inside.recency.order c.remove.new.self.order c.in_ok-name.name c.remove.ensures.order)
