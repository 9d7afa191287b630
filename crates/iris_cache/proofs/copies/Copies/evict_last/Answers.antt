use Rattle.std.proofs.Common.{◌≡◌, true, Option, List, sym, ap, ◌∙◌}
use Rattle.iris_base.specs.declared.name.Label.{Label}
use Rattle.iris_cache.specs.Order.{last_of}
use Rattle.iris_cache.specs.Recency.{is_complete, contents_without}
use Rattle.iris_cache.specs.Stored.{Ordered}
use Rattle.iris_cache.proofs.Orders.{listed_last}
use Rattle.iris_cache.proofs.Completeness.{stays_evicted, evict_done}
use Rattle.iris_cache.proofs.copies.Copies.evict_last.Goals as goal

pub invariant_of-self : goal.invariant_of-self
invariant_of-self c =
    let complete : is_complete c.self.inside.fragment c.in-Some.name ≡ true =
    sym (c.self.invariant c.in-Some.name) ∙ listed_last c.self.inside.recency.order c.in-Some.name (sym c.in-Some.ensures.last) in
    let after = evict_done c.self.inside.fragment c.evict.new.self c.in-Some.name c.evict.result complete c.evict.ensures.answer c.evict.ensures.ok in
    stays_evicted c.self.inside.fragment c.evict.new.self c.self.inside.recency.order c.pop_last.new.self.order c.in-Some.name c.keeps_shape.ensures.ordered c.self.invariant after c.in-Some.ensures.order

pub returns-in-Some-clause-contents : goal.returns-in-Some-clause-contents
returns-in-Some-clause-contents c =
    let complete : is_complete c.self.inside.fragment c.in-Some.name ≡ true =
    sym (c.self.invariant c.in-Some.name) ∙ listed_last c.self.inside.recency.order c.in-Some.name (sym c.in-Some.ensures.last) in
    evict_done c.self.inside.fragment c.evict.new.self c.in-Some.name c.evict.result complete c.evict.ensures.answer c.evict.ensures.ok
    ∙ ap (λ (o : Option (List Label)). contents_without c.self.inside.fragment o) c.in-Some.ensures.last
    ∙ ap (λ (o : Ordered). contents_without o.contents (last_of o.recent.order)) c.self.view_is
