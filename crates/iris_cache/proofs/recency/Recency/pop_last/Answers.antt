use Rattle.std.proofs.Common.{◌≡◌, Some, List, Option, option_map, sym, ap, ◌∙◌}
use Rattle.iris_base.specs.declared.name.Label.{Label}
use Rattle.iris_cache.specs.Order.{last_of, without_any}
use Rattle.iris_cache.specs.Ready.{Recent}
use Rattle.iris_cache.proofs.ReadyNames.{last_popped, popped_order, popped_orderly}
use Rattle.iris_cache.proofs.recency.Recency.pop_last.Goals as goal

pub invariant_of-self-2 : goal.invariant_of-self-2
invariant_of-self-2 c =
    popped_orderly c.self.inside.names c.pop_lru.new.self c.self.inside.ready c.unprepare.new.self c.self.view_is (ap (λ (r : Recent). r.ready) c.unprepare.ensures) c.self.invariant c.pop_lru.ensures.entries

pub returns-clause-last : goal.returns-clause-last
returns-clause-last c =
    ap (λ (o : Option (List Label × Unit {0})). option_map (λ e. e.0) o) (sym c.in_ok-name.was ∙ c.pop_lru.ensures.value)
    ∙ last_popped c.self.inside.names c.self.inside.ready c.unprepare.new.self c.self.view_is (ap (λ (r : Recent). r.ready) c.unprepare.ensures)
    ∙ ap (λ (r : Recent). last_of r.order) c.unprepare.ensures

pub returns-clause-order : goal.returns-clause-order
returns-clause-order c =
    let last : Some c.in_ok-name.name ≡ last_of c.unprepare.new.self.order =
    ap (λ (o : Option (List Label × Unit {0})). option_map (λ e. e.0) o) (sym c.in_ok-name.was ∙ c.pop_lru.ensures.value)
    ∙ last_popped c.self.inside.names c.self.inside.ready c.unprepare.new.self c.self.view_is (ap (λ (r : Recent). r.ready) c.unprepare.ensures) in
    popped_order c.self.inside.names c.pop_lru.new.self c.self.inside.ready c.unprepare.new.self c.self.view_is (ap (λ (r : Recent). r.ready) c.unprepare.ensures) c.self.invariant c.pop_lru.ensures.entries
    ∙ ap (λ (o : Option (List Label)). without_any c.unprepare.new.self.order o) (sym last) ∙ ap (λ (r : Recent). without_any r.order (Some c.in_ok-name.name)) c.unprepare.ensures
