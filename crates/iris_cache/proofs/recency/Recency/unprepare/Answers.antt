use Rattle.std.proofs.Common.{◌≡◌, Some, None, sym, ap, subst, ◌∙◌, rules}
use Rattle.iris_cache.specs.Ready.{IsOrderly}
use Rattle.iris_cache.proofs.ReadyNames.{none_ready, given_up, seen, removed_once}
use Rattle.iris_cache.proofs.recency.Recency.unprepare.Goals as goal

pub invariant_of-self : goal.invariant_of-self
invariant_of-self c =
    let none : c.take.new.self ≡ None = search rules in
    subst (λ o. IsOrderly c.pop.new.self o) (sym none)
    (none_ready c.self.inside.names c.pop.new.self c.self.inside.ready c.self.invariant (removed_once c.self.inside.names c.pop.new.self c.in-Some.name c.self.invariant.once c.pop.ensures.entries) (search rules))

pub returns-in-Some : goal.returns-in-Some
returns-in-Some c =
    let was : c.self.inside.ready ≡ Some c.in-Some.name = search rules in
    let none : c.take.new.self ≡ None = search rules in
    ap (λ o. seen c.pop.new.self o) none ∙ given_up c.self.inside.names c.pop.new.self c.self.inside.ready c.args.self.now c.in-Some.name c.self.view_is c.self.invariant was c.pop.ensures.entries
