use Rattle.std.proofs.Common.{◌≡◌, Some, None, sym, subst, ap, ◌∙◌, rules}
use Rattle.iris_cache.specs.Ready.{IsOrderly}
use Rattle.iris_cache.proofs.ReadyNames.{promoted_orderly, none_ready, admitted, seen}
use Rattle.iris_cache.proofs.recency.Recency.admit.Goals as goal

pub invariant_of-self : goal.invariant_of-self
invariant_of-self c =
    let then = promoted_orderly c.self.inside.names c.promote.new.self c.self.inside.ready c.in-Some.name c.self.invariant c.promote.ensures.entries in
    let none : c.take.new.self ≡ None = search rules in
    subst (λ o. IsOrderly c.promote.new.self o) (sym none) (none_ready c.promote.new.self c.promote.new.self c.self.inside.ready then then.once (search rules))

pub returns-in-Some : goal.returns-in-Some
returns-in-Some c =
    let was : c.self.inside.ready ≡ Some c.in-Some.name = search rules in
    let none : c.take.new.self ≡ None = search rules in
    ap (λ o. seen c.promote.new.self o) none ∙ admitted c.self.inside.names c.promote.new.self c.self.inside.ready c.args.self.now c.in-Some.name c.self.view_is c.self.invariant was c.promote.ensures.entries
