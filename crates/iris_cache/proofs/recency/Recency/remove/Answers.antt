use Rattle.std.proofs.Common.{◌≡◌, true, false, sym, subst, rules}
use Rattle.iris_cache.specs.Ready.{Recent, is_ready}
use Rattle.iris_cache.proofs.ReadyNames.{removed_order, removed_orderly, ready_removed}
use Rattle.iris_cache.proofs.recency.Recency.remove.Goals as goal

pub invariant_of-self : goal.invariant_of-self
invariant_of-self c =
    let other : is_ready c.args.self.now.ready c.args.name.now ≡ false = search rules in
    removed_orderly c.self.inside.names c.pop.new.self c.self.inside.ready c.args.name.now c.self.invariant c.pop.ensures.entries
    (subst (λ (r : Recent). is_ready r.ready c.args.name.now ≡ false) (sym c.self.view_is) other)

pub returns-then-not-is_ready-clause-order : goal.returns-then-not-is_ready-clause-order
returns-then-not-is_ready-clause-order c =
    removed_order c.self.inside.names c.pop.new.self c.self.inside.ready c.args.self.now c.args.name.now c.self.view_is c.self.invariant c.pop.ensures.entries

pub returns-else-not-is_ready-clause-order : goal.returns-else-not-is_ready-clause-order
returns-else-not-is_ready-clause-order c =
    let same : is_ready c.args.self.now.ready c.args.name.now ≡ true = search rules in
    ready_removed c.self.inside.names c.self.inside.ready c.args.self.now c.args.name.now c.self.view_is same
