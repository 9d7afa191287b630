use Rattle.std.proofs.Common.{◌≡◌, true, false, rules}
use Rattle.iris_cache.specs.Ready.{is_ready}
use Rattle.iris_cache.proofs.ReadyNames.{promoted_order, promoted_orderly, ready_used, order_once}
use Rattle.iris_cache.proofs.Bounds.{length_used}
use Rattle.iris_cache.proofs.recency.Recency.touch.Goals as goal

pub invariant_of-self : goal.invariant_of-self
invariant_of-self c = promoted_orderly c.self.inside.names c.promote.new.self c.self.inside.ready c.args.name.now c.self.invariant c.promote.ensures.entries

pub returns-then-not-is_ready-clause-order : goal.returns-then-not-is_ready-clause-order
returns-then-not-is_ready-clause-order c =
    let other : is_ready c.args.self.now.ready c.args.name.now ≡ false = search rules in
    promoted_order c.self.inside.names c.promote.new.self c.self.inside.ready c.args.self.now c.args.name.now c.self.view_is c.self.invariant c.promote.ensures.entries other

pub returns-then-not-is_ready-clause-len : goal.returns-then-not-is_ready-clause-len
returns-then-not-is_ready-clause-len c =
    let other : is_ready c.args.self.now.ready c.args.name.now ≡ false = search rules in
    length_used c.args.self.now.order _ c.args.name.now (order_once c.self.inside.names c.self.inside.ready c.args.self.now c.self.view_is c.self.invariant)
    (promoted_order c.self.inside.names c.promote.new.self c.self.inside.ready c.args.self.now c.args.name.now c.self.view_is c.self.invariant c.promote.ensures.entries other)

pub returns-else-not-is_ready-clause-order : goal.returns-else-not-is_ready-clause-order
returns-else-not-is_ready-clause-order c =
    let same : is_ready c.args.self.now.ready c.args.name.now ≡ true = search rules in
    ready_used c.self.inside.names c.self.inside.ready c.args.self.now c.args.name.now c.self.view_is same
