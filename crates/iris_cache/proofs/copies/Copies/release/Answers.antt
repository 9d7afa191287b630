use Rattle.std.proofs.Common.{◌≤◌, ◌+◌, length, ap, subst, ◌∙◌}
use Rattle.iris_cache.specs.Order.{Order, in_front}
use Rattle.iris_cache.specs.Stored.{Ordered}
use Rattle.iris_cache.proofs.ReadyNames.{admitted_front}
use Rattle.iris_cache.proofs.Bounds.{longer_moved}
use Rattle.iris_cache.proofs.Completeness.{stays_released, owned_absent, owned_inside}
use Rattle.iris_cache.proofs.copies.Copies.release.Goals as goal

pub prepare-requires : goal.prepare-requires
prepare-requires c = owned_absent c.self.inside.fragment c.self.inside.recency.order c.args.name.now c.self.invariant (owned_inside c.self.inside.fragment c.self.inside.recency c.args.self.now c.args.name.now c.self.view_is c.requires)

pub invariant_of-self-2 : goal.invariant_of-self-2
invariant_of-self-2 c =
    let order : Order = c.self.inside.recency.order in
    let owns = owned_inside c.self.inside.fragment c.self.inside.recency c.args.self.now c.args.name.now c.self.view_is c.requires in
    let fresh = owned_absent c.self.inside.fragment order c.args.name.now c.self.invariant owns in
    stays_released c.self.inside.fragment c.release.new.self order c.admit.new.self.order c.args.name.now c.args.now owns c.self.invariant c.release.ensures.after
    (admitted_front order c.prepare.new.self c.admit.new.self c.args.name.now c.in_ok-prepare.ensures.ok c.admit.ensures fresh)

pub returns-clause-order : goal.returns-clause-order
returns-clause-order c =
    let order : Order = c.self.inside.recency.order in
    let owns = owned_inside c.self.inside.fragment c.self.inside.recency c.args.self.now c.args.name.now c.self.view_is c.requires in
    let fresh = owned_absent c.self.inside.fragment order c.args.name.now c.self.invariant owns in
    admitted_front order c.prepare.new.self c.admit.new.self c.args.name.now c.in_ok-prepare.ensures.ok c.admit.ensures fresh ∙ ap (λ (o : Ordered). in_front o.recent.order c.args.name.now) c.self.view_is

pub returns-clause-len : goal.returns-clause-len
returns-clause-len c =
    let order : Order = c.self.inside.recency.order in
    let owns = owned_inside c.self.inside.fragment c.self.inside.recency c.args.self.now c.args.name.now c.self.view_is c.requires in
    let fresh = owned_absent c.self.inside.fragment order c.args.name.now c.self.invariant owns in
    subst (λ (o : Ordered). length c.admit.new.self.order ≤ length o.recent.order + 1) c.self.view_is
    (longer_moved order c.admit.new.self.order c.args.name.now (admitted_front order c.prepare.new.self c.admit.new.self c.args.name.now c.in_ok-prepare.ensures.ok c.admit.ensures fresh))
