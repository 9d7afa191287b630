use Rattle.std.proofs.Common.{◌≡◌, ◌≤◌, ◌+◌, false, length, Bool, if◌then◌else◌, sym, ap, subst, ◌∙◌}
use Rattle.iris_cache.specs.Order.{Order, lists, in_front}
use Rattle.iris_cache.specs.Ready.{Recent}
use Rattle.iris_cache.specs.Stored.{Ordered}
use Rattle.iris_cache.proofs.ReadyNames.{admitted_front}
use Rattle.iris_cache.proofs.Bounds.{longer_moved}
use Rattle.iris_cache.proofs.Completeness.{stays_placed, stays_kept}
use Rattle.iris_cache.proofs.copies.Copies.take_in.Goals as goal

pub invariant_of-self-then-placed : goal.invariant_of-self-then-placed
invariant_of-self-then-placed c =
    let order : Order = c.self.inside.recency.order in
    let fresh : lists order c.args.piece.name ≡ false = sym c.contains.ensures ∙ c.if-contains.false in
    stays_placed c.self.inside.fragment c.take_in.new.self order c.admit.new.self.order c.args.piece (sym c.in_ok-placed.ensures.placed ∙ c.if-placed.true) c.self.invariant c.in_ok-placed.ensures.ok
    (admitted_front order c.prepare.new.self c.admit.new.self c.args.piece.name c.in_ok-prepare.ensures.ok c.admit.ensures fresh)

pub invariant_of-self-else-placed : goal.invariant_of-self-else-placed
invariant_of-self-else-placed c =
    stays_kept c.self.inside.fragment c.take_in.new.self c.self.inside.recency.order c.prepare.new.self.order c.args.piece (sym c.in_ok-placed.ensures.placed ∙ c.if-placed.false) c.self.invariant c.in_ok-placed.ensures.ok
    (ap (λ (r : Recent). r.order) c.in_ok-prepare.ensures.ok)

pub returns-then-placed-clause-order : goal.returns-then-placed-clause-order
returns-then-placed-clause-order c =
    let order : Order = c.self.inside.recency.order in
    let fresh : lists order c.args.piece.name ≡ false = sym c.contains.ensures ∙ c.if-contains.false in
    admitted_front order c.prepare.new.self c.admit.new.self c.args.piece.name c.in_ok-prepare.ensures.ok c.admit.ensures fresh
    ∙ ap (λ (o : Ordered). in_front o.recent.order c.args.piece.name) c.self.view_is
    ∙ ap (λ (b : Bool). if b then in_front c.args.self.now.recent.order c.args.piece.name else c.args.self.now.recent.order) (sym c.if-placed.true)

pub returns-then-placed-clause-len : goal.returns-then-placed-clause-len
returns-then-placed-clause-len c =
    let order : Order = c.self.inside.recency.order in
    let fresh : lists order c.args.piece.name ≡ false = sym c.contains.ensures ∙ c.if-contains.false in
    subst (λ (o : Ordered). length c.admit.new.self.order ≤ length o.recent.order + 1) c.self.view_is
    (longer_moved order c.admit.new.self.order c.args.piece.name (admitted_front order c.prepare.new.self c.admit.new.self c.args.piece.name c.in_ok-prepare.ensures.ok c.admit.ensures fresh))
