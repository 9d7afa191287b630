use Rattle.std.proofs.Common.{◌≡◌, true, Bool, List, if◌then◌else◌, refl, sym, ap, subst, ◌∙◌}
use Rattle.iris_base.specs.declared.name.Label.{Label}
use Rattle.iris_cache.specs.Order.{Order, lists, in_front}
use Rattle.iris_cache.specs.Recency.{is_complete}
use Rattle.iris_cache.specs.Stored.{Ordered}
use Rattle.iris_cache.proofs.Completeness.{stays_placed, stays_kept}
use Rattle.iris_cache.proofs.copies.Copies.replace.Goals as goal

pub invariant_of-self-then-placed : goal.invariant_of-self-then-placed
invariant_of-self-then-placed c =
    let order : Order = c.self.inside.recency.order in
    let name : List Label = c.args.piece.name in
    let listed : lists order name ≡ true = c.self.invariant name ∙ subst (λ (o : Ordered). is_complete o.contents name ≡ true) (sym c.self.view_is) c.requires in
    let used : c.touch.new.self.order ≡ (if lists order name then in_front order name else order) =
    subst (λ (n : List Label). c.touch.new.self.order ≡ (if lists order n then in_front order n else order)) c.in_ok-name.ensures c.touch.ensures.order in
    stays_placed c.self.inside.fragment c.take_in.new.self order c.touch.new.self.order c.args.piece (sym c.in_ok-placed.ensures.placed ∙ c.if-placed.true) c.self.invariant c.in_ok-placed.ensures.ok
    (used ∙ ap (λ (b : Bool). if b then in_front order name else order) listed)

pub invariant_of-self-else-placed : goal.invariant_of-self-else-placed
invariant_of-self-else-placed c =
    stays_kept c.self.inside.fragment c.take_in.new.self c.self.inside.recency.order c.self.inside.recency.order c.args.piece (sym c.in_ok-placed.ensures.placed ∙ c.if-placed.false) c.self.invariant c.in_ok-placed.ensures.ok refl
