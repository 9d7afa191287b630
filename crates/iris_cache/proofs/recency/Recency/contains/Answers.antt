use Rattle.std.proofs.Common.{◌≡◌, true, false, not, ◌&&◌, sym, ap, ◌∙◌, Bool, is_some}
use Rattle.std.specs.Map.{lookup}
use Rattle.iris_cache.proofs.Orders.{alike}
use Rattle.iris_cache.specs.Ready.{is_ready}
use Rattle.iris_cache.proofs.ReadyNames.{found_in_order}
use Rattle.iris_cache.proofs.recency.Recency.contains.Goals as goal

pub returns-then-contains : goal.returns-then-contains
returns-then-contains c =
    let there : is_some (lookup (alike c.args.name.now) c.self.inside.names.entries) ≡ true = sym c.contains.ensures ∙ c.if-contains.true in
    sym (found_in_order c.self.inside.names c.self.inside.ready c.args.self.now c.args.name.now c.self.view_is ∙ ap (λ (b : Bool). b && not (is_ready c.args.self.now.ready c.args.name.now)) there
    ∙ ap (λ (b : Bool). not b) (sym c.is_ready.ensures))

pub returns-else-contains : goal.returns-else-contains
returns-else-contains c =
    let absent : is_some (lookup (alike c.args.name.now) c.self.inside.names.entries) ≡ false = sym c.contains.ensures ∙ c.if-contains.false in
    c.if-contains.false
    ∙ sym (found_in_order c.self.inside.names c.self.inside.ready c.args.self.now c.args.name.now c.self.view_is ∙ ap (λ (b : Bool). b && not (is_ready c.args.self.now.ready c.args.name.now)) absent)
