use Rattle.std.proofs.Common.{rules, ◌≡◌, None, sym, ap, ◌∙◌}
use Rattle.std.specs.Prelude.{is_some}
use Rattle.iris_route.specs.Titles.{title_at}
use Rattle.iris_state.specs.Whole.{Whole}
use Rattle.iris_state.specs.contracts.state.State.{the_view}
use Rattle.iris_state.proofs.Giving.{next_move_is}
use Rattle.iris_state.proofs.state.State.next_move.Goals as goal

pub unreachable-requires : goal.unreachable-requires
unreachable-requires c =
    let none : title_at c.args.self.now.registry c.args.name.now ≡ None = ap (λ (o : Whole). title_at o.registry c.args.name.now) (sym c.self.view_is) ∙ sym c.owner.ensures ∙ c.in_default.is in
    let not_there = ap is_some none in
    let there = c.requires in
    cc

pub returns : goal.returns
returns c =
    next_move_is (the_view c.self.inside) c.args.self.now c.args.name.now c.in_ok-copy.field-0 c.args.to c.owner.result c.in-Some.title c.in-Some-checked_add.epoch c.self.view_is c.owner.ensures c.in-Some.is c.in_ok-copy.ensures
    (search rules)
