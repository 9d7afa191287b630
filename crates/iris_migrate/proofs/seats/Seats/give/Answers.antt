use Rattle.std.proofs.Common.{◌∙◌, ap, sym}
use Rattle.std.specs.Map.{set_value}
use Rattle.std.specs.Cmp.Lexicographic.{pointwise}
use Rattle.iris_base.specs.NameOrder.{label_eq}
use Rattle.iris_migrate.specs.Titles.{Seat, given}
use Rattle.iris_migrate.proofs.Noted.{put_told}
use Rattle.iris_migrate.proofs.seats.Seats.give.Goals as goal

pub returns : goal.returns
returns c =
    put_told _ _ _ _ c.in-Some.seat.now (λ s. given s c.args.to c.args.epoch)
    ((c.get_mut.follows.holds _).0 ∙ ap (λ (s : Seat). set_value (pointwise label_eq c.args.name.now) c.self.inside.map.entries s) c.give.ensures)
    (sym c.in-Some.ensures.value) c.self.view_is
