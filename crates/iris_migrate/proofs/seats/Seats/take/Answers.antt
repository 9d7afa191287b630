use Rattle.std.proofs.Common.{◌∙◌, ap, sym}
use Rattle.std.specs.Map.{set_value}
use Rattle.std.specs.Cmp.Lexicographic.{pointwise}
use Rattle.iris_base.specs.NameOrder.{label_eq}
use Rattle.iris_migrate.specs.Titles.{Seat, took}
use Rattle.iris_migrate.proofs.Noted.{put_told}
use Rattle.iris_migrate.proofs.seats.Seats.take.Goals as goal

pub returns-clause-seat : goal.returns-clause-seat
returns-clause-seat c =
    put_told _ _ _ _ c.in-Some.seat.now (λ s. took s c.args.epoch c.args.last)
    ((c.get_mut.follows.holds _).0 ∙ ap (λ (s : Seat). set_value (pointwise label_eq c.args.name.now) c.self.inside.map.entries s) c.take.ensures.seat)
    (sym c.in-Some.ensures.value) c.self.view_is
