use Rattle.std.proofs.Common.{◌∙◌, ap, sym}
use Rattle.std.specs.Map.{set_value}
use Rattle.std.specs.Cmp.Lexicographic.{pointwise}
use Rattle.iris_base.specs.NameOrder.{label_eq}
use Rattle.iris_migrate.specs.Titles.{Seat, with_last}
use Rattle.iris_migrate.proofs.Noted.{put_told}
use Rattle.iris_migrate.proofs.seats.Seats.set_last.Goals as goal

pub returns : goal.returns
returns c =
    put_told _ _ _ _ c.in-Some.seat.now (λ s. with_last s c.args.number)
    ((c.get_mut.follows.holds _).0 ∙ ap (λ (s : Seat). set_value (pointwise label_eq c.args.name.now) c.self.inside.map.entries s) c.set_last.ensures)
    (sym c.in-Some.ensures.value) c.self.view_is
