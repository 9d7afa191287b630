use Rattle.std.proofs.Common.{subst}
use Rattle.iris_migrate.specs.Titles.{Seats, AreParked, seat_at}
use Rattle.iris_migrate.proofs.Kept.{parked_at}
use Rattle.iris_migrate.proofs.titles.Titles.keeps_parked.Goals as goal

pub returns : goal.returns
returns c = λ name. subst (λ (es : Seats). AreParked name (seat_at es name).parked) c.self.view_is (parked_at c.self.inside.seats name c.self.invariant.parked)
