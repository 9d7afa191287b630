use Rattle.std.proofs.Common.{◌∙◌, subst, sym, ap, Some}
use Rattle.iris_migrate.specs.Titles.{Seats, AreTitles, is_parked, seat_at, place_of}
use Rattle.iris_migrate.proofs.Kept.{titles_parked}
use Rattle.iris_migrate.proofs.Parking.{node_from_key}
use Rattle.iris_migrate.proofs.titles.Titles.park_new.Goals as goal

pub invariant_of-self-in_default : goal.invariant_of-self-in_default
invariant_of-self-in_default c =
    subst (λ (es : Seats). AreTitles es c.add.new.self) (sym c.in_default.ensures.ok)
    (titles_parked _ _ _ _ c.args.message c.args.key c.self.invariant (node_from_key c.args.message c.args.key c.requires.key) c.requires.key
    (ap (λ (es : Seats). is_parked (seat_at es (place_of c.args.message)) (Some c.args.key)) c.self.view_is ∙ c.requires.fresh) c.in_ok-add.ensures.ok)
