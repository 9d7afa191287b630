use Rattle.std.proofs.Common.{◌≡◌, ◌<◌, true, false, subst, List, Some, arith}
use Rattle.std.proofs.lemmas.Bool.{ltb-true, ltb-false}
use Rattle.iris_base.specs.declared.name.Label.{Label}
use Rattle.iris_migrate.specs.declared.key.Key.TheVariants as keys
use Rattle.iris_migrate.specs.Titles.{Seats, seat_at, is_parked, parked_asks}
use Rattle.iris_migrate.proofs.Kept.{some_parked, none_parked}
use Rattle.iris_migrate.proofs.titles.Titles.is_asked.Goals as goal

pub returns-clause-yes : goal.returns-clause-yes
returns-clause-yes c = λ h.
    let counted : 0 < parked_asks c.args.ask c.self.inside.seats = omega (arith, ltb-true 0 c.count.result h, c.count.ensures, c.self.invariant.counted c.args.ask) in
    subst (λ (es : Seats). (name : List Label) × (is_parked (seat_at es name) (Some (keys.Ask c.args.ask)) ≡ true)) c.self.view_is
    (some_parked c.args.ask c.self.inside.seats c.stand_once.ensures counted)

pub returns-clause-no : goal.returns-clause-no
returns-clause-no c = λ h name.
    let none : parked_asks c.args.ask c.self.inside.seats ≡ 0 = omega (arith, ltb-false 0 c.count.result h, c.count.ensures, c.self.invariant.counted c.args.ask) in
    subst (λ (es : Seats). is_parked (seat_at es name) (Some (keys.Ask c.args.ask)) ≡ false) c.self.view_is (none_parked c.args.ask c.self.inside.seats name none)
