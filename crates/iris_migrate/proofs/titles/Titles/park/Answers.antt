use Rattle.std.proofs.Common.{◌≡◌, ◌∙◌, sym, ap, refl, false, List, [], Option, Some, unwrap_or}
use Rattle.iris_base.specs.declared.name.Label.{Label}
use Rattle.iris_migrate.specs.Messages.{node_of, key_of}
use Rattle.iris_migrate.specs.Titles.{Seats, is_parked, seat_at, place_of, with_parked}
use Rattle.iris_migrate.proofs.Noted.{seat_here, told_elsewhere, told_ready}
use Rattle.iris_migrate.proofs.Parking.{parking_new}
use Rattle.iris_migrate.proofs.titles.Titles.park.Goals as goal

pub returns-clause-seat : goal.returns-clause-seat
returns-clause-seat c =
    let place : (node_of c.args.message ≡ Some c.in-Some.name.now) × (key_of c.args.message ≡ Some c.in-Some.key) = c.in-Some.ensures in
    let fresh : is_parked (seat_at c.args.self.now (place_of c.args.message)) (Some c.in-Some.key) ≡ false =
    ap (λ (n : List Label). is_parked (seat_at c.args.self.now n) (Some c.in-Some.key)) (ap (λ (o : Option (List Label)). unwrap_or o []) place.0)
    ∙ sym c.parks.ensures ∙ c.if-parks.false in
    ap (λ (es : Seats). seat_at es (place_of c.args.message)) c.in_ok-park_new.ensures.ok ∙ seat_here c.args.self.now (place_of c.args.message) (with_parked (seat_at c.args.self.now (place_of c.args.message)) c.args.message)
    ∙ sym (parking_new (seat_at c.args.self.now (place_of c.args.message)) c.args.message c.in-Some.key place.1 fresh)

pub returns-clause-others : goal.returns-clause-others
returns-clause-others c = told_elsewhere _ _ _ _ _ c.in_ok-park_new.ensures.ok refl

pub returns-clause-ready : goal.returns-clause-ready
returns-clause-ready c = told_ready _ _ _ _ _ c.in_ok-park_new.ensures.ok refl
