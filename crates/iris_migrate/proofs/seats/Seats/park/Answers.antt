use Rattle.std.proofs.Common.{◌≡◌, ◌∙◌, ap, sym, subst, rules, List, [], Option, Some, unwrap_or}
use Rattle.std.specs.Map.{set_value}
use Rattle.std.specs.Cmp.Lexicographic.{pointwise}
use Rattle.iris_base.specs.declared.name.Label.{Label}
use Rattle.iris_base.specs.NameOrder.{label_eq}
use Rattle.iris_migrate.specs.Messages.{node_of}
use Rattle.iris_migrate.specs.Titles.{Seat, with_parked, with_seat, seat_at}
use Rattle.iris_migrate.proofs.Noted.{put_told, put_same}
use Rattle.iris_migrate.proofs.seats.Seats.park.Goals as goal

pub returns-in_err-park-2-clause-err : goal.returns-in_err-park-2-clause-err
returns-in_err-park-2-clause-err c =
    let same : (c.get_mut.follows.lender c.park-2.new.self).entries ≡ c.args.self.now = put_same _ c.self.inside.map.entries _ c.in-Some.name.now c.in-Some-get_mut.seat.now
    ((c.get_mut.follows.holds _).0 ∙ ap (λ (s : Seat). set_value (pointwise label_eq c.in-Some.name.now) c.self.inside.map.entries s) (c.in_err-park-2.ensures {u = tt}).err)
    (sym c.in-Some-get_mut.ensures.value) c.self.view_is in
    search rules

pub returns-clause-ok : goal.returns-clause-ok
returns-clause-ok c =
    let node : Some c.in-Some.name.now ≡ node_of c.args.message = c.in-Some.ensures in
    subst (λ (n : List Label). (c.get_mut.follows.lender c.park-2.new.self).entries ≡ with_seat c.args.self.now n (with_parked (seat_at c.args.self.now n) c.args.message)) (ap (λ (o : Option (List Label)). unwrap_or o []) node)
    (put_told _ c.self.inside.map.entries _ c.in-Some.name.now c.in-Some-get_mut.seat.now (λ s. with_parked s c.args.message)
    ((c.get_mut.follows.holds _).0 ∙ ap (λ (s : Seat). set_value (pointwise label_eq c.in-Some.name.now) c.self.inside.map.entries s) (c.in_ok-park-2.ensures {u = tt}).ok)
    (sym c.in-Some-get_mut.ensures.value) c.self.view_is)
