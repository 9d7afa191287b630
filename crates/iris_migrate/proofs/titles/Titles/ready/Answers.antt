use Rattle.std.proofs.Common.{◌∙◌, subst, sym, ap, refl}
use Rattle.iris_migrate.specs.Titles.{Seats, AreTitles, IsReady, seat_at}
use Rattle.iris_migrate.proofs.Kept.{titles_same}
use Rattle.iris_migrate.proofs.Noted.{ready_here, seat_again, told_ready}
use Rattle.iris_migrate.proofs.titles.Titles.ready.Goals as goal

pub invariant_of-self-2 : goal.invariant_of-self-2
invariant_of-self-2 c = subst (λ (es : Seats). AreTitles es c.self.inside.asks) (sym c.in_ok-ready.ensures.ok) (titles_same _ _ _ _ c.self.invariant refl)

pub returns-clause-ok : goal.returns-clause-ok
returns-clause-ok c = subst (λ (es : Seats). IsReady es c.args.name.now) (sym c.in_ok-ready.ensures.ok) (ready_here c.self.inside.seats c.args.name.now (seat_at c.self.inside.seats c.args.name.now))

pub returns-clause-seats : goal.returns-clause-seats
returns-clause-seats c = λ other.
    ap (λ (es : Seats). seat_at es other) c.in_ok-ready.ensures.ok ∙ seat_again c.self.inside.seats c.args.name.now other ∙ ap (λ (es : Seats). seat_at es other) c.self.view_is

pub returns-clause-ready : goal.returns-clause-ready
returns-clause-ready c = told_ready _ _ _ _ _ c.in_ok-ready.ensures.ok c.self.view_is
