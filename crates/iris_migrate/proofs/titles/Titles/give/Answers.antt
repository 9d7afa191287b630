use Rattle.std.proofs.Common.{subst, sym, refl}
use Rattle.iris_migrate.specs.Titles.{Seats, AreTitles, given}
use Rattle.iris_migrate.proofs.Kept.{titles_same}
use Rattle.iris_migrate.proofs.Noted.{told_here, told_elsewhere, told_ready}
use Rattle.iris_migrate.proofs.titles.Titles.give.Goals as goal

pub invariant_of-self : goal.invariant_of-self
invariant_of-self c = subst (λ (es : Seats). AreTitles es c.self.inside.asks) (sym c.give.ensures) (titles_same _ _ _ _ c.self.invariant refl)

pub returns-clause-seat : goal.returns-clause-seat
returns-clause-seat c = told_here _ _ _ _ (λ s. given s c.args.to c.args.epoch) c.give.ensures c.self.view_is

pub returns-clause-others : goal.returns-clause-others
returns-clause-others c = told_elsewhere _ _ _ _ _ c.give.ensures c.self.view_is

pub returns-clause-ready : goal.returns-clause-ready
returns-clause-ready c = told_ready _ _ _ _ _ c.give.ensures c.self.view_is
