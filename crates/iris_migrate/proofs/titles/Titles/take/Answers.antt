use Rattle.std.proofs.Common.{◌∙◌, ◌-◌, subst, sym, ap, List}
use Rattle.iris_migrate.specs.declared.message.Message.{Message}
use Rattle.iris_migrate.specs.Messages.{asks_among}
use Rattle.iris_migrate.specs.Titles.{Seats, AreTitles, took, count_of}
use Rattle.iris_migrate.proofs.Kept.{titles_took}
use Rattle.iris_migrate.proofs.Noted.{told_here, told_elsewhere, told_ready}
use Rattle.iris_migrate.proofs.titles.Titles.take.Goals as goal

pub invariant_of-self : goal.invariant_of-self
invariant_of-self c =
    subst (λ (es : Seats). AreTitles es c.remove_all.new.self) (sym c.take-parked.ensures.seat)
    (titles_took _ _ _ _ _ _ c.self.invariant
    (λ ask. c.remove_all.ensures ask ∙ ap (λ (ms : List Message). count_of c.self.inside.asks ask - asks_among ask ms) (c.deref.ensures.value ∙ c.take-parked.ensures.parked)))

pub returns-clause-seat : goal.returns-clause-seat
returns-clause-seat c = told_here _ _ _ _ (λ s. took s c.args.handover.now.epoch c.args.handover.now.last) c.take-parked.ensures.seat c.self.view_is

pub returns-clause-others : goal.returns-clause-others
returns-clause-others c = told_elsewhere _ _ _ _ _ c.take-parked.ensures.seat c.self.view_is

pub returns-clause-ready : goal.returns-clause-ready
returns-clause-ready c = told_ready _ _ _ _ _ c.take-parked.ensures.seat c.self.view_is
