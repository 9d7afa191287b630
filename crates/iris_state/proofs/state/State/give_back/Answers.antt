use Rattle.std.proofs.Common.{false, refl, sym, ap, ◌∙◌, subst}
use Rattle.iris_runs.specs.Happenings.{lent_there}
use Rattle.iris_state.specs.City.{IsSteady}
use Rattle.iris_state.specs.Whole.{Whole, world_of}
use Rattle.iris_state.specs.contracts.state.State.{the_view}
use Rattle.iris_state.proofs.AgentTables.{found_agent}
use Rattle.iris_state.proofs.QuietEvents.{lent_one, same_id, steady_back, missing_here}
use Rattle.iris_state.proofs.AgentEvents.{here_acted}
use Rattle.iris_state.proofs.state.State.give_back.Goals as goal

pub unreachable-requires : goal.unreachable-requires
unreachable-requires c = missing_here (the_view c.self.inside) c.args.self.now c.args.id c.deref.result.now c.place_of.result c.self.view_is c.deref.ensures.value c.place_of.ensures.place c.in_default.is c.requires.here

pub returns-clause-city : goal.returns-clause-city
returns-clause-city c =
    let found = found_agent c.self.inside.agents.items c.deref.result.now c.args.id c.in-Some.at c.index_mut.result.now c.deref.ensures.value c.in-Some.ensures.place c.in-Some.ensures.within c.index_mut.ensures.value in
    lent_one (the_view c.self.inside) _ c.args.id c.in-Some.at c.args.gather false c.index_mut.result.now c.give_back.new.self found.0 found.1 c.give_back.ensures refl
    ∙ ap (λ (o : Whole). lent_there (world_of o) c.args.id c.args.gather false) c.self.view_is

pub returns-clause-steady : goal.returns-clause-steady
returns-clause-steady c =
    let found = found_agent c.self.inside.agents.items c.deref.result.now c.args.id c.in-Some.at c.index_mut.result.now c.deref.ensures.value c.in-Some.ensures.place c.in-Some.ensures.within c.index_mut.ensures.value in
    steady_back (the_view c.self.inside) _ c.args.id c.in-Some.at c.args.gather c.index_mut.result.now c.give_back.new.self found.0 found.1 c.give_back.ensures refl (subst IsSteady (sym c.self.view_is) c.requires.steady)

pub returns-clause-here : goal.returns-clause-here
returns-clause-here c =
    let found = found_agent c.self.inside.agents.items c.deref.result.now c.args.id c.in-Some.at c.index_mut.result.now c.deref.ensures.value c.in-Some.ensures.place c.in-Some.ensures.within c.index_mut.ensures.value in
    here_acted (the_view c.self.inside) c.args.self.now _ c.in-Some.at c.index_mut.result.now c.give_back.new.self c.self.view_is found.1 (same_id c.index_mut.result.now c.give_back.new.self c.args.gather false c.give_back.ensures) refl
