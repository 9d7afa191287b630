use Rattle.iris_state.specs.contracts.state.State.{the_view}
use Rattle.iris_state.proofs.AgentTables.{found_agent}
use Rattle.iris_state.proofs.DueGathers.{lowest_there, none_there}
use Rattle.iris_state.proofs.QuietEvents.{missing_here}
use Rattle.iris_state.proofs.state.State.lowest_due.Goals as goal

pub unreachable-requires : goal.unreachable-requires
unreachable-requires c = missing_here (the_view c.self.inside) c.args.self.now c.args.id c.deref.result.now c.place_of.result c.self.view_is c.deref.ensures.value c.place_of.ensures.place c.in_default.is c.requires

pub returns-clause-some : goal.returns-clause-some
returns-clause-some c =
    let found = found_agent c.self.inside.agents.items c.deref.result.now c.args.id c.in-Some.at c.index.result.now c.deref.ensures.value c.in-Some.ensures.place c.in-Some.ensures.within c.index.ensures in
    lowest_there (the_view c.self.inside) c.args.self.now c.args.id c.in-Some.at c.index.result.now c.due.result c.self.view_is found.0 found.1 c.due.ensures

pub returns-clause-none : goal.returns-clause-none
returns-clause-none c =
    let found = found_agent c.self.inside.agents.items c.deref.result.now c.args.id c.in-Some.at c.index.result.now c.deref.ensures.value c.in-Some.ensures.place c.in-Some.ensures.within c.index.ensures in
    none_there (the_view c.self.inside) c.args.self.now c.args.id c.in-Some.at c.index.result.now c.due.result c.self.view_is found.0 found.1 c.due.ensures
