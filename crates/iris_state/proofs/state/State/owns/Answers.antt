use Rattle.std.proofs.Common.{sym, ap, ◌∙◌}
use Rattle.std.specs.Prelude.{is_some}
use Rattle.iris_agent.specs.Tables.{Tables, tables_of}
use Rattle.iris_state.specs.Whole.{Whole, world_of}
use Rattle.iris_state.specs.contracts.state.State.{the_view}
use Rattle.iris_state.proofs.AgentTables.{found_agent}
use Rattle.iris_state.proofs.DecidedAt.{agent_there}
use Rattle.iris_state.proofs.QuietEvents.{missing_here}
use Rattle.iris_state.proofs.state.State.owns.Goals as goal

pub unreachable-requires : goal.unreachable-requires
unreachable-requires c = missing_here (the_view c.self.inside) c.args.self.now c.args.id c.deref.result.now c.place_of.result c.self.view_is c.deref.ensures.value c.place_of.ensures.place c.in_default.is c.requires

pub returns : goal.returns
unfolding tables_of
returns c =
    let found = found_agent c.self.inside.agents.items c.deref.result.now c.args.id c.in-Some.at c.index.result.now c.deref.ensures.value c.in-Some.ensures.place c.in-Some.ensures.within c.index.ensures in
    let agent = agent_there (the_view c.self.inside) c.args.id c.in-Some.at c.index.result.now found.0 found.1 in
    c.owns.ensures ∙ ap (λ (t : Tables). is_some (t.seat c.args.name.now).last) (sym agent) ∙ ap (λ (o : Whole). is_some (((world_of o).agent c.args.id).seat c.args.name.now).last) c.self.view_is
