use Rattle.std.proofs.Common.{refl, sym, ap, ◌∙◌, subst}
use Rattle.std.proofs.lemmas.Result.{on_ok_weaker}
use Rattle.iris_fragment.specs.Changes.{evict_answer, has_child}
use Rattle.iris_fragment.specs.Contents.{status}
use Rattle.iris_agent.specs.Tables.{Tables, tables_of}
use Rattle.iris_runs.specs.Happenings.{evicted_at}
use Rattle.iris_state.specs.City.{IsSteady}
use Rattle.iris_state.specs.Whole.{Whole, world_of}
use Rattle.iris_state.specs.contracts.state.State.{the_view}
use Rattle.iris_state.proofs.AgentTables.{found_agent}
use Rattle.iris_state.proofs.DecidedAt.{agent_there}
use Rattle.iris_state.proofs.QuietEvents.{evict_id, evicted_one, steady_evict, missing_here}
use Rattle.iris_state.proofs.AgentEvents.{here_acted}
use Rattle.iris_state.proofs.state.State.evict.Goals as goal

pub unreachable-requires : goal.unreachable-requires
unreachable-requires c = missing_here (the_view c.self.inside) c.args.self.now c.args.id c.deref.result.now c.place_of.result c.self.view_is c.deref.ensures.value c.place_of.ensures.place c.in_default.is c.requires.here

pub returns-clause-answer : goal.returns-clause-answer
unfolding tables_of
returns-clause-answer c =
    let found = found_agent c.self.inside.agents.items c.deref.result.now c.args.id c.in-Some.at c.index_mut.result.now c.deref.ensures.value c.in-Some.ensures.place c.in-Some.ensures.within c.index_mut.ensures.value in
    let agent = agent_there (the_view c.self.inside) c.args.id c.in-Some.at c.index_mut.result.now found.0 found.1 in
    let answer = (λ (t : Tables). evict_answer (status t.cache.contents c.args.name.now) (has_child t.cache.contents.nodes c.args.name.now)) in
    c.evict.ensures.answer ∙ ap answer (sym agent) ∙ ap (λ (o : Whole). answer ((world_of o).agent c.args.id)) c.self.view_is

pub returns-clause-city : goal.returns-clause-city
returns-clause-city c =
    let found = found_agent c.self.inside.agents.items c.deref.result.now c.args.id c.in-Some.at c.index_mut.result.now c.deref.ensures.value c.in-Some.ensures.place c.in-Some.ensures.within c.index_mut.ensures.value in
    on_ok_weaker c.evict.result (λ has. evicted_one (the_view c.self.inside) _ c.args.id c.in-Some.at c.args.name.now c.index_mut.result.now c.evict.new.self found.0 found.1 has refl
    ∙ ap (λ (o : Whole). evicted_at (world_of o) c.args.id c.args.name.now) c.self.view_is) c.evict.ensures.ok

pub returns-clause-steady : goal.returns-clause-steady
returns-clause-steady c =
    let found = found_agent c.self.inside.agents.items c.deref.result.now c.args.id c.in-Some.at c.index_mut.result.now c.deref.ensures.value c.in-Some.ensures.place c.in-Some.ensures.within c.index_mut.ensures.value in
    steady_evict c.evict.result (the_view c.self.inside) _ c.args.id c.in-Some.at c.args.name.now (has_child c.index_mut.result.now.cache.contents.nodes c.args.name.now) c.index_mut.result.now c.evict.new.self found.0 found.1 c.evict.ensures.answer c.evict.ensures.ok c.evict.ensures.err refl
    (subst IsSteady (sym c.self.view_is) c.requires.steady)

pub returns-clause-here : goal.returns-clause-here
returns-clause-here c =
    let found = found_agent c.self.inside.agents.items c.deref.result.now c.args.id c.in-Some.at c.index_mut.result.now c.deref.ensures.value c.in-Some.ensures.place c.in-Some.ensures.within c.index_mut.ensures.value in
    here_acted (the_view c.self.inside) c.args.self.now _ c.in-Some.at c.index_mut.result.now c.evict.new.self c.self.view_is found.1 (evict_id c.evict.result c.args.name.now c.index_mut.result.now c.evict.new.self c.evict.ensures.ok c.evict.ensures.err) refl
