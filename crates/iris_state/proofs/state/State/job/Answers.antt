use Rattle.std.proofs.Common.{◌≡◌, true, None, refl, sym, ap, ◌∙◌, subst}
use Rattle.std.specs.Option.{option_map}
use Rattle.std.proofs.lemmas.Result.{on_ok_weaker, IfOk-weaker}
use Rattle.iris_agent.specs.Tables.{Tables, tables_of}
use Rattle.iris_gather.specs.Laid.{laid}
use Rattle.iris_gather.specs.OpenGathers.{is_due}
use Rattle.iris_runs.specs.Happenings.{lent_there}
use Rattle.iris_state.specs.Agents.{place_in}
use Rattle.iris_state.specs.City.{IsSteady}
use Rattle.iris_state.specs.Events.{job_at}
use Rattle.iris_state.specs.Whole.{Whole, world_of}
use Rattle.iris_state.specs.contracts.state.State.{the_view}
use Rattle.iris_state.proofs.AgentTables.{found_agent}
use Rattle.iris_state.proofs.DecidedAt.{due_here, due_there, agent_there}
use Rattle.iris_state.proofs.QuietEvents.{lent_one, job_id, steady_job}
use Rattle.iris_state.proofs.AgentEvents.{here_acted}
use Rattle.iris_state.proofs.state.State.job.Goals as goal

pub unreachable-requires : goal.unreachable-requires
unreachable-requires c =
    let none : place_in c.args.id c.args.self.now.agents ≡ None =
    ap (λ (o : Whole). place_in c.args.id o.agents) (sym c.self.view_is) ∙ ap (place_in c.args.id) (sym c.deref.ensures.value) ∙ sym c.place_of.ensures.place ∙ c.in_default.is in
    let no = due_here c.args.self.now c.args.id c.args.gather none in
    let due = c.requires.due in
    cc

pub job-requires : goal.job-requires
unfolding world_of
job-requires c =
    let found = found_agent c.self.inside.agents.items c.deref.result.now c.args.id c.in-Some.at c.index_mut.result.now c.deref.ensures.value c.in-Some.ensures.place c.in-Some.ensures.within c.index_mut.ensures.value in
    record { due = due_there (the_view c.self.inside) c.args.id c.in-Some.at c.args.gather c.index_mut.result.now found.0 found.1 (ap (λ (o : Whole). is_due (((world_of o).agent c.args.id).gather c.args.gather)) c.self.view_is ∙ c.requires.due) }

pub returns-clause-job : goal.returns-clause-job
unfolding world_of tables_of
returns-clause-job c =
    let found = found_agent c.self.inside.agents.items c.deref.result.now c.args.id c.in-Some.at c.index_mut.result.now c.deref.ensures.value c.in-Some.ensures.place c.in-Some.ensures.within c.index_mut.ensures.value in
    let agent = agent_there (the_view c.self.inside) c.args.id c.in-Some.at c.index_mut.result.now found.0 found.1 in
    IfOk-weaker c.job.result _ _ (λ job is.
    ap (λ (o : Whole). job_at (world_of o) c.args.id c.args.gather) (sym c.self.view_is)
    ∙ ap (λ (t : Tables). option_map (λ one. record { gather = c.args.gather; query = one.gather.query; start = one.gather.start; view = laid t.cache.contents one.gather.floor c.self.inside.turn.now one.gather.view }) (t.gather c.args.gather)) agent
    ∙ is)
    c.job.ensures.job

pub returns-clause-city : goal.returns-clause-city
returns-clause-city c =
    let found = found_agent c.self.inside.agents.items c.deref.result.now c.args.id c.in-Some.at c.index_mut.result.now c.deref.ensures.value c.in-Some.ensures.place c.in-Some.ensures.within c.index_mut.ensures.value in
    on_ok_weaker c.job.result (λ lent. lent_one (the_view c.self.inside) _ c.args.id c.in-Some.at c.args.gather true c.index_mut.result.now c.job.new.self found.0 found.1 lent refl
    ∙ ap (λ (o : Whole). lent_there (world_of o) c.args.id c.args.gather true) c.self.view_is) c.job.ensures.lent

pub returns-clause-steady : goal.returns-clause-steady
unfolding world_of
returns-clause-steady c =
    let found = found_agent c.self.inside.agents.items c.deref.result.now c.args.id c.in-Some.at c.index_mut.result.now c.deref.ensures.value c.in-Some.ensures.place c.in-Some.ensures.within c.index_mut.ensures.value in
    steady_job c.job.result (the_view c.self.inside) _ c.args.id c.in-Some.at c.args.gather c.index_mut.result.now c.job.new.self found.0 found.1
    (ap (λ (o : Whole). is_due (((world_of o).agent c.args.id).gather c.args.gather)) c.self.view_is ∙ c.requires.due) c.job.ensures.lent c.job.ensures.err refl (subst IsSteady (sym c.self.view_is) c.requires.steady)

pub returns-clause-here : goal.returns-clause-here
returns-clause-here c =
    let found = found_agent c.self.inside.agents.items c.deref.result.now c.args.id c.in-Some.at c.index_mut.result.now c.deref.ensures.value c.in-Some.ensures.place c.in-Some.ensures.within c.index_mut.ensures.value in
    here_acted (the_view c.self.inside) c.args.self.now _ c.in-Some.at c.index_mut.result.now c.job.new.self c.self.view_is found.1 (job_id c.job.result c.args.gather c.index_mut.result.now c.job.new.self c.job.ensures.lent c.job.ensures.err) refl
