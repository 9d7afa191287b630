use Rattle.std.proofs.Common.{◌≡◌, None, arith, refl, sym, ap, ◌∙◌, subst}
use Rattle.iris_gather.specs.OpenGathers.{is_due}
use Rattle.iris_state.specs.Agents.{place_in}
use Rattle.iris_state.specs.City.{IsSteady}
use Rattle.iris_state.specs.Events.{HasDecidedAt}
use Rattle.iris_state.specs.Whole.{Whole, world_of}
use Rattle.iris_state.specs.contracts.state.State.{the_view}
use Rattle.iris_state.proofs.AgentEvents.{here_acted, on_err, unacted}
use Rattle.iris_state.proofs.AgentTables.{found_agent}
use Rattle.iris_state.proofs.ChangedAgent.{set_there}
use Rattle.iris_state.proofs.DecidedAt.{due_here, due_there, ready_of_due, agent_there, decided_at, decided_room, kept_id, steady_decided}
use Rattle.iris_state.proofs.MayHere.{free_asks_here, starts_here, routed_here}
use Rattle.iris_state.proofs.SteadyCities.{steady_same}
use Rattle.iris_state.proofs.state.State.decide.Goals as goal

pub unreachable-requires : goal.unreachable-requires
unreachable-requires c =
    let none : place_in c.args.id c.args.self.now.agents ≡ None =
    ap (λ (o : Whole). place_in c.args.id o.agents) (sym c.self.view_is) ∙ ap (place_in c.args.id) (sym c.deref.ensures.value) ∙ sym c.place_of.ensures.place ∙ c.in_default.is in
    let no = due_here c.args.self.now c.args.id c.args.gather none in
    let due = c.requires.due in
    cc

-- ---- where there was no memory

pub returns-in_err-reserve-clause-err : goal.returns-in_err-reserve-clause-err
returns-in_err-reserve-clause-err c =
    on_err c.from_residual.result (unacted (the_view c.self.inside) _ refl refl refl c.reserve.ensures.history ∙ ap world_of c.self.view_is)

pub returns-in_err-reserve-clause-steady : goal.returns-in_err-reserve-clause-steady
returns-in_err-reserve-clause-steady c =
    steady_same (the_view c.self.inside) _ (unacted (the_view c.self.inside) _ refl refl refl c.reserve.ensures.history) refl (subst IsSteady (sym c.self.view_is) c.requires.steady)

pub returns-in_err-steps-clause-err : goal.returns-in_err-steps-clause-err
returns-in_err-steps-clause-err c =
    let found = found_agent c.self.inside.agents.items c.deref.result.now c.args.id c.in-Some.at c.index_mut.result.now c.deref.ensures.value c.in-Some.ensures.place c.in-Some.ensures.within c.index_mut.ensures.value in
    on_err c.from_residual-in_err-steps.result (unacted (the_view c.self.inside) _ refl (set_there c.self.inside.agents.items c.in-Some.at _ c.decide.new.self found.1 c.in_err-steps.ensures.err) c.in_err-steps.ensures.turn c.reserve.ensures.history ∙ ap world_of c.self.view_is)

pub returns-in_err-steps-clause-steady : goal.returns-in_err-steps-clause-steady
returns-in_err-steps-clause-steady c =
    let found = found_agent c.self.inside.agents.items c.deref.result.now c.args.id c.in-Some.at c.index_mut.result.now c.deref.ensures.value c.in-Some.ensures.place c.in-Some.ensures.within c.index_mut.ensures.value in
    let agents = set_there c.self.inside.agents.items c.in-Some.at _ c.decide.new.self found.1 c.in_err-steps.ensures.err in
    steady_same (the_view c.self.inside) _ (unacted (the_view c.self.inside) _ refl agents c.in_err-steps.ensures.turn c.reserve.ensures.history) agents (subst IsSteady (sym c.self.view_is) c.requires.steady)

-- ---- what the agent's call asks for

pub decide-requires-clause-due : goal.decide-requires-clause-due
unfolding world_of
decide-requires-clause-due c =
    let found = found_agent c.self.inside.agents.items c.deref.result.now c.args.id c.in-Some.at c.index_mut.result.now c.deref.ensures.value c.in-Some.ensures.place c.in-Some.ensures.within c.index_mut.ensures.value in
    due_there (the_view c.self.inside) c.args.id c.in-Some.at c.args.gather c.index_mut.result.now found.0 found.1 (ap (λ (o : Whole). is_due (((world_of o).agent c.args.id).gather c.args.gather)) c.self.view_is ∙ c.requires.due)

pub decide-requires-clause-start : goal.decide-requires-clause-start
unfolding world_of
decide-requires-clause-start c =
    let found = found_agent c.self.inside.agents.items c.deref.result.now c.args.id c.in-Some.at c.index_mut.result.now c.deref.ensures.value c.in-Some.ensures.place c.in-Some.ensures.within c.index_mut.ensures.value in
    let steady = subst IsSteady (sym c.self.view_is) c.requires.steady in
    starts_here (world_of (the_view c.self.inside)) steady.past c.args.id c.index_mut.result.now c.args.gather steady.good (agent_there (the_view c.self.inside) c.args.id c.in-Some.at c.index_mut.result.now found.0 found.1)

pub decide-requires-clause-fresh : goal.decide-requires-clause-fresh
unfolding world_of
decide-requires-clause-fresh c =
    let found = found_agent c.self.inside.agents.items c.deref.result.now c.args.id c.in-Some.at c.index_mut.result.now c.deref.ensures.value c.in-Some.ensures.place c.in-Some.ensures.within c.index_mut.ensures.value in
    let steady = subst IsSteady (sym c.self.view_is) c.requires.steady in
    free_asks_here (world_of (the_view c.self.inside)) steady.past c.args.id c.index_mut.result.now steady.good (agent_there (the_view c.self.inside) c.args.id c.in-Some.at c.index_mut.result.now found.0 found.1)

pub decide-requires-clause-routed : goal.decide-requires-clause-routed
unfolding world_of
decide-requires-clause-routed c =
    let found = found_agent c.self.inside.agents.items c.deref.result.now c.args.id c.in-Some.at c.index_mut.result.now c.deref.ensures.value c.in-Some.ensures.place c.in-Some.ensures.within c.index_mut.ensures.value in
    let steady = subst IsSteady (sym c.self.view_is) c.requires.steady in
    routed_here (world_of (the_view c.self.inside)) steady.past c.args.id c.index_mut.result.now c.args.gather steady.good (agent_there (the_view c.self.inside) c.args.id c.in-Some.at c.index_mut.result.now found.0 found.1)

-- ---- the steps

pub follow-requires-clause-book : goal.follow-requires-clause-book
follow-requires-clause-book c =
    let found = found_agent c.self.inside.agents.items c.deref.result.now c.args.id c.in-Some.at c.index_mut.result.now c.deref.ensures.value c.in-Some.ensures.place c.in-Some.ensures.within c.index_mut.ensures.value in
    let room = decided_room (the_view c.self.inside) c.args.id c.in-Some.at c.args.gather c.index_mut.result.now c.decide.new.self c.decide.new.turn c.in_ok-steps.steps.items found.0 found.1 c.in_ok-steps.ensures.decided
    (subst IsSteady (sym c.self.view_is) c.requires.steady) in
    let least = c.in_ok-reserve.ensures.ok in
    let most = room.0 in
    omega (arith, least, most)

pub follow-requires-clause-requests : goal.follow-requires-clause-requests
follow-requires-clause-requests c =
    let found = found_agent c.self.inside.agents.items c.deref.result.now c.args.id c.in-Some.at c.index_mut.result.now c.deref.ensures.value c.in-Some.ensures.place c.in-Some.ensures.within c.index_mut.ensures.value in
    (decided_room (the_view c.self.inside) c.args.id c.in-Some.at c.args.gather c.index_mut.result.now c.decide.new.self c.decide.new.turn c.in_ok-steps.steps.items found.0 found.1 c.in_ok-steps.ensures.decided
    (subst IsSteady (sym c.self.view_is) c.requires.steady)).1

pub returns-clause-decided : goal.returns-clause-decided
returns-clause-decided c =
    let found = found_agent c.self.inside.agents.items c.deref.result.now c.args.id c.in-Some.at c.index_mut.result.now c.deref.ensures.value c.in-Some.ensures.place c.in-Some.ensures.within c.index_mut.ensures.value in
    subst (λ (o : Whole). HasDecidedAt (world_of o) c.args.id c.args.gather (world_of c.follow.new.self) c.follow.result.items) c.self.view_is
    (decided_at (the_view c.self.inside) _ c.follow.new.self c.args.id c.in-Some.at c.args.gather c.index_mut.result.now c.decide.new.self c.in_ok-steps.steps.items c.follow.result.items found.0 found.1
    c.in_ok-steps.ensures.decided c.reserve.ensures.history refl c.set.ensures.kept c.set.ensures.made c.follow.ensures.world c.follow.ensures.lines)

pub returns-clause-steady : goal.returns-clause-steady
unfolding world_of
returns-clause-steady c =
    let found = found_agent c.self.inside.agents.items c.deref.result.now c.args.id c.in-Some.at c.index_mut.result.now c.deref.ensures.value c.in-Some.ensures.place c.in-Some.ensures.within c.index_mut.ensures.value in
    let steady = subst IsSteady (sym c.self.view_is) c.requires.steady in
    let due = ap (λ (o : Whole). is_due (((world_of o).agent c.args.id).gather c.args.gather)) c.self.view_is ∙ c.requires.due in
    let did = subst (λ (o : Whole). HasDecidedAt (world_of o) c.args.id c.args.gather (world_of c.follow.new.self) c.follow.result.items) (sym c.self.view_is) (returns-clause-decided c) in
    steady_decided (the_view c.self.inside) c.follow.new.self c.args.id c.in-Some.at c.args.gather c.index_mut.result.now c.decide.new.self c.in_ok-steps.steps.items c.decide.new.turn c.follow.result.items found.0 found.1
    c.in_ok-steps.ensures.decided (ready_of_due (((world_of (the_view c.self.inside)).agent c.args.id).gather c.args.gather) due) (ap (λ (o : Whole). o.agents) c.follow.ensures.rest) did steady

-- ---- its agents

pub returns-clause-here : goal.returns-clause-here
returns-clause-here c =
    let found = found_agent c.self.inside.agents.items c.deref.result.now c.args.id c.in-Some.at c.index_mut.result.now c.deref.ensures.value c.in-Some.ensures.place c.in-Some.ensures.within c.index_mut.ensures.value in
    here_acted (the_view c.self.inside) c.args.self.now _ c.in-Some.at c.index_mut.result.now c.decide.new.self c.self.view_is found.1
    (kept_id c.self.inside.registry c.index_mut.result.now c.decide.new.self c.self.inside.turn c.decide.new.turn c.args.gather c.in_ok-steps.steps.items c.in_ok-steps.ensures.decided) (ap (λ (o : Whole). o.agents) c.follow.ensures.rest)
