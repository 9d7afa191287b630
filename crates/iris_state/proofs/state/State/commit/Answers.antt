use Rattle.std.proofs.Common.{Option, arith, refl, sym, ap, ◌∙◌, subst}
use Rattle.std.specs.Prelude.{IfSome}
use Rattle.iris_agent.specs.declared.commit.CommitError.TheVariants.{Memory}
use Rattle.iris_agent.specs.Commits.{MayCommit}
use Rattle.iris_agent.specs.Tables.{Holdings}
use Rattle.iris_state.specs.Agents.{held_by}
use Rattle.iris_state.specs.City.{IsSteady}
use Rattle.iris_state.specs.Events.{HasDecidedAt, HasRefused}
use Rattle.iris_state.specs.Whole.{Whole, world_of}
use Rattle.iris_state.specs.contracts.state.State.{the_view}
use Rattle.iris_state.proofs.AgentEvents.{here_acted, if_err, unacted}
use Rattle.iris_state.proofs.AgentTables.{found_agent}
use Rattle.iris_state.proofs.Committing.{held_there, committed_ready, refused_at, refused_id, refused_same, steady_refused}
use Rattle.iris_state.proofs.DecidedAt.{agent_there, decided_at, decided_room, kept_id, steady_decided}
use Rattle.iris_state.proofs.MayHere.{free_asks_here, routed_here}
use Rattle.iris_state.proofs.QuietEvents.{missing_here}
use Rattle.iris_state.proofs.SteadyCities.{steady_same}
use Rattle.iris_state.proofs.state.State.commit.Goals as goal

pub unreachable-requires : goal.unreachable-requires
unreachable-requires c = missing_here (the_view c.self.inside) c.args.self.now c.args.id c.deref.result.now c.place_of.result c.self.view_is c.deref.ensures.value c.place_of.ensures.place c.in_default.is c.requires.here

-- ---- where there was no memory

pub returns-in_err-reserve-clause-err : goal.returns-in_err-reserve-clause-err
returns-in_err-reserve-clause-err c =
    if_err c.from_residual.result (HasRefused (world_of c.args.self.now) (held_by c.args.id c.args.self.now.agents) c.args.id c.args.done.now (world_of _)) Memory c.from_residual.ensures.1
    (unacted (the_view c.self.inside) _ refl refl refl c.reserve.ensures.history ∙ ap world_of c.self.view_is)

pub returns-in_err-reserve-clause-steady : goal.returns-in_err-reserve-clause-steady
returns-in_err-reserve-clause-steady c =
    steady_same (the_view c.self.inside) _ (unacted (the_view c.self.inside) _ refl refl refl c.reserve.ensures.history) refl (subst IsSteady (sym c.self.view_is) c.requires.steady)

-- ---- what the agent's call asks for

pub commit-requires-clause-fresh : goal.commit-requires-clause-fresh
unfolding world_of
commit-requires-clause-fresh c =
    let found = found_agent c.self.inside.agents.items c.deref.result.now c.args.id c.in-Some.at c.index_mut.result.now c.deref.ensures.value c.in-Some.ensures.place c.in-Some.ensures.within c.index_mut.ensures.value in
    let steady = subst IsSteady (sym c.self.view_is) c.requires.steady in
    free_asks_here (world_of (the_view c.self.inside)) steady.past c.args.id c.index_mut.result.now steady.good (agent_there (the_view c.self.inside) c.args.id c.in-Some.at c.index_mut.result.now found.0 found.1)

pub commit-requires-clause-routed : goal.commit-requires-clause-routed
unfolding world_of
commit-requires-clause-routed c =
    let found = found_agent c.self.inside.agents.items c.deref.result.now c.args.id c.in-Some.at c.index_mut.result.now c.deref.ensures.value c.in-Some.ensures.place c.in-Some.ensures.within c.index_mut.ensures.value in
    let steady = subst IsSteady (sym c.self.view_is) c.requires.steady in
    routed_here (world_of (the_view c.self.inside)) steady.past c.args.id c.index_mut.result.now c.args.done.now.job.gather steady.good
    (agent_there (the_view c.self.inside) c.args.id c.in-Some.at c.index_mut.result.now found.0 found.1)

-- ---- where it was not taken

pub returns-in_err-steps-clause-err : goal.returns-in_err-steps-clause-err
returns-in_err-steps-clause-err c =
    let found = found_agent c.self.inside.agents.items c.deref.result.now c.args.id c.in-Some.at c.index_mut.result.now c.deref.ensures.value c.in-Some.ensures.place c.in-Some.ensures.within c.index_mut.ensures.value in
    if_err c.from_residual-in_err-steps.result (HasRefused (world_of c.args.self.now) (held_by c.args.id c.args.self.now.agents) c.args.id c.args.done.now (world_of _)) c.in_err-steps.field-0.0 c.from_residual-in_err-steps.ensures.1
    (refused_same (the_view c.self.inside) c.args.self.now _ c.args.id c.args.done.now c.in_err-steps.field-0.0 c.self.view_is
    (refused_at (the_view c.self.inside) _ c.args.id c.in-Some.at c.args.done.now c.index_mut.result.now c.commit.new.self c.in_err-steps.field-0.0 found.0 found.1 c.in_err-steps.ensures.err c.in_err-steps.ensures.turn c.reserve.ensures.history
    refl))

pub returns-in_err-steps-clause-steady : goal.returns-in_err-steps-clause-steady
returns-in_err-steps-clause-steady c =
    let found = found_agent c.self.inside.agents.items c.deref.result.now c.args.id c.in-Some.at c.index_mut.result.now c.deref.ensures.value c.in-Some.ensures.place c.in-Some.ensures.within c.index_mut.ensures.value in
    steady_refused (the_view c.self.inside) _ c.args.id c.in-Some.at c.args.done.now c.index_mut.result.now c.commit.new.self c.in_err-steps.field-0.0 found.1 c.in_err-steps.ensures.err
    (refused_at (the_view c.self.inside) _ c.args.id c.in-Some.at c.args.done.now c.index_mut.result.now c.commit.new.self c.in_err-steps.field-0.0 found.0 found.1 c.in_err-steps.ensures.err c.in_err-steps.ensures.turn c.reserve.ensures.history
    refl) refl (subst IsSteady (sym c.self.view_is) c.requires.steady)

-- ---- the steps

pub follow-requires-clause-book : goal.follow-requires-clause-book
follow-requires-clause-book c =
    let found = found_agent c.self.inside.agents.items c.deref.result.now c.args.id c.in-Some.at c.index_mut.result.now c.deref.ensures.value c.in-Some.ensures.place c.in-Some.ensures.within c.index_mut.ensures.value in
    let room = decided_room (the_view c.self.inside) c.args.id c.in-Some.at c.args.done.now.job.gather c.index_mut.result.now c.commit.new.self c.commit.new.turn c.in_ok-steps.steps.items found.0 found.1 c.in_ok-steps.ensures.decided
    (subst IsSteady (sym c.self.view_is) c.requires.steady) in
    let least = c.in_ok-reserve.ensures.ok in
    let most = room.0 in
    omega (arith, least, most)

pub follow-requires-clause-requests : goal.follow-requires-clause-requests
follow-requires-clause-requests c =
    let found = found_agent c.self.inside.agents.items c.deref.result.now c.args.id c.in-Some.at c.index_mut.result.now c.deref.ensures.value c.in-Some.ensures.place c.in-Some.ensures.within c.index_mut.ensures.value in
    (decided_room (the_view c.self.inside) c.args.id c.in-Some.at c.args.done.now.job.gather c.index_mut.result.now c.commit.new.self c.commit.new.turn c.in_ok-steps.steps.items found.0 found.1 c.in_ok-steps.ensures.decided
    (subst IsSteady (sym c.self.view_is) c.requires.steady)).1

pub returns-clause-local : goal.returns-clause-local
returns-clause-local c =
    let found = found_agent c.self.inside.agents.items c.deref.result.now c.args.id c.in-Some.at c.index_mut.result.now c.deref.ensures.value c.in-Some.ensures.place c.in-Some.ensures.within c.index_mut.ensures.value in
    let held = held_there c.self.inside.agents.items c.args.id c.in-Some.at c.index_mut.result.now found.0 found.1 in
    subst (λ (o : Whole). IfSome (held_by c.args.id o.agents) (λ h. MayCommit h o.turn.now c.args.done.now)) c.self.view_is
    (subst (λ (o : Option Holdings). IfSome o (λ h. MayCommit h c.self.inside.turn.now c.args.done.now)) (sym held) c.in_ok-steps.ensures.local)

pub returns-clause-decided : goal.returns-clause-decided
returns-clause-decided c =
    let found = found_agent c.self.inside.agents.items c.deref.result.now c.args.id c.in-Some.at c.index_mut.result.now c.deref.ensures.value c.in-Some.ensures.place c.in-Some.ensures.within c.index_mut.ensures.value in
    subst (λ (o : Whole). HasDecidedAt (world_of o) c.args.id c.args.done.now.job.gather (world_of c.follow.new.self) c.follow.result.items) c.self.view_is
    (decided_at (the_view c.self.inside) _ c.follow.new.self c.args.id c.in-Some.at c.args.done.now.job.gather c.index_mut.result.now c.commit.new.self c.in_ok-steps.steps.items c.follow.result.items found.0 found.1
    c.in_ok-steps.ensures.decided c.reserve.ensures.history refl c.set.ensures.kept c.set.ensures.made c.follow.ensures.world c.follow.ensures.lines)

pub returns-clause-steady : goal.returns-clause-steady
unfolding world_of
returns-clause-steady c =
    let found = found_agent c.self.inside.agents.items c.deref.result.now c.args.id c.in-Some.at c.index_mut.result.now c.deref.ensures.value c.in-Some.ensures.place c.in-Some.ensures.within c.index_mut.ensures.value in
    let steady = subst IsSteady (sym c.self.view_is) c.requires.steady in
    let did = subst (λ (o : Whole). HasDecidedAt (world_of o) c.args.id c.args.done.now.job.gather (world_of c.follow.new.self) c.follow.result.items) (sym c.self.view_is) (returns-clause-decided c) in
    steady_decided (the_view c.self.inside) c.follow.new.self c.args.id c.in-Some.at c.args.done.now.job.gather c.index_mut.result.now c.commit.new.self c.in_ok-steps.steps.items c.commit.new.turn c.follow.result.items found.0 found.1
    c.in_ok-steps.ensures.decided (committed_ready (the_view c.self.inside) c.args.id c.in-Some.at c.args.done.now c.index_mut.result.now found.0 found.1 c.in_ok-steps.ensures.local) (ap (λ (o : Whole). o.agents) c.follow.ensures.rest) did
    steady

pub returns-in_err-steps-clause-here : goal.returns-in_err-steps-clause-here
returns-in_err-steps-clause-here c =
    let found = found_agent c.self.inside.agents.items c.deref.result.now c.args.id c.in-Some.at c.index_mut.result.now c.deref.ensures.value c.in-Some.ensures.place c.in-Some.ensures.within c.index_mut.ensures.value in
    here_acted (the_view c.self.inside) c.args.self.now _ c.in-Some.at c.index_mut.result.now c.commit.new.self c.self.view_is found.1
    (refused_id c.self.inside.turn.now c.args.done.now c.index_mut.result.now c.commit.new.self c.in_err-steps.field-0.0 c.in_err-steps.ensures.err) refl

pub returns-clause-here : goal.returns-clause-here
returns-clause-here c =
    let found = found_agent c.self.inside.agents.items c.deref.result.now c.args.id c.in-Some.at c.index_mut.result.now c.deref.ensures.value c.in-Some.ensures.place c.in-Some.ensures.within c.index_mut.ensures.value in
    here_acted (the_view c.self.inside) c.args.self.now _ c.in-Some.at c.index_mut.result.now c.commit.new.self c.self.view_is found.1 (kept_id c.self.inside.registry c.index_mut.result.now c.commit.new.self c.self.inside.turn c.commit.new.turn c.args.done.now.job.gather c.in_ok-steps.steps.items c.in_ok-steps.ensures.decided) (ap (λ (o : Whole). o.agents) c.follow.ensures.rest)
