use Rattle.std.proofs.Common.{List, [], ◌∷◌, ◌++◌, refl, sym, ap, ◌∙◌, subst, arith}
use Rattle.iris_book.specs.Book.{Recorded}
use Rattle.iris_posts.specs.Posts.{Queue}
use Rattle.iris_agent.specs.declared.step.Step.{Step}
use Rattle.iris_agent.specs.Gives.{gives}
use Rattle.iris_agent.specs.Handled.{Does}
use Rattle.iris_agent.specs.Tables.{tables_of}
use Rattle.iris_outbox.specs.Outbox.{Readiness, IsMadeFor}
use Rattle.iris_state.specs.City.{IsSteady}
use Rattle.iris_state.specs.Whole.{Whole, world_of}
use Rattle.iris_state.specs.contracts.state.State.{the_view}
use Rattle.iris_state.proofs.AgentEvents.{here_acted, on_err, unacted}
use Rattle.iris_state.proofs.ChangedAgent.{set_there}
use Rattle.iris_state.proofs.Giving.{gives_there, title_given, status_given, newer_given, registry_given, given_ready, given_answers_none, given_requests, gave_id, given_at, given_same, steady_given}
use Rattle.iris_state.proofs.SteadyCities.{steady_same}
use Rattle.iris_state.proofs.state.State.give.Goals as goal

-- ---- where it was not kept, or there was no memory

pub returns-in_err-reserve-clause-err : goal.returns-in_err-reserve-clause-err
returns-in_err-reserve-clause-err g c =
    on_err c.from_residual-in_err-reserve.result (unacted (the_view c.self.inside) _ refl refl refl c.reserve.ensures.history ∙ ap world_of c.self.view_is)

pub returns-in_err-reserve-clause-steady : goal.returns-in_err-reserve-clause-steady
returns-in_err-reserve-clause-steady g c =
    steady_same (the_view c.self.inside) _ (unacted (the_view c.self.inside) _ refl refl refl c.reserve.ensures.history) refl (subst IsSteady (sym c.self.view_is) c.requires.steady)

pub returns-in_err-step-clause-err : goal.returns-in_err-step-clause-err
returns-in_err-step-clause-err g c =
    let a = gives_there (the_view c.self.inside) c.args.self.now c.args.name.now c.args.to c.place_of_owner-at.result c.index_mut.result.now c.in_ok-moved.moved c.self.view_is c.place_of_owner-at.ensures.place c.place_of_owner-at.ensures.within
    c.index_mut.ensures.value c.in_ok-moved.ensures c.requires.node c.requires.owned c.requires.here c.requires.apart c.requires.steady in
    let agents = set_there c.self.inside.agents.items c.place_of_owner-at.result c.index_mut.result.now c.give.new.self a.there c.in_err-step.ensures.err in
    on_err c.from_residual-in_err-step.result
    (unacted (the_view c.self.inside) _ refl agents refl (ap (λ (b : Recorded). b.history) c.in_err-step.ensures.err_book ∙ c.reserve.ensures.history) ∙ ap world_of c.self.view_is)

pub returns-in_err-step-clause-steady : goal.returns-in_err-step-clause-steady
returns-in_err-step-clause-steady g c =
    let a = gives_there (the_view c.self.inside) c.args.self.now c.args.name.now c.args.to c.place_of_owner-at.result c.index_mut.result.now c.in_ok-moved.moved c.self.view_is c.place_of_owner-at.ensures.place c.place_of_owner-at.ensures.within
    c.index_mut.ensures.value c.in_ok-moved.ensures c.requires.node c.requires.owned c.requires.here c.requires.apart c.requires.steady in
    let agents = set_there c.self.inside.agents.items c.place_of_owner-at.result c.index_mut.result.now c.give.new.self a.there c.in_err-step.ensures.err in
    steady_same (the_view c.self.inside) _ (unacted (the_view c.self.inside) _ refl agents refl (ap (λ (b : Recorded). b.history) c.in_err-step.ensures.err_book ∙ c.reserve.ensures.history)) agents a.steady

-- ---- what the calls ask for

pub give-requires-clause-title : goal.give-requires-clause-title
give-requires-clause-title g c =
    title_given (the_view c.self.inside) c.args.name.now c.args.to c.place_of_owner-at.result c.index_mut.result.now c.in_ok-moved.moved
    (gives_there (the_view c.self.inside) c.args.self.now c.args.name.now c.args.to c.place_of_owner-at.result c.index_mut.result.now c.in_ok-moved.moved c.self.view_is c.place_of_owner-at.ensures.place c.place_of_owner-at.ensures.within
    c.index_mut.ensures.value c.in_ok-moved.ensures c.requires.node c.requires.owned c.requires.here c.requires.apart c.requires.steady)

pub give-requires-clause-owned : goal.give-requires-clause-owned
give-requires-clause-owned g c =
    status_given (the_view c.self.inside) c.args.name.now c.args.to c.place_of_owner-at.result c.index_mut.result.now c.in_ok-moved.moved
    (gives_there (the_view c.self.inside) c.args.self.now c.args.name.now c.args.to c.place_of_owner-at.result c.index_mut.result.now c.in_ok-moved.moved c.self.view_is c.place_of_owner-at.ensures.place c.place_of_owner-at.ensures.within
    c.index_mut.ensures.value c.in_ok-moved.ensures c.requires.node c.requires.owned c.requires.here c.requires.apart c.requires.steady)

pub set-requires-2 : goal.set-requires-2
set-requires-2 g c =
    newer_given (the_view c.self.inside) c.args.name.now c.args.to c.place_of_owner-at.result c.index_mut.result.now c.in_ok-moved.moved
    (gives_there (the_view c.self.inside) c.args.self.now c.args.name.now c.args.to c.place_of_owner-at.result c.index_mut.result.now c.in_ok-moved.moved c.self.view_is c.place_of_owner-at.ensures.place c.place_of_owner-at.ensures.within
    c.index_mut.ensures.value c.in_ok-moved.ensures c.requires.node c.requires.owned c.requires.here c.requires.apart c.requires.steady)

-- ---- the step

pub follow-requires-clause-room : goal.follow-requires-clause-room
follow-requires-clause-room g c =
    let steps = c.push_reserved.ensures.items ∙ ap (λ (xs : List Step). xs ++ c.in_ok-step.step ∷ []) c.in_ok-steps.ensures.none in
    let made = given_ready c.preparing-room.result.posts.now c.give.new.room.posts.now c.give.new.room.ready (c.in_ok-step.step ∷ []) c.in_ok-step.ensures.room in
    let posts = subst (λ (q : Queue). IsMadeFor q c.give.new.room.ready (c.in_ok-step.step ∷ [])) c.preparing-room.ensures made in
    let ready = subst (λ (r : Readiness). IsMadeFor c.self.inside.outbox.posts r (c.in_ok-step.step ∷ [])) (sym c.ready-ready.ensures) posts in
    c.set.ensures.ready c.push_reserved.new.self.items (subst (IsMadeFor c.self.inside.outbox.posts c.ready-ready.result) (sym (steps)) ready)

pub follow-requires-clause-book : goal.follow-requires-clause-book
follow-requires-clause-book g c =
    let steps = c.push_reserved.ensures.items ∙ ap (λ (xs : List Step). xs ++ c.in_ok-step.step ∷ []) c.in_ok-steps.ensures.none in
    let h = subst (λ (ss : List Step). Does c.give.new.self c.self.inside.turn ss (gives (tables_of c.index_mut.result.now) c.self.inside.turn c.in_ok-moved.moved)) (sym (steps)) c.in_ok-step.ensures.gave in
    let none = given_answers_none c.index_mut.result.now c.give.new.self c.self.inside.turn c.push_reserved.new.self.items c.in_ok-moved.moved h in
    omega (arith, none)

pub follow-requires-clause-requests : goal.follow-requires-clause-requests
follow-requires-clause-requests g c =
    let steps = c.push_reserved.ensures.items ∙ ap (λ (xs : List Step). xs ++ c.in_ok-step.step ∷ []) c.in_ok-steps.ensures.none in
    let h = subst (λ (ss : List Step). Does c.give.new.self c.self.inside.turn ss (gives (tables_of c.index_mut.result.now) c.self.inside.turn c.in_ok-moved.moved)) (sym (steps)) c.in_ok-step.ensures.gave in
    given_requests c.self.inside.requests.made c.index_mut.result.now c.give.new.self c.self.inside.turn c.push_reserved.new.self.items c.in_ok-moved.moved h

-- ---- the event

pub returns-clause-gave : goal.returns-clause-gave
returns-clause-gave g c =
    let a = gives_there (the_view c.self.inside) c.args.self.now c.args.name.now c.args.to c.place_of_owner-at.result c.index_mut.result.now c.in_ok-moved.moved c.self.view_is c.place_of_owner-at.ensures.place c.place_of_owner-at.ensures.within
    c.index_mut.ensures.value c.in_ok-moved.ensures c.requires.node c.requires.owned c.requires.here c.requires.apart c.requires.steady in
    let steps = c.push_reserved.ensures.items ∙ ap (λ (xs : List Step). xs ++ c.in_ok-step.step ∷ []) c.in_ok-steps.ensures.none in
    let h = subst (λ (ss : List Step). Does c.give.new.self c.self.inside.turn ss (gives (tables_of c.index_mut.result.now) c.self.inside.turn c.in_ok-moved.moved)) (sym (steps)) c.in_ok-step.ensures.gave in
    let old = the_view c.self.inside in
    given_same old c.args.self.now c.args.name.now c.args.to _ c.follow.result.items _ _ c.self.view_is
    (given_at old _ c.follow.new.self c.place_of_owner-at.result c.args.name.now c.args.to c.in_ok-moved.moved c.index_mut.result.now c.give.new.self c.push_reserved.new.self.items c.follow.result.items c.reserve.new.self _ _
    a.place_is a.there a.move h c.in_ok-step.ensures.entered c.in_ok-step.ensures.kept c.reserve.ensures.history
    (registry_given old c.set-2.new.self c.args.name.now c.args.to c.place_of_owner-at.result c.index_mut.result.now c.in_ok-moved.moved a c.set-2.ensures.titles) refl refl c.set.ensures.kept c.set.ensures.made c.follow.ensures.world c.follow.ensures.lines)

pub returns-clause-steady : goal.returns-clause-steady
returns-clause-steady g c =
    let a = gives_there (the_view c.self.inside) c.args.self.now c.args.name.now c.args.to c.place_of_owner-at.result c.index_mut.result.now c.in_ok-moved.moved c.self.view_is c.place_of_owner-at.ensures.place c.place_of_owner-at.ensures.within
    c.index_mut.ensures.value c.in_ok-moved.ensures c.requires.node c.requires.owned c.requires.here c.requires.apart c.requires.steady in
    let steps = c.push_reserved.ensures.items ∙ ap (λ (xs : List Step). xs ++ c.in_ok-step.step ∷ []) c.in_ok-steps.ensures.none in
    let h = subst (λ (ss : List Step). Does c.give.new.self c.self.inside.turn ss (gives (tables_of c.index_mut.result.now) c.self.inside.turn c.in_ok-moved.moved)) (sym (steps)) c.in_ok-step.ensures.gave in
    let old = the_view c.self.inside in
    let did = given_same c.args.self.now old c.args.name.now c.args.to _ c.follow.result.items _ _ (sym c.self.view_is) (returns-clause-gave g c) in
    steady_given old c.follow.new.self c.place_of_owner-at.result c.args.name.now c.args.to c.index_mut.result.now c.give.new.self c.follow.result.items _ _ a.there
    (gave_id c.index_mut.result.now c.give.new.self c.self.inside.turn c.push_reserved.new.self.items c.in_ok-moved.moved h) (ap (λ (o : Whole). o.agents) c.follow.ensures.rest) a.title a.owned a.here a.apart did a.steady

pub returns-clause-here : goal.returns-clause-here
returns-clause-here g c =
    let a = gives_there (the_view c.self.inside) c.args.self.now c.args.name.now c.args.to c.place_of_owner-at.result c.index_mut.result.now c.in_ok-moved.moved c.self.view_is c.place_of_owner-at.ensures.place c.place_of_owner-at.ensures.within
    c.index_mut.ensures.value c.in_ok-moved.ensures c.requires.node c.requires.owned c.requires.here c.requires.apart c.requires.steady in
    let steps = c.push_reserved.ensures.items ∙ ap (λ (xs : List Step). xs ++ c.in_ok-step.step ∷ []) c.in_ok-steps.ensures.none in
    let h = subst (λ (ss : List Step). Does c.give.new.self c.self.inside.turn ss (gives (tables_of c.index_mut.result.now) c.self.inside.turn c.in_ok-moved.moved)) (sym (steps)) c.in_ok-step.ensures.gave in
    here_acted (the_view c.self.inside) c.args.self.now _ c.place_of_owner-at.result c.index_mut.result.now c.give.new.self c.self.view_is a.there
    (gave_id c.index_mut.result.now c.give.new.self c.self.inside.turn c.push_reserved.new.self.items c.in_ok-moved.moved h) (ap (λ (o : Whole). o.agents) c.follow.ensures.rest)
