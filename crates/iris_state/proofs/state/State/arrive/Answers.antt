use Rattle.std.proofs.Common.{◌≡◌, None, arith, refl, sym, ap, ◌∙◌, subst}
use Rattle.std.specs.Prelude.{option_copied, slice_set}
use Rattle.iris_book.specs.Book.{Recorded}
use Rattle.iris_posts.specs.Posts.{Queue}
use Rattle.iris_outbox.specs.Outbox.{Readiness, IsMadeFor}
use Rattle.iris_state.specs.Agents.{place_in}
use Rattle.iris_state.specs.City.{IsSteady}
use Rattle.iris_state.specs.Whole.{Whole, sent_of}
use Rattle.iris_state.specs.contracts.state.State.{the_view}
use Rattle.iris_state.proofs.AgentEvents.{here_acted, on_err, unacted}
use Rattle.iris_state.proofs.ArrivalHere.{sent_there, addressee_here, arrives_there, free_there, may_arrive_there, book_there, times_there, arrived_answers, arrived_requests}
use Rattle.iris_state.proofs.Arriving.{marked_ready, arrived_ready, arrived_at, kept_id, steady_arrived, steady_over, interrupted_at, steady_interrupted, untouched_at, over_there, back_id, arrived_same, interrupted_same}
use Rattle.iris_state.proofs.Changes.{marked_one}
use Rattle.iris_state.proofs.SteadyCities.{steady_same}
use Rattle.iris_state.proofs.state.State.arrive.Goals as goal

-- ---- a message that is over

pub returns-then-is_post_over-clause-arrived : goal.returns-then-is_post_over-clause-arrived
returns-then-is_post_over-clause-arrived g c =
    over_there (the_view c.self.inside) c.args.self.now _ c.args.post c.is_post_over.result c.new.result.items _ c.self.view_is
    (marked_one (the_view c.self.inside) _ c.args.post refl c.mark.ensures.post c.mark.ensures.seen c.mark.ensures.made)
    c.requires.kept c.if-is_post_over.true c.is_post_over.ensures c.new.ensures.items

pub returns-then-is_post_over-clause-steady : goal.returns-then-is_post_over-clause-steady
returns-then-is_post_over-clause-steady g c =
    steady_over c.args.self.now _ c.args.post c.new.result.items _ _ (ap (λ (o : Whole). o.agents) c.self.view_is) (returns-then-is_post_over-clause-arrived g c) c.requires.steady

-- ---- the addressee is of the city

pub unreachable-requires-in_default-place_of : goal.unreachable-requires-in_default-place_of
unreachable-requires-in_default-place_of g c =
    let old = the_view c.self.inside in
    let there = sent_there old c.args.post c.posts.result.now (option_copied c.get.result) c.in-Some.sent.now c.posts.ensures c.get.ensures (ap option_copied c.in-Some.is) in
    let none : place_in c.in-Some.sent.now.to old.agents ≡ None = ap (place_in c.in-Some.sent.now.to) (sym c.deref.ensures.value) ∙ sym c.place_of.ensures.place ∙ c.in_default-place_of.is in
    addressee_here old c.args.post (sent_of c.in-Some.sent.now) there none (subst IsSteady (sym c.self.view_is) c.requires.steady)

-- ---- where there was no memory

pub returns-in_err-reserve-clause-err : goal.returns-in_err-reserve-clause-err
returns-in_err-reserve-clause-err g c =
    let old = the_view c.self.inside in
    let there = sent_there old c.args.post c.posts.result.now (option_copied c.get.result) c.in-Some.sent.now c.posts.ensures c.get.ensures (ap option_copied c.in-Some.is) in
    on_err c.from_residual.result (interrupted_same old c.args.self.now c.args.post _ c.self.view_is (untouched_at old _ c.args.post (sent_of c.in-Some.sent.now) there refl c.reserve.ensures.history))

pub returns-in_err-reserve-clause-steady : goal.returns-in_err-reserve-clause-steady
returns-in_err-reserve-clause-steady g c =
    steady_same (the_view c.self.inside) _ (unacted (the_view c.self.inside) _ refl refl refl c.reserve.ensures.history) refl (subst IsSteady (sym c.self.view_is) c.requires.steady)

pub returns-in_err-steps-clause-err : goal.returns-in_err-steps-clause-err
returns-in_err-steps-clause-err g c =
    let old = the_view c.self.inside in
    let a = arrives_there (the_view c.self.inside) c.args.self.now c.args.post c.in-Some-place_of.at c.deref.result.now c.index_mut.result.now c.posts.result.now (option_copied c.get.result) c.in-Some.sent.now c.is_post_over.result
    c.self.view_is c.deref.ensures.value c.in-Some-place_of.ensures.place c.in-Some-place_of.ensures.within c.index_mut.ensures.value c.posts.ensures c.get.ensures (ap option_copied c.in-Some.is) c.if-is_post_over.false c.is_post_over.ensures c.requires.steady in
    on_err c.from_residual-in_err-steps.result (interrupted_same old c.args.self.now c.args.post _ c.self.view_is
    (interrupted_at old _ c.args.post c.in-Some-place_of.at c.index_mut.result.now c.arrive.new.self (sent_of c.in-Some.sent.now) a.place_is a.there a.post c.in_err-steps.ensures.err c.in_err-steps.ensures.turn
    (ap (λ (b : Recorded). b.history) c.in_err-steps.ensures.unwritten ∙ c.reserve.ensures.history) refl))

pub returns-in_err-steps-clause-steady : goal.returns-in_err-steps-clause-steady
returns-in_err-steps-clause-steady g c =
    let old = the_view c.self.inside in
    let a = arrives_there (the_view c.self.inside) c.args.self.now c.args.post c.in-Some-place_of.at c.deref.result.now c.index_mut.result.now c.posts.result.now (option_copied c.get.result) c.in-Some.sent.now c.is_post_over.result
    c.self.view_is c.deref.ensures.value c.in-Some-place_of.ensures.place c.in-Some-place_of.ensures.within c.index_mut.ensures.value c.posts.ensures c.get.ensures (ap option_copied c.in-Some.is) c.if-is_post_over.false c.is_post_over.ensures c.requires.steady in
    steady_interrupted old _ c.args.post c.in-Some-place_of.at c.index_mut.result.now c.arrive.new.self a.there (back_id c.index_mut.result.now c.arrive.new.self c.in-Some.sent.now.message c.in_err-steps.ensures.err) refl
    (interrupted_at old _ c.args.post c.in-Some-place_of.at c.index_mut.result.now c.arrive.new.self (sent_of c.in-Some.sent.now) a.place_is a.there a.post c.in_err-steps.ensures.err c.in_err-steps.ensures.turn
    (ap (λ (b : Recorded). b.history) c.in_err-steps.ensures.unwritten ∙ c.reserve.ensures.history) refl) a.steady

-- ---- what the agent's call asks for

pub arrive-requires-clause-free : goal.arrive-requires-clause-free
arrive-requires-clause-free g c =
    free_there (the_view c.self.inside) c.args.post c.in-Some-place_of.at c.index_mut.result.now (sent_of c.in-Some.sent.now)
    (arrives_there (the_view c.self.inside) c.args.self.now c.args.post c.in-Some-place_of.at c.deref.result.now c.index_mut.result.now c.posts.result.now (option_copied c.get.result) c.in-Some.sent.now c.is_post_over.result
    c.self.view_is c.deref.ensures.value c.in-Some-place_of.ensures.place c.in-Some-place_of.ensures.within c.index_mut.ensures.value c.posts.ensures c.get.ensures (ap option_copied c.in-Some.is) c.if-is_post_over.false c.is_post_over.ensures c.requires.steady)

pub arrive-requires-clause-message : goal.arrive-requires-clause-message
arrive-requires-clause-message g c =
    may_arrive_there (the_view c.self.inside) c.args.post c.in-Some-place_of.at c.index_mut.result.now (sent_of c.in-Some.sent.now)
    (arrives_there (the_view c.self.inside) c.args.self.now c.args.post c.in-Some-place_of.at c.deref.result.now c.index_mut.result.now c.posts.result.now (option_copied c.get.result) c.in-Some.sent.now c.is_post_over.result
    c.self.view_is c.deref.ensures.value c.in-Some-place_of.ensures.place c.in-Some-place_of.ensures.within c.index_mut.ensures.value c.posts.ensures c.get.ensures (ap option_copied c.in-Some.is) c.if-is_post_over.false c.is_post_over.ensures c.requires.steady)

pub arrive-requires-clause-book : goal.arrive-requires-clause-book
arrive-requires-clause-book g c =
    book_there (the_view c.self.inside) c.args.post c.in-Some-place_of.at c.index_mut.result.now (sent_of c.in-Some.sent.now) c.reserve.new.self c.reserve.ensures.history
    (arrives_there (the_view c.self.inside) c.args.self.now c.args.post c.in-Some-place_of.at c.deref.result.now c.index_mut.result.now c.posts.result.now (option_copied c.get.result) c.in-Some.sent.now c.is_post_over.result
    c.self.view_is c.deref.ensures.value c.in-Some-place_of.ensures.place c.in-Some-place_of.ensures.within c.index_mut.ensures.value c.posts.ensures c.get.ensures (ap option_copied c.in-Some.is) c.if-is_post_over.false c.is_post_over.ensures c.requires.steady)

pub arrive-requires-clause-times : goal.arrive-requires-clause-times
arrive-requires-clause-times g c =
    times_there (the_view c.self.inside) c.args.post c.in-Some-place_of.at c.index_mut.result.now (sent_of c.in-Some.sent.now) c.reserve.new.self c.reserve.ensures.history
    (arrives_there (the_view c.self.inside) c.args.self.now c.args.post c.in-Some-place_of.at c.deref.result.now c.index_mut.result.now c.posts.result.now (option_copied c.get.result) c.in-Some.sent.now c.is_post_over.result
    c.self.view_is c.deref.ensures.value c.in-Some-place_of.ensures.place c.in-Some-place_of.ensures.within c.index_mut.ensures.value c.posts.ensures c.get.ensures (ap option_copied c.in-Some.is) c.if-is_post_over.false c.is_post_over.ensures c.requires.steady)

-- ---- the steps

pub follow-requires-clause-room : goal.follow-requires-clause-room
follow-requires-clause-room g c =
    let made = arrived_ready c.index_mut.result.now c.arrive.new.self (the_view c.self.inside) c.arrive.new.turn c.in-Some.sent.now.message c.in_ok-steps.steps.items c.reserve.new.self c.arrive.new.book _ _ c.preparing-room.result.posts.now
    c.arrive.new.room.posts.now c.arrive.new.room.ready c.in_ok-steps.ensures.arrived in
    let posts = subst (λ (q : Queue). IsMadeFor q c.arrive.new.room.ready c.in_ok-steps.steps.items) c.preparing-room.ensures made in
    let ready = subst (λ (r : Readiness). IsMadeFor c.self.inside.outbox.posts r c.in_ok-steps.steps.items) (sym c.ready-ready.ensures) posts in
    marked_ready c.set.new.self c.mark-2.new.self c.in_ok-steps.steps.items c.mark-2.ensures.rest c.mark-2.ensures.made c.mark-2.ensures.spare (c.set.ensures.ready c.in_ok-steps.steps.items ready)

pub follow-requires-clause-book : goal.follow-requires-clause-book
follow-requires-clause-book g c =
    let none = arrived_answers (the_view c.self.inside) c.index_mut.result.now c.arrive.new.self (sent_of c.in-Some.sent.now) c.arrive.new.turn c.in_ok-steps.steps.items c.reserve.new.self c.arrive.new.book _ _ _ c.in_ok-steps.ensures.arrived in
    omega (arith, none)

pub follow-requires-clause-requests : goal.follow-requires-clause-requests
follow-requires-clause-requests g c =
    arrived_requests (the_view c.self.inside) c.args.post c.in-Some-place_of.at c.index_mut.result.now c.arrive.new.self (sent_of c.in-Some.sent.now) c.arrive.new.turn c.in_ok-steps.steps.items c.reserve.new.self c.arrive.new.book _ _ _
    c.in_ok-steps.ensures.arrived
    (arrives_there (the_view c.self.inside) c.args.self.now c.args.post c.in-Some-place_of.at c.deref.result.now c.index_mut.result.now c.posts.result.now (option_copied c.get.result) c.in-Some.sent.now c.is_post_over.result
    c.self.view_is c.deref.ensures.value c.in-Some-place_of.ensures.place c.in-Some-place_of.ensures.within c.index_mut.ensures.value c.posts.ensures c.get.ensures (ap option_copied c.in-Some.is) c.if-is_post_over.false c.is_post_over.ensures c.requires.steady)

pub returns-clause-arrived : goal.returns-clause-arrived
returns-clause-arrived g c =
    let old = the_view c.self.inside in
    let a = arrives_there (the_view c.self.inside) c.args.self.now c.args.post c.in-Some-place_of.at c.deref.result.now c.index_mut.result.now c.posts.result.now (option_copied c.get.result) c.in-Some.sent.now c.is_post_over.result
    c.self.view_is c.deref.ensures.value c.in-Some-place_of.ensures.place c.in-Some-place_of.ensures.within c.index_mut.ensures.value c.posts.ensures c.get.ensures (ap option_copied c.in-Some.is) c.if-is_post_over.false c.is_post_over.ensures c.requires.steady in
    arrived_same old c.args.self.now c.args.post _ c.follow.result.items _ _ c.self.view_is
    (arrived_at old _ _ c.follow.new.self c.args.post c.in-Some-place_of.at c.index_mut.result.now c.arrive.new.self (sent_of c.in-Some.sent.now) a.judged.serving c.in_ok-steps.steps.items c.follow.result.items c.reserve.new.self _ _ _
    a.place_is a.there a.post (sym a.judged.judged) a.judged.tells c.in_ok-steps.ensures.arrived c.reserve.ensures.history refl c.set.ensures.kept c.set.ensures.made
    (marked_one (record (the_view c.self.inside) { agents = slice_set c.self.inside.agents.items c.in-Some-place_of.at c.arrive.new.self; outbox = c.set.new.self; turn = c.arrive.new.turn; book = c.arrive.new.book }) _ c.args.post refl
    c.mark-2.ensures.post c.mark-2.ensures.seen c.mark-2.ensures.made)
    c.mark-2.ensures.made refl c.follow.ensures.world c.follow.ensures.lines)

pub returns-clause-steady : goal.returns-clause-steady
returns-clause-steady g c =
    let old = the_view c.self.inside in
    let a = arrives_there (the_view c.self.inside) c.args.self.now c.args.post c.in-Some-place_of.at c.deref.result.now c.index_mut.result.now c.posts.result.now (option_copied c.get.result) c.in-Some.sent.now c.is_post_over.result
    c.self.view_is c.deref.ensures.value c.in-Some-place_of.ensures.place c.in-Some-place_of.ensures.within c.index_mut.ensures.value c.posts.ensures c.get.ensures (ap option_copied c.in-Some.is) c.if-is_post_over.false c.is_post_over.ensures c.requires.steady in
    let did = arrived_same c.args.self.now old c.args.post _ c.follow.result.items _ _ (sym c.self.view_is) (returns-clause-arrived g c) in
    steady_arrived old c.follow.new.self c.args.post c.in-Some-place_of.at c.index_mut.result.now c.arrive.new.self c.follow.result.items _ _ a.there
    (kept_id c.index_mut.result.now c.arrive.new.self old c.arrive.new.turn c.in-Some.sent.now.message c.in_ok-steps.steps.items c.reserve.new.self c.arrive.new.book _ _ _ c.in_ok-steps.ensures.arrived)
    (ap (λ (o : Whole). o.agents) c.follow.ensures.rest) did a.steady

-- ---- its agents

pub returns-in_err-steps-clause-here : goal.returns-in_err-steps-clause-here
returns-in_err-steps-clause-here g c =
    let a = arrives_there (the_view c.self.inside) c.args.self.now c.args.post c.in-Some-place_of.at c.deref.result.now c.index_mut.result.now c.posts.result.now (option_copied c.get.result) c.in-Some.sent.now c.is_post_over.result
    c.self.view_is c.deref.ensures.value c.in-Some-place_of.ensures.place c.in-Some-place_of.ensures.within c.index_mut.ensures.value c.posts.ensures c.get.ensures (ap option_copied c.in-Some.is) c.if-is_post_over.false c.is_post_over.ensures c.requires.steady in
    here_acted (the_view c.self.inside) c.args.self.now _ c.in-Some-place_of.at c.index_mut.result.now c.arrive.new.self c.self.view_is a.there (back_id c.index_mut.result.now c.arrive.new.self c.in-Some.sent.now.message c.in_err-steps.ensures.err) refl

pub returns-clause-here : goal.returns-clause-here
returns-clause-here g c =
    let a = arrives_there (the_view c.self.inside) c.args.self.now c.args.post c.in-Some-place_of.at c.deref.result.now c.index_mut.result.now c.posts.result.now (option_copied c.get.result) c.in-Some.sent.now c.is_post_over.result
    c.self.view_is c.deref.ensures.value c.in-Some-place_of.ensures.place c.in-Some-place_of.ensures.within c.index_mut.ensures.value c.posts.ensures c.get.ensures (ap option_copied c.in-Some.is) c.if-is_post_over.false c.is_post_over.ensures c.requires.steady in
    here_acted (the_view c.self.inside) c.args.self.now _ c.in-Some-place_of.at c.index_mut.result.now c.arrive.new.self c.self.view_is a.there
    (kept_id c.index_mut.result.now c.arrive.new.self (the_view c.self.inside) c.arrive.new.turn c.in-Some.sent.now.message c.in_ok-steps.steps.items c.reserve.new.self c.arrive.new.book _ _ _ c.in_ok-steps.ensures.arrived)
    (ap (λ (o : Whole). o.agents) c.follow.ensures.rest)
