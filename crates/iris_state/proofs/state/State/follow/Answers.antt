use Rattle.std.proofs.Common.{◌≡◌, List, [], ◌∷◌, fold, length, arith, refl, sym, ap, ◌∙◌}
use Rattle.std.specs.Vec.Iter.{into_iter_items}
use Rattle.std.proofs.lemmas.List.Elements.{All-head}
use Rattle.iris_outbox.specs.Outbox.{Outgoing}
use Rattle.iris_runs.specs.Worlds.{stepped}
use Rattle.iris_state.specs.Whole.{IsOf, world_of}
use Rattle.iris_state.proofs.Following.{made_more}
use Rattle.iris_state.proofs.state.State.follow.Goals as goal

nothing_left : {X : Type 0} (l : List X) → length l ≡ 0 → l ≡ []
nothing_left [] h = refl
nothing_left (x ∷ xs) h = absurd (omega arith)

pub make-requires-clause-request : goal.make-requires-clause-request
make-requires-clause-request c =
    let steps : into_iter_items c.loop-step.step-iterator ≡ c.in-Some.step ∷ into_iter_items c.next.new.self = c.in-Some.ensures.steps.0 in
    let made = rw steps at c.loop-step.invariant.2 in
    All-head (IsOf c.loop-step.self.requests.made) c.in-Some.step (into_iter_items c.next.new.self) made.requests

pub loop-step-preserved : goal.loop-step-preserved
loop-step-preserved c =
    let steps : into_iter_items c.loop-step.step-iterator ≡ c.in-Some.step ∷ into_iter_items c.next.new.self = c.in-Some.ensures.steps.0 in
    let made = rw steps at c.loop-step.invariant.2 in (
      tt,
      tt,
      made_more _ _ _ c.loop-step.self _ c.in-Some.step _ made c.make.ensures.world c.make.ensures.room c.make.ensures.lines c.make.ensures.made c.make.ensures.spare c.make.ensures.rest,
      let was = c.loop-step.invariant.3 in
          let gone = c.in-Some.ensures.steps.1 in
          let short = ap length steps in
          omega arith,
    )

pub returns-clause-world : goal.returns-clause-world
unfolding world_of
returns-clause-world c =
    let was = (Rattle.iris_state.specs.contracts.state.State.the_view c.self.inside) in
    let made = c.loop-step.invariant.2 in
    let len = c.loop-step.invariant.3 in
    let none = c.in-None.ensures.steps in
    let empty : into_iter_items c.loop-step.step-iterator ≡ [] = nothing_left _ (sym len ∙ none.0) in
    ap (λ (o : Outgoing). world_of (record was { outbox = o })) c.take_lines.ensures.rest
    ∙ ap world_of c.self.view_is
    ∙ ap (fold stepped (world_of c.loop-step.self)) (sym empty)
    ∙ made.city
    ∙ ap (fold stepped (world_of c.args.self.now)) c.into_iter-step-iterator.ensures.into_iter_gives.0
