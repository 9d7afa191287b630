use Rattle.std.proofs.Common.{ℕ, suc, List, [], ◌∷◌, refl, sym, ap, ◌∙◌}
use Rattle.iris_base.specs.declared.name.Label.{Label}
use Rattle.iris_route.specs.Titles.{title_at}
use Rattle.iris_migrate.specs.declared.message.Message.TheVariants.{Update}
use Rattle.iris_agent.specs.Tables.{Holdings}
use Rattle.iris_agent.specs.declared.step.Step.{Step}
use Rattle.iris_agent.specs.declared.step.Step.TheVariants.{Post}
use Rattle.iris_runs.specs.Worlds.{World}
use Rattle.iris_state.specs.Whole.{Whole, world_of}
use Rattle.iris_state.proofs.Changes.{requested_one}
use Rattle.iris_state.proofs.SteadyCities.{steady_update}
use Rattle.iris_state.proofs.ClientPosts.{update_post}
use Rattle.iris_state.proofs.state.State.post_update.Goals as goal

pub returns-clause-city : goal.returns-clause-city
unfolding world_of
returns-clause-city c =
    let message : ℕ → List Label → List Step = (λ (n : ℕ) (name : List Label). Post c.in-Some.title.0 (Update n name c.in-Some.title.1 c.args.number c.args.changes) ∷ []) in
    update_post (world_of c.args.self.now) _ _ c.in_ok-steps.steps.items c.args.name.now c.args.number c.args.changes c.in-Some.title
    (sym c.in-Some.is ∙ c.owner.ensures ∙ ap (λ (o : Whole). title_at o.registry c.args.name.now) c.self.view_is)
    (requested_one (Rattle.iris_state.specs.contracts.state.State.the_view c.self-2.inside) _ refl c.in_ok-add_update.ensures.made c.in_ok-add_update.ensures.closed
    ∙ ap (λ (w : World). record w { requests = suc w.requests }) (ap world_of c.self-2.view_is ∙ c.prepare_post.ensures.city))
    (c.in_ok-steps.ensures.steps ∙ ap (λ (n : ℕ). message n c.in_ok-copy.field-0) (c.made.ensures ∙ ap (λ (o : Whole). o.requests.made) c.self.view_is) ∙ ap (message c.args.self.now.requests.made) c.in_ok-copy.ensures)
    c.follow.ensures.world

pub returns-clause-steady : goal.returns-clause-steady
unfolding world_of
returns-clause-steady c =
    let agents : Whole → List Holdings = λ o. o.agents in
    steady_update c.args.self.now c.follow.new.self c.args.name.now c.args.number c.args.changes (returns-clause-city c) (ap agents c.follow.ensures.rest ∙ ap agents c.self-2.view_is ∙ ap agents c.prepare_post.ensures.rest) c.requires.node c.requires.steady
