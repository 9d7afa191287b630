use Rattle.std.proofs.Common.{refl, ap, ◌∙◌}
use Rattle.iris_runs.specs.Happenings.{counted}
use Rattle.iris_state.specs.Whole.{Whole, world_of}
use Rattle.iris_state.proofs.Changes.{counted_one}
use Rattle.iris_state.proofs.SteadyCities.{steady_counted}
use Rattle.iris_state.proofs.state.State.count_request.Goals as goal

pub returns-clause-city : goal.returns-clause-city
returns-clause-city c = counted_one (Rattle.iris_state.specs.contracts.state.State.the_view c.self.inside) _ refl c.in_ok-count.ensures.made c.in_ok-count.ensures.closed ∙ ap (λ (o : Whole). counted (world_of o)) c.self.view_is

pub returns-clause-steady : goal.returns-clause-steady
returns-clause-steady c = steady_counted c.args.self.now _ (counted_one (Rattle.iris_state.specs.contracts.state.State.the_view c.self.inside) _ refl c.in_ok-count.ensures.made c.in_ok-count.ensures.closed ∙ ap (λ (o : Whole). counted (world_of o)) c.self.view_is) (ap (λ (o : Whole). o.agents) c.self.view_is) c.requires.steady
