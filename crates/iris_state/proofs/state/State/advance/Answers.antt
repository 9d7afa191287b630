use Rattle.std.proofs.Common.{ap, ◌∙◌}
use Rattle.iris_runs.specs.Happenings.{advanced}
use Rattle.iris_state.specs.Whole.{Whole, world_of}
use Rattle.iris_state.proofs.Changes.{advanced_one}
use Rattle.iris_state.proofs.SteadyCities.{steady_advanced}
use Rattle.iris_state.proofs.state.State.advance.Goals as goal

pub returns-clause-city : goal.returns-clause-city
returns-clause-city c = advanced_one (Rattle.iris_state.specs.contracts.state.State.the_view c.self.inside) c.args.at ∙ ap (λ (o : Whole). advanced (world_of o) c.args.at) c.self.view_is

pub returns-clause-steady : goal.returns-clause-steady
unfolding world_of
returns-clause-steady c = steady_advanced c.args.self.now _ c.args.at (advanced_one (Rattle.iris_state.specs.contracts.state.State.the_view c.self.inside) c.args.at ∙ ap (λ (o : Whole). advanced (world_of o) c.args.at) c.self.view_is) (ap (λ (o : Whole). o.agents) c.self.view_is) c.requires.later c.requires.steady
