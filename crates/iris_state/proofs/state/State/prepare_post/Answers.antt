use Rattle.std.proofs.Common.{refl, ap, ◌∙◌}
use Rattle.iris_state.specs.Whole.{world_of}
use Rattle.iris_state.proofs.Changes.{prepared_one}
use Rattle.iris_state.proofs.state.State.prepare_post.Goals as goal

pub returns-clause-city : goal.returns-clause-city
returns-clause-city c = prepared_one (Rattle.iris_state.specs.contracts.state.State.the_view c.self.inside) _ refl c.prepare.ensures.kept c.prepare.ensures.made ∙ ap world_of c.self.view_is

pub returns-in_err-prepare-clause-city : goal.returns-in_err-prepare-clause-city
returns-in_err-prepare-clause-city c = prepared_one (Rattle.iris_state.specs.contracts.state.State.the_view c.self.inside) _ refl c.prepare.ensures.kept c.prepare.ensures.made ∙ ap world_of c.self.view_is
