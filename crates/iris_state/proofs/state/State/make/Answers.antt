use Rattle.std.proofs.Common.{refl, sym, ap, ◌∙◌}
use Rattle.iris_agent.specs.declared.step.Step.{Step}
use Rattle.iris_runs.specs.Worlds.{posting, stepped}
use Rattle.iris_state.specs.Whole.{Whole, world_of}
use Rattle.iris_state.proofs.Changes.{posted_one}
use Rattle.iris_state.proofs.state.State.make.Goals as goal

pub returns-in-Post-clause-world : goal.returns-in-Post-clause-world
returns-in-Post-clause-world c =
    posted_one (Rattle.iris_state.specs.contracts.state.State.the_view c.self.inside) _ c.in-Post.to c.in-Post.message refl c.send.ensures.post c.send.ensures.seen c.send.ensures.made
    ∙ ap (λ (w : Whole). posting (world_of w) c.in-Post.to c.in-Post.message) c.self.view_is
    ∙ ap (λ (s : Step). stepped (world_of c.args.self.now) s) (sym c.in-Post.is)
