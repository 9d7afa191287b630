use Rattle.std.proofs.Common.{ap, ◌∙◌}
use Rattle.iris_outbox.specs.Outbox.{Outgoing}
use Rattle.iris_runs.specs.Worlds.{closes}
use Rattle.iris_state.specs.Whole.{Whole, world_of}
use Rattle.iris_state.proofs.Changes.{closed_one}
use Rattle.iris_state.proofs.state.State.tell.Goals as goal

pub returns-clause-world : goal.returns-clause-world
returns-clause-world c =
    let was = (Rattle.iris_state.specs.contracts.state.State.the_view c.self.inside) in
    closed_one was _ c.args.request _ (ap (λ (o : Outgoing). record was { outbox = o; requests = c.close.new.self }) c.tell.ensures) c.close.ensures.made c.close.ensures.closed
    ∙ ap (λ (w : Whole). closes (world_of w) c.args.request) c.self.view_is
