use Rattle.std.proofs.Common.{Option, sym, ap, ◌∙◌, subst}
use Rattle.std.specs.Prelude.{IfSome, option_copied}
use Rattle.iris_runs.specs.Worlds.{Sent}
use Rattle.iris_state.specs.Events.{IsJudged}
use Rattle.iris_state.specs.Whole.{Whole, world_of}
use Rattle.iris_state.specs.contracts.state.State.{the_view}
use Rattle.iris_state.proofs.ArrivalHere.{sent_there}
use Rattle.iris_state.proofs.state.State.is_post_over.Goals as goal

pub returns : goal.returns
returns c =
    let there = sent_there (the_view c.self.inside) c.args.post c.posts.result.now (option_copied c.get.result) c.in-Some.sent.now c.posts.ensures c.get.ensures (ap option_copied c.in-Some.is) in
    let now = ap (λ (o : Whole). (world_of o).post c.args.post) (sym c.self.view_is) ∙ there in
    subst (λ (o : Option Sent). IfSome o (λ sent. IsJudged (world_of c.args.self.now) sent.message c.is_over.result)) (sym now) c.is_over.ensures
