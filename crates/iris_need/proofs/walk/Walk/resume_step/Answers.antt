use Rattle.std.proofs.Common.{◌∙◌}
use Rattle.std.proofs.lemmas.Result.{on_ok_weaker}
use Rattle.iris_need.specs.Walk.{spot_in}
use Rattle.iris_need.proofs.Resumed.{none_entered, step_entered}
use Rattle.iris_need.proofs.walk.Walk.resume_step.Goals as goal

pub returns-in_default-clause-adds : goal.returns-in_default-clause-adds
returns-in_default-clause-adds c = none_entered c.args.self.now c.args.needs.now c.args.state c.args.number c.args.steps.now (spot_in c.args.name.now c.args.spot.now) c.in_default.ensures.cut

pub returns-clause-adds : goal.returns-clause-adds
returns-clause-adds c =
    on_ok_weaker c.go.result (λ h. h ∙ step_entered c.args.self.now c.args.needs.now c.args.state c.args.number c.in-Some.route.number c.args.steps.now c.in-Some.route.rest.now c.in-Some.route.step.now (spot_in c.args.name.now c.args.spot.now) c.in-Some.ensures.cut c.in-Some.ensures.from) c.go.ensures.adds
