use Rattle.std.proofs.Common.{◌≡◌, ◌∙◌, List, ap, map}
use Rattle.iris_base.specs.declared.name.Label.{Label}
use Rattle.iris_xpath.specs.Syntax.{main_of}
use Rattle.iris_need.specs.Program.{enter, spot_of}
use Rattle.iris_need.specs.Walk.{spot_in}
use Rattle.iris_need.proofs.Collected.{all_done}
use Rattle.iris_need.proofs.Resumed.{state_more}
use Rattle.iris_need.proofs.walk.Walk.resume_all.Goals as goal

pub loop-state-preserved : goal.loop-state-preserved
loop-state-preserved c =
    let spot_is : spot_in c.loop-state.name c.of-spot.result ≡ spot_of c.args.name.now = ap (λ (n : List Label). spot_in n c.of-spot.result) c.loop-state.invariant.name ∙ c.of-spot.ensures in
    record {
      adds = state_more c.args.self.now (map main_of c.args.steps.now) (spot_of c.args.name.now) (spot_in c.loop-state.name c.of-spot.result) c.args.states.now c.loop-state.state-index _ c.loop-state.needs c.resume.new.needs _ c.loop-state-test.true spot_is c.in_ok-resume.ensures.adds c.loop-state.invariant.adds;
      name = c.in_ok-resume.ensures.name ∙ c.loop-state.invariant.name;
    }

pub returns : goal.returns
returns c =
    all_done c.args.self.now.takes c.args.self.now.above.now c.args.self.now.view.now (enter c.args.self.now.top (map main_of c.args.steps.now) (spot_of c.args.name.now)) c.args.states.now c.loop-state.state-index c.loop-state.needs _ c.loop-state-test.false c.loop-state.invariant.adds
