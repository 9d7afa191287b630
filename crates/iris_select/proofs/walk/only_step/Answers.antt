use Rattle.iris_select.specs.Walking.{main_steps}
use Rattle.std.proofs.lemmas.Slice.Zip.{either_empty_from_Zip}
use Rattle.iris_select.proofs.Adding.{steps_ended, taken_end, only_is}
use Rattle.iris_select.proofs.walk.only_step.Goals as goal

pub returns : goal.returns
returns c =
    let steps = c.loop-step.step-iterator.a.rest.now in
    let pending = c.loop-step.step-iterator.b.rest.now in
    only_is c.loop-step.only _ _ (taken_end (main_steps steps) pending (steps_ended steps pending (either_empty_from_Zip c.loop-step.step-iterator c.next.new.self c.next.result c.in-None.is c.next.ensures.steps))) c.loop-step.invariant.all
