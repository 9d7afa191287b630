use Rattle.std.proofs.Common.{◌≡◌, ◌++◌, ◌∷◌, [], option_map}
use Rattle.iris_xpath.specs.Syntax.{main_of}
use Rattle.iris_select.specs.Walking.{main_steps, taken}
use Rattle.iris_select.proofs.Stopping.{one_of}
use Rattle.iris_select.proofs.walk.only_step.Given as goal

-- the one so far, and those that are left, are all
abbrev pub invariant-loop-step : goal.invariant-loop-step
invariant-loop-step l = record {
  next : (goal.iterator-loop-step).can_next l.step-iterator;
  finite : (goal.iterator-loop-step).is_finite l.step-iterator;
  all : one_of (option_map (λ s. main_of s.now) l.only) ++ taken (main_steps l.step-iterator.a.rest.now) l.step-iterator.b.rest.now ≡ taken (main_steps l.steps) l.pending;
}
