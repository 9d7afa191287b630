use Rattle.std.proofs.Common.{◌≡◌, ◌++◌, map, drop, false}
use Rattle.iris_select.specs.Walking.{main_steps}
use Rattle.iris_select.proofs.walk.walk.Given as goal

-- one for each step so far, and for those that are left, is one for each step
abbrev pub invariant-loop : goal.invariant-loop
invariant-loop l = l.none.items ++ map (λ s. false) (main_steps (drop l.index l.steps)) ≡ map (λ s. false) (main_steps l.steps)
