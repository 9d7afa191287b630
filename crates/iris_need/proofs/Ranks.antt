-- Why a walk ends: what is evaluated is smaller, or stands lower.
use Rattle.std.proofs.Common.{ℕ, suc, ◌+◌, ◌*◌, ◌≤◌, List, [], ◌∷◌, arith}
use Rattle.iris_xpath.specs.Syntax.{Syntax}
use Rattle.iris_xpath.specs.Said.{all_conditions, steps_from}
use Rattle.iris_xpath.proofs.Weights.{weights, steps_weight}
use Rattle.iris_base.specs.declared.name.Label.{Label}
use Rattle.iris_need.specs.Program.{room}
use Rattle.iris_need.specs.declared.further.Further.{Further}
use Rattle.iris_need.specs.declared.further.Further.TheVariants.{Main, Path}
use Rattle.iris_need.specs.declared.further.Trail.{Trail}

-- how large the further steps of a query are
abbrev pub main_weight : Syntax → ℕ
main_weight [] = 0
main_weight (s ∷ ss) = suc (weights (all_conditions s.predicates) + main_weight ss)

-- how large the further parts of a path are
abbrev pub trail_weight : Trail → ℕ
trail_weight trail = steps_weight (steps_from trail.parts.now trail.attribute.now)

-- how large what is done at each place is
abbrev pub further_weight : Further → ℕ
further_weight (Main route) = main_weight (route.step.now ∷ route.rest.now)
further_weight (Path s trail) = suc (weights (all_conditions s.now.predicates) + trail_weight trail)

-- first by what is evaluated, then by how high it stands
abbrev pub rank : ℕ → ℕ → ℕ
rank size height = size * 80 + height

-- no name has more levels below it than labels that it may have
pub few_levels : (name : List Label) → room name ≤ 16
unfolding room
few_levels name = omega arith
