use Rattle.std.proofs.Common.{◌≡◌, ◌-◌, ◌++◌, ◌∷◌, [], drop}
use Rattle.iris_need.specs.Program.{each, subtree}
use Rattle.iris_need.proofs.Walked.{adding}
use Rattle.iris_need.proofs.walk.Walk.+subtree.Given as goal

abbrev pub decreases-subtree : goal.decreases-subtree
decreases-subtree l = l.levels

abbrev pub invariant-loop-child : goal.invariant-loop-child
invariant-loop-child l = record {
  looks : adding l.self l.needs (each (λ child. subtree (l.levels - 1) child (l.fn.name ++ child ∷ [])) (drop l.child-index l.ids)) ≡ adding l.self l.fn.needs (subtree l.levels l.fn.label l.fn.name);
  name : l.name ≡ l.fn.name;
}
