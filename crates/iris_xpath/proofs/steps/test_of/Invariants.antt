use Rattle.std.proofs.Common.{◌≡◌, false, take}
use Rattle.iris_xpath.specs.Trees.{has}
use Rattle.iris_xpath.proofs.steps.test_of.Given as goal

abbrev pub invariant-loop-kind : goal.invariant-loop-kind
invariant-loop-kind l = has (take l.kind-index l.kinds) l.fn.word ≡ false
