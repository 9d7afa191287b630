use Rattle.std.proofs.Common.{take}
use Rattle.iris_xpath.specs.Anchor.{HasNoId}
use Rattle.iris_xpath.proofs.anchor.first_id.Given as goal

abbrev pub invariant-loop-predicate : goal.invariant-loop-predicate
invariant-loop-predicate l = HasNoId (take l.predicate-index l.predicates)
