use Rattle.std.proofs.Common.{drop}
use Rattle.iris_gather.proofs.SameParts.{AreSameIf}
use Rattle.iris_tree.specs.declared.plain.Plain.TheViews.{out-Plain}
use Rattle.iris_gather.proofs.equal.+same_plain.Given as goal

abbrev pub invariant-loop-kid : goal.invariant-loop-kid
invariant-loop-kid l = AreSameIf (out-Plain l.one).kids (out-Plain l.other).kids (drop l.kid-index l.kid-items) l.rest
