use Rattle.std.proofs.Common.{◌≡◌, drop}
use Rattle.iris_tree.specs.NamesKind.{names_kind, plains_name_kind}
use Rattle.iris_tree.proofs.plain.Plain.+names_kind.Given as goal

abbrev pub invariant-loop-kid : goal.invariant-loop-kid
invariant-loop-kid l = plains_name_kind l.kinds (drop l.kid-index l.kid-items) ≡ names_kind l.kinds l.self
