use Rattle.std.proofs.Common.{◌≡◌, drop}
use Rattle.iris_tree.specs.NamesId.{names_id, plains_name_id}
use Rattle.iris_tree.proofs.plain.Plain.+names_id.Given as goal

abbrev pub invariant-loop-kid : goal.invariant-loop-kid
invariant-loop-kid l = plains_name_id (drop l.kid-index l.kid-items) ≡ names_id l.self
