use Rattle.std.proofs.Common.{◌≡◌, drop}
use Rattle.iris_tree.specs.NamesId.{local_names_id, plains_name_id}
use Rattle.iris_tree.proofs.local.Local.names_id.Given as goal

abbrev pub invariant-loop-element : goal.invariant-loop-element
invariant-loop-element l = plains_name_id (drop l.element-index l.element-items) ≡ local_names_id l.self
