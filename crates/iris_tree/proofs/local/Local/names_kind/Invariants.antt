use Rattle.std.proofs.Common.{◌≡◌, drop}
use Rattle.iris_tree.specs.NamesKind.{plains_name_kind}
use Rattle.iris_tree.proofs.local.Local.names_kind.Given as goal

abbrev pub invariant-loop-element : goal.invariant-loop-element
invariant-loop-element l = plains_name_kind l.kinds (drop l.element-index l.element-items) ≡ plains_name_kind l.kinds l.self.plain
