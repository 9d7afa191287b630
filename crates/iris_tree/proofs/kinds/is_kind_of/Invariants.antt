use Rattle.std.proofs.Common.{◌≡◌, drop}
use Rattle.iris_tree.specs.NamesKind.{is_kind_of}
use Rattle.iris_tree.proofs.kinds.is_kind_of.Given as goal

abbrev pub invariant-loop-kind : goal.invariant-loop-kind
invariant-loop-kind l = is_kind_of (drop l.kind-index l.kinds) l.tag ≡ is_kind_of l.kinds l.tag
