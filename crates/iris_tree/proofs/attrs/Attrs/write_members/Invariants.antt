use Rattle.std.proofs.Common.{◌≡◌, ◌++◌, flat_map, take}
use Rattle.iris_tree.specs.LocalText.{pair_tokens}
use Rattle.iris_tree.proofs.attrs.Attrs.write_members.Given as goal

abbrev pub invariant-loop-name : goal.invariant-loop-name
invariant-loop-name l = l.out ≡ l.initial.out ++ flat_map pair_tokens (take l.name-index l.name-items)
