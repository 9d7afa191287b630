use Rattle.std.proofs.Common.{◌≡◌, flat_map, take}
use Rattle.iris_tree.specs.LocalText.{pair_tokens}
use Rattle.iris_tree.specs.TextLen.{counted}
use Rattle.iris_tree.proofs.attrs.Attrs.count_members.Given as goal

abbrev pub invariant-loop-name : goal.invariant-loop-name
invariant-loop-name l = l.counter ≡ counted l.initial.counter (flat_map pair_tokens (take l.name-index l.name-items))
