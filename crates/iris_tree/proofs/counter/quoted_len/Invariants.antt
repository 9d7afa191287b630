use Rattle.std.proofs.Common.{◌≡◌, ◌+◌, length, take}
use Rattle.json.specs.Print.{escape}
use Rattle.iris_tree.specs.TextLen.{saturated}
use Rattle.iris_tree.proofs.counter.quoted_len.Given as goal

abbrev pub invariant-loop-byte : goal.invariant-loop-byte
invariant-loop-byte l = l.len ≡ saturated (2 + length (escape (take l.byte-index l.byte-items)))
