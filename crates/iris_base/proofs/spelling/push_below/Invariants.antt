use Rattle.std.proofs.Common.{◌≡◌, ◌++◌, map, string_bytes}
use Rattle.iris_base.specs.NameText.{dotted}
use Rattle.iris_base.proofs.spelling.push_below.Given as goal

abbrev pub invariant-loop-label : goal.invariant-loop-label
invariant-loop-label l = string_bytes l.text ≡ string_bytes l.initial.text ++ dotted (map (λ r. r.now) l.yielded)
