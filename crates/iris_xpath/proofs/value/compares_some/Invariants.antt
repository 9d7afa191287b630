use Rattle.std.proofs.Common.{◌≡◌, drop, map}
use Rattle.std.specs.List.{list_any}
use Rattle.iris_xpath.specs.Meaning.{compare}
use Rattle.iris_xpath.specs.Values.{value_of}
use Rattle.iris_xpath.proofs.value.compares_some.Given as goal

-- none so far does
abbrev pub invariant-loop-other : goal.invariant-loop-other
invariant-loop-other l = list_any (compare l.comparison (value_of l.value)) (map value_of (drop l.other-index l.values)) ≡ list_any (compare l.comparison (value_of l.value)) (map value_of l.values)
