use Rattle.std.proofs.Common.{◌≡◌, drop, map}
use Rattle.std.specs.List.{list_any}
use Rattle.iris_xpath.specs.Meaning.{compare}
use Rattle.iris_xpath.specs.Values.{value_of}
use Rattle.iris_xpath.proofs.value.some_compare.Given as goal

-- none so far does
abbrev pub invariant-loop-value : goal.invariant-loop-value
invariant-loop-value l =
    list_any (λ u. list_any (compare l.comparison u) (map value_of l.right)) (map value_of (drop l.value-index l.left)) ≡ list_any (λ u. list_any (compare l.comparison u) (map value_of l.right)) (map value_of l.left)
