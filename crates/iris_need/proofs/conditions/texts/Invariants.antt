use Rattle.std.proofs.Common.{◌≡◌, map, take}
use Rattle.std.specs.List.{filter_map}
use Rattle.iris_xpath.specs.Meaning.{of_text}
use Rattle.iris_xpath.specs.Values.{value_of}
use Rattle.iris_need.proofs.conditions.texts.Given as goal

-- those so far
abbrev pub invariant-loop-end : goal.invariant-loop-end
invariant-loop-end l = map value_of l.values.items ≡ map of_text (filter_map (λ end. end) (take l.end-index l.ends))
