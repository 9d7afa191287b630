use Rattle.std.proofs.Common.{◌≡◌, ◌||◌, ℕ, Bool, List, Option, drop}
use Rattle.std.specs.List.{list_any}
use Rattle.iris_select.specs.Parts.{part_of, children}
use Rattle.iris_select.specs.Evaluating.{ends_of, attributes_in}
use Rattle.iris_select.proofs.Weights.{size_in}
use Rattle.iris_select.proofs.evaluator.+add_attributes.Given as goal

abbrev pub decreases-add_attributes : goal.decreases-add_attributes
decreases-add_attributes l = size_in l.top.now (part_of l.spot)

-- what was found so far, and is to be found at those that are left, is found at all
abbrev pub invariant-loop-at : goal.invariant-loop-at
invariant-loop-at l = (test : Option (List ℕ) → Bool)
    → (list_any test (ends_of l.found.items) || list_any (λ c. list_any test (attributes_in l.top c.part l.name)) (drop l.at (children l.top (part_of l.spot))))
    ≡ (list_any test (ends_of l.fn.found.items) || list_any test (attributes_in l.top (part_of l.spot) l.name))
