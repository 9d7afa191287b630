use Rattle.std.proofs.Common.{◌≡◌, List, drop, ◌+◌, ◌*◌}
use Rattle.std.specs.List.{list_any, flat_map}
use Rattle.iris_select.specs.declared.walk.Selected.{Selected}
use Rattle.iris_select.specs.Evaluating.{document_of, place_in, IsBack}
use Rattle.iris_select.specs.Parts.{part_of, children}
use Rattle.iris_select.specs.Selected.{Adds}
use Rattle.iris_select.specs.Walking.{main_steps, found_at, found_below}
use Rattle.iris_select.specs.Looking.{looks_found_at}
use Rattle.iris_select.proofs.Looked.{HasLeft}
use Rattle.iris_select.proofs.Weights.{size_in}
use Rattle.iris_select.proofs.walk.Walker.+walking.Given as goal

abbrev pub decreases-descend : goal.decreases-descend
decreases-descend l = 2 * size_in l.self.now.evaluator.top.now (part_of l.spot)

abbrev pub decreases-visit : goal.decreases-visit
decreases-visit l = 2 * size_in l.self.now.evaluator.top.now (part_of l.spot) + 1

-- with what is found at those that are left, all is added
abbrev pub invariant-descend-loop-at : goal.invariant-descend-loop-at
invariant-descend-loop-at l = record {
  steps : l.self.steps ≡ l.fn.self.steps;
  back : IsBack l.fn.self.evaluator l.self.evaluator;
  looks : HasLeft l.fn.self.evaluator l.self.evaluator
      (λ looks. list_any (looks_found_at (document_of l.fn.self.evaluator) looks (main_steps l.fn.self.steps.now) l.pending (place_in l.fn.self.evaluator)) (drop l.at (children (document_of l.fn.self.evaluator) (part_of l.spot))))
      (λ looks. list_any (looks_found_at (document_of l.fn.self.evaluator) looks (main_steps l.fn.self.steps.now) l.pending (place_in l.fn.self.evaluator)) (children (document_of l.fn.self.evaluator) (part_of l.spot)));
  found : (new : List Selected)
      → Adds (document_of l.fn.self.evaluator) l.self.selected.items new
      (flat_map (found_at (document_of l.fn.self.evaluator) (main_steps l.fn.self.steps.now) l.pending (place_in l.fn.self.evaluator)) (drop l.at (children (document_of l.fn.self.evaluator) (part_of l.spot))))
      → Adds (document_of l.fn.self.evaluator) l.fn.self.selected.items new (found_below (document_of l.fn.self.evaluator) (main_steps l.fn.self.steps.now) l.pending (place_in l.fn.self.evaluator) (part_of l.spot));
}
