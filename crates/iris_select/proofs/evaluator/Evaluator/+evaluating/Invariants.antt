use Rattle.std.proofs.Common.{◌≡◌, ◌||◌, ℕ, Bool, List, Option, drop, map, ◌+◌, ◌*◌, ◌++◌, ◌∷◌, [], ◌&&◌, suc, length}
use Rattle.std.specs.List.{list_any}
use Rattle.iris_tree.specs.Document.{places}
use Rattle.iris_xpath.specs.Syntax.{condition_of}
use Rattle.iris_xpath.specs.Meaning.{all_hold, any_holds}
use Rattle.iris_xpath.specs.Said.{all_conditions, steps_from, operand_side, step_on}
use Rattle.iris_select.specs.Evaluating.{document_of, place_in, IsBack, ends_of}
use Rattle.iris_select.specs.Parts.{part_of, children}
use Rattle.iris_xpath.specs.Looks.{all_look, each_look}
use Rattle.iris_select.proofs.Looked.{HasLeft, looks_below}
use Rattle.iris_select.proofs.Reach.{found_at}
use Rattle.iris_xpath.proofs.Weights.{weight, weights, side_weight, steps_weight}
use Rattle.iris_select.proofs.Weights.{size_in, rank}
use Rattle.iris_select.proofs.evaluator.Evaluator.+evaluating.Given as goal

abbrev pub decreases-all_hold : goal.decreases-all_hold
decreases-all_hold l = rank l.self.now.top.now (weights (all_conditions l.predicates.now)) (2 * length (places l.self.now.top.now) + 2)

abbrev pub decreases-tell : goal.decreases-tell
decreases-tell l = rank l.self.now.top.now (weights (all_conditions l.conditions.now)) (2 * length (places l.self.now.top.now) + 2)

abbrev pub decreases-holds : goal.decreases-holds
decreases-holds l = rank l.self.now.top.now (weight (condition_of l.expression.now)) (2 * length (places l.self.now.top.now) + 2)

abbrev pub decreases-values : goal.decreases-values
decreases-values l = rank l.self.now.top.now (side_weight (operand_side l.operand.now)) (2 * length (places l.self.now.top.now) + 2)

abbrev pub decreases-ends : goal.decreases-ends
decreases-ends l = rank l.self.now.top.now (suc (steps_weight (steps_from l.path.now.parts l.path.now.attribute))) (2 * length (places l.self.now.top.now) + 2)

abbrev pub decreases-follow : goal.decreases-follow
decreases-follow l = rank l.self.now.top.now (steps_weight (steps_from l.parts.now l.attribute.now)) (2 * length (places l.self.now.top.now) + 2)

abbrev pub decreases-go : goal.decreases-go
decreases-go l = rank l.self.now.top.now (steps_weight (step_on l.step.now l.rest.now l.attribute.now)) (2 * size_in l.self.now.top.now (part_of l.spot))

abbrev pub decreases-go_on : goal.decreases-go_on
decreases-go_on l = rank l.self.now.top.now (steps_weight (step_on l.step.now l.rest.now l.attribute.now)) (2 * size_in l.self.now.top.now (part_of l.spot) + 1)

abbrev pub decreases-arrive : goal.decreases-arrive
decreases-arrive l = rank l.self.now.top.now (steps_weight (step_on l.step.now l.rest.now l.attribute.now)) (2 * size_in l.self.now.top.now (part_of l.spot))

-- those so far hold
abbrev pub invariant-all_hold-loop-predicate : goal.invariant-all_hold-loop-predicate
invariant-all_hold-loop-predicate l = record {
  back : IsBack l.fn.self l.self;
  value : all_hold (document_of l.fn.self) (all_conditions (drop l.predicate-index l.predicates)) (place_in l.fn.self) ≡ all_hold (document_of l.fn.self) (all_conditions l.predicates) (place_in l.fn.self);
  looks : HasLeft l.fn.self l.self (λ looks. all_look (document_of l.fn.self) looks (all_conditions (drop l.predicate-index l.predicates)) (place_in l.fn.self)) (λ looks. all_look (document_of l.fn.self) looks (all_conditions l.predicates) (place_in l.fn.self));
}

-- what those so far tell, and those that are left, is what all tell
abbrev pub invariant-tell-loop-condition : goal.invariant-tell-loop-condition
invariant-tell-loop-condition l = record {
  back : IsBack l.fn.self l.self;
  looks : HasLeft l.fn.self l.self (λ looks. each_look (document_of l.fn.self) looks (all_conditions (drop l.condition-index l.conditions)) (place_in l.fn.self)) (λ looks. each_look (document_of l.fn.self) looks (all_conditions l.conditions) (place_in l.fn.self));
  some : (l.told.some || any_holds (document_of l.fn.self) (all_conditions (drop l.condition-index l.conditions)) (place_in l.fn.self)) ≡ any_holds (document_of l.fn.self) (all_conditions l.conditions) (place_in l.fn.self);
  all : (l.told.all && all_hold (document_of l.fn.self) (all_conditions (drop l.condition-index l.conditions)) (place_in l.fn.self)) ≡ all_hold (document_of l.fn.self) (all_conditions l.conditions) (place_in l.fn.self);
}

-- what was found so far, and is to be found at those that are left, is found at all
abbrev pub invariant-go-loop-at : goal.invariant-go-loop-at
invariant-go-loop-at l = record {
  back : IsBack l.fn.self l.self;
  looks : HasLeft l.fn.self l.self (λ looks. list_any (λ c. looks_below (document_of l.fn.self) looks l.step l.rest l.attribute (place_in l.fn.self ++ c.edge ∷ [])) (drop l.at (children (document_of l.fn.self) (part_of l.spot))))
      (λ looks. list_any (λ c. looks_below (document_of l.fn.self) looks l.step l.rest l.attribute (place_in l.fn.self ++ c.edge ∷ [])) (children (document_of l.fn.self) (part_of l.spot)));
  value : (test : Option (List ℕ) → Bool)
      → (list_any test (ends_of l.found.items) || list_any (λ c. found_at (document_of l.fn.self) l.step.separator l.step.test (all_conditions l.step.predicates) (steps_from l.rest l.attribute) test (place_in l.fn.self ++ c.edge ∷ [])) (drop l.at (children (document_of l.fn.self) (part_of l.spot))))
      ≡ (list_any test (ends_of l.fn.found.items) || list_any (λ c. found_at (document_of l.fn.self) l.step.separator l.step.test (all_conditions l.step.predicates) (steps_from l.rest l.attribute) test (place_in l.fn.self ++ c.edge ∷ [])) (children (document_of l.fn.self) (part_of l.spot)));
}
