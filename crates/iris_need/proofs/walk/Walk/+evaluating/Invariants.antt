use Rattle.std.proofs.Common.{◌≡◌, ◌+◌, ◌*◌, ◌∷◌, ℕ, List, suc, drop}
use Rattle.iris_xpath.specs.Syntax.{condition_of}
use Rattle.iris_xpath.specs.Said.{all_conditions, operand_side}
use Rattle.iris_xpath.proofs.Weights.{weight, weights, side_weight}
use Rattle.iris_need.specs.declared.further.Further.TheVariants.{Path}
use Rattle.iris_need.specs.Program.{gather, element_spot}
use Rattle.iris_need.specs.Walk.{path_of, child_reached, further_program, HasFound}
use Rattle.iris_need.proofs.Ranks.{main_weight, trail_weight, further_weight, rank}
use Rattle.iris_need.proofs.Walked.{adding, IsFound}
use Rattle.iris_need.proofs.walk.Walk.+evaluating.Given as goal

abbrev pub decreases-all_hold : goal.decreases-all_hold
decreases-all_hold l = rank (weights (all_conditions l.predicates.now)) 0

abbrev pub decreases-holds : goal.decreases-holds
decreases-holds l = rank (weight (condition_of l.expression.now)) 0

abbrev pub decreases-any_holds : goal.decreases-any_holds
decreases-any_holds l = rank (weights (all_conditions l.conditions.now)) 0

abbrev pub decreases-each_holds : goal.decreases-each_holds
decreases-each_holds l = rank (weights (all_conditions l.conditions.now)) 0

abbrev pub decreases-side : goal.decreases-side
decreases-side l = rank (side_weight (operand_side l.operand.now)) 0

abbrev pub decreases-ends : goal.decreases-ends
decreases-ends l = rank (suc (trail_weight l.trail.now)) 0

abbrev pub decreases-follow : goal.decreases-follow
decreases-follow l = rank (trail_weight l.trail.now) 71

abbrev pub decreases-follow_above : goal.decreases-follow_above
decreases-follow_above l = rank (trail_weight l.trail.now) 72

abbrev pub decreases-reach : goal.decreases-reach
decreases-reach l = rank (further_weight l.further.now) 70

abbrev pub decreases-from_node : goal.decreases-from_node
decreases-from_node l = rank (further_weight l.further.now) (4 * l.levels + 5)

abbrev pub decreases-to_children : goal.decreases-to_children
decreases-to_children l = rank (further_weight l.further.now) (4 * l.levels + 4)

abbrev pub decreases-to_child : goal.decreases-to_child
decreases-to_child l = rank (further_weight l.further.now) (4 * l.levels + 3)

abbrev pub decreases-to_deeper : goal.decreases-to_deeper
decreases-to_deeper l = rank (further_weight l.further.now) (4 * l.levels + 2)

abbrev pub decreases-to_label : goal.decreases-to_label
decreases-to_label l = rank (further_weight l.further.now) 2

abbrev pub decreases-to_elements : goal.decreases-to_elements
decreases-to_elements l = rank (further_weight l.further.now) 2

abbrev pub decreases-arrive : goal.decreases-arrive
decreases-arrive l = rank (further_weight l.further.now) 1

abbrev pub decreases-pass : goal.decreases-pass
decreases-pass l = rank (further_weight (Path l.step l.trail.now)) 0

abbrev pub decreases-test : goal.decreases-test
decreases-test l = rank (main_weight (l.route.now.step.now ∷ l.route.now.rest.now)) 0

abbrev pub decreases-go_on : goal.decreases-go_on
decreases-go_on l = rank (main_weight l.route.now.rest.now) 72

abbrev pub decreases-go : goal.decreases-go
decreases-go l = rank (main_weight (l.route.now.step.now ∷ l.route.now.rest.now)) 71

-- what is done, and what is left, is all
abbrev pub invariant-to_children-loop-child : goal.invariant-to_children-loop-child
invariant-to_children-loop-child l = record {
  name : l.name ≡ l.fn.name;
  adds : adding l.self l.needs (gather (child_reached l.self l.levels l.further l.fn.name) (drop l.child-index l.ids)) ≡ adding l.self l.fn.needs (gather (child_reached l.self l.levels l.further l.fn.name) l.ids);
  gives : IsFound l.self (HasFound l.further) (child_reached l.self l.levels l.further l.fn.name) l.told l.fn.ends.items l.ends.items l.ids l.child-index;
}

abbrev pub invariant-to_elements-loop-path : goal.invariant-to_elements-loop-path
invariant-to_elements-loop-path l = record {
  name : l.name ≡ l.fn.name;
  adds : adding l.self l.needs (gather (λ (path : List ℕ). further_program l.self.top l.further (element_spot l.fn.name l.local (path_of path))) (drop l.path-index l.path-items)) ≡ adding l.self l.fn.needs (gather (λ (path : List ℕ). further_program l.self.top l.further (element_spot l.fn.name l.local (path_of path))) l.path-items);
  gives : IsFound l.self (HasFound l.further) (λ (path : List ℕ). further_program l.self.top l.further (element_spot l.fn.name l.local (path_of path))) l.told l.fn.ends.items l.ends.items l.path-items l.path-index;
}
