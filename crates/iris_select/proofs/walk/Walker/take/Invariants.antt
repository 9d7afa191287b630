use Rattle.std.proofs.Common.{◌≡◌, ◌++◌}
use Rattle.iris_select.specs.Evaluating.{document_of, place_in, IsBack}
use Rattle.iris_select.specs.Walking.{further, ends_here, main_steps}
use Rattle.iris_select.specs.Looking.{path_looks_at}
use Rattle.iris_select.proofs.Looked.{HasLeft}
use Rattle.iris_select.proofs.walk.Walker.take.Given as goal

-- what was told so far, and what the steps that are left tell, is what all tell
abbrev pub invariant-loop-step : goal.invariant-loop-step
invariant-loop-step l = record {
  next : (goal.iterator-loop-step).can_next l.step-iterator;
  finite : (goal.iterator-loop-step).is_finite l.step-iterator;
  steps : l.self.steps ≡ l.fn.self.steps;
  back : IsBack l.fn.self.evaluator l.self.evaluator;
  selected : l.self.selected.items ≡ l.fn.self.selected.items;
  looks : HasLeft l.fn.self.evaluator l.self.evaluator
      (λ looks. path_looks_at (document_of l.fn.self.evaluator) looks (place_in l.fn.self.evaluator) l.is_here (main_steps l.step-iterator.a.rest.now) l.step-iterator.b.rest.now)
      (λ looks. path_looks_at (document_of l.fn.self.evaluator) looks (place_in l.fn.self.evaluator) l.fn.is_begin (main_steps l.fn.self.steps.now) l.pending);
  further : l.further.items ++ further (document_of l.fn.self.evaluator) (place_in l.fn.self.evaluator) l.is_here (main_steps l.step-iterator.a.rest.now) l.step-iterator.b.rest.now
      ≡ further (document_of l.fn.self.evaluator) (place_in l.fn.self.evaluator) l.fn.is_begin (main_steps l.fn.self.steps.now) l.pending;
  ends : ends_here (document_of l.fn.self.evaluator) (place_in l.fn.self.evaluator) l.is_here (main_steps l.step-iterator.a.rest.now) l.step-iterator.b.rest.now
      ≡ ends_here (document_of l.fn.self.evaluator) (place_in l.fn.self.evaluator) l.fn.is_begin (main_steps l.fn.self.steps.now) l.pending;
}
