use Rattle.iris_runs.proofs.AnswersAllowed.{nothing_answered, answers_later, answers_lasting, answers_more, answers_forgotten}
use Rattle.iris_runs.proofs.answer_laws.answers_stay_allowed.Goals as goal

pub returns-clause-nothing : goal.returns-clause-nothing
returns-clause-nothing c = nothing_answered

pub returns-clause-time : goal.returns-clause-time
returns-clause-time c = answers_later

pub returns-clause-entry : goal.returns-clause-entry
returns-clause-entry c = answers_lasting

pub returns-clause-answer : goal.returns-clause-answer
returns-clause-answer c = answers_more

pub returns-clause-forgotten : goal.returns-clause-forgotten
returns-clause-forgotten c = answers_forgotten
