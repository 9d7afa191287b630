use Rattle.iris_runs.proofs.AnswersAllowed.{none_answered}
use Rattle.iris_runs.proofs.StartGood.{begun_good}
use Rattle.iris_runs.proofs.good_laws.cities_begin_good.Goals as goal

pub returns-clause-good : goal.returns-clause-good
returns-clause-good c = begun_good

pub returns-clause-answers : goal.returns-clause-answers
returns-clause-answers c rows w is = none_answered w.history w.turn.now is.lasting
