use Rattle.iris_runs.proofs.AnswersAllowed.{answers_later, answers_forgotten}
use Rattle.iris_runs.proofs.AnswersRight.{delivered_answers, decided_answers, answer_entered, given_answers}
use Rattle.iris_runs.proofs.good_laws.cities_answer_rightly.Goals as goal

pub returns-clause-arrival : goal.returns-clause-arrival
returns-clause-arrival c = delivered_answers

pub returns-clause-interrupted : goal.returns-clause-interrupted
returns-clause-interrupted c w a cache right = right

pub returns-clause-decision : goal.returns-clause-decision
returns-clause-decision c = decided_answers

pub returns-clause-entered : goal.returns-clause-entered
returns-clause-entered c = answer_entered

pub returns-clause-given : goal.returns-clause-given
returns-clause-given c = given_answers

pub returns-clause-advanced : goal.returns-clause-advanced
returns-clause-advanced c w moment later right = answers_later w.history w.turn.now moment later right

pub returns-clause-forgotten : goal.returns-clause-forgotten
returns-clause-forgotten c w stays = answers_forgotten w.history w.turn.now
