use Rattle.iris_need.proofs.UndecidedIsRealWork.{same_evaluation, determined_from}
use Rattle.iris_need.proofs.laws.answer_is_determined.Goals as goal

pub returns-clause-same : goal.returns-clause-same
returns-clause-same c = same_evaluation

pub returns-clause-decided : goal.returns-clause-decided
returns-clause-decided c = determined_from
