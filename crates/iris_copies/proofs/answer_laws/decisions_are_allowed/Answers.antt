use Rattle.iris_copies.proofs.Answered.{decision_allowed}
use Rattle.iris_copies.proofs.answer_laws.decisions_are_allowed.Goals as goal

pub returns : goal.returns
returns c = decision_allowed
