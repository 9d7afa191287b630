use Rattle.iris_copies.proofs.Answered.{answer_allowed}
use Rattle.iris_copies.proofs.answer_laws.answers_are_allowed.Goals as goal

pub returns : goal.returns
returns c h now floor query view items present is none determined = answer_allowed h now floor query view is none items present determined
