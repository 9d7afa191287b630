use Rattle.iris_finder.proofs.QueryText.{question_found}
use Rattle.iris_finder.proofs.laws.question_is_a_query.Goals as goal

pub returns : goal.returns
returns c = question_found
