use Rattle.iris_need.proofs.UndecidedIsRealWork.{real_work}
use Rattle.iris_need.proofs.laws.undecided_is_real_work.Goals as goal

pub returns : goal.returns
returns c = real_work
