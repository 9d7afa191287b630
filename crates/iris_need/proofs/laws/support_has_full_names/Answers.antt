use Rattle.iris_need.proofs.UndecidedIsRealWork.{support_full}
use Rattle.iris_need.proofs.laws.support_has_full_names.Goals as goal

pub returns : goal.returns
returns c = support_full
