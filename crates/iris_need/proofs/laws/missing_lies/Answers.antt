use Rattle.iris_need.proofs.UndecidedIsRealWork.{missing_unmet, missing_under, missing_here}
use Rattle.iris_need.proofs.laws.missing_lies.Goals as goal

pub returns-clause-unmet : goal.returns-clause-unmet
returns-clause-unmet c = missing_unmet

pub returns-clause-under : goal.returns-clause-under
returns-clause-under c = missing_under

pub returns-clause-here : goal.returns-clause-here
returns-clause-here c = missing_here
