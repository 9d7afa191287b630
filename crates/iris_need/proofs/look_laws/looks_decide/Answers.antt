use Rattle.iris_need.proofs.Restricted.{same_evaluation, same_missing, same_support}
use Rattle.iris_need.proofs.Supported.{same_by_support}
use Rattle.iris_need.proofs.look_laws.looks_decide.Goals as goal

pub returns-clause-evaluation : goal.returns-clause-evaluation
returns-clause-evaluation c = same_evaluation

pub returns-clause-missing : goal.returns-clause-missing
returns-clause-missing c = same_missing

pub returns-clause-support : goal.returns-clause-support
returns-clause-support c = same_support

pub returns-clause-by_support : goal.returns-clause-by_support
returns-clause-by_support c = same_by_support
