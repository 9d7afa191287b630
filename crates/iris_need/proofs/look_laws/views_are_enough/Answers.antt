use Rattle.iris_need.proofs.Deciding.{laid_part, decided_evaluation, decided_missing, decided_support, decided_full}
use Rattle.iris_need.proofs.look_laws.views_are_enough.Goals as goal

pub returns-clause-part : goal.returns-clause-part
returns-clause-part c = laid_part

pub returns-clause-evaluation : goal.returns-clause-evaluation
returns-clause-evaluation c = decided_evaluation

pub returns-clause-missing : goal.returns-clause-missing
returns-clause-missing c = decided_missing

pub returns-clause-support : goal.returns-clause-support
returns-clause-support c = decided_support

pub returns-clause-full : goal.returns-clause-full
returns-clause-full c = decided_full
