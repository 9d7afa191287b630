use Rattle.iris_gather.proofs.Stand.{stands_missing, stands_support, stands_cites}
use Rattle.iris_gather.proofs.basis_laws.decisions_stand.Goals as goal

pub returns-clause-missing : goal.returns-clause-missing
returns-clause-missing c = stands_missing

pub returns-clause-support : goal.returns-clause-support
returns-clause-support c = stands_support

pub returns-clause-cites : goal.returns-clause-cites
returns-clause-cites c = stands_cites
