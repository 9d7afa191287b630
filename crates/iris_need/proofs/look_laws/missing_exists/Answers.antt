use Rattle.iris_need.proofs.Asked.{missing_there, missing_agreed}
use Rattle.iris_need.proofs.look_laws.missing_exists.Goals as goal

pub returns-clause-pieces : goal.returns-clause-pieces
returns-clause-pieces c = missing_there

pub returns-clause-agreed : goal.returns-clause-agreed
returns-clause-agreed c = missing_agreed
