use Rattle.iris_need.proofs.Covered.{met_covered, unmet_covered}
use Rattle.iris_need.proofs.look_laws.looks_are_covered.Goals as goal

pub returns-clause-met : goal.returns-clause-met
returns-clause-met c = met_covered

pub returns-clause-unmet : goal.returns-clause-unmet
returns-clause-unmet c = unmet_covered
