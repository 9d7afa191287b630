use Rattle.iris_need.proofs.Laid.{laid_grows, added_meets, came_from}
use Rattle.iris_need.proofs.look_laws.views_grow.Goals as goal

pub returns-clause-stays : goal.returns-clause-stays
returns-clause-stays c = laid_grows

pub returns-clause-met : goal.returns-clause-met
returns-clause-met c = added_meets

pub returns-clause-came : goal.returns-clause-came
returns-clause-came c = came_from
