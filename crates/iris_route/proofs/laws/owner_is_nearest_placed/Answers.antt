use Rattle.iris_route.proofs.Lawful.{start_nearest}
use Rattle.iris_route.proofs.laws.owner_is_nearest_placed.Goals as goal

pub returns : goal.returns
returns c = start_nearest
