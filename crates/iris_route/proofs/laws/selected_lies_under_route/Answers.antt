use Rattle.iris_route.proofs.Lawful.{selected_under_route}
use Rattle.iris_route.proofs.laws.selected_lies_under_route.Goals as goal

pub returns : goal.returns
returns c = selected_under_route
