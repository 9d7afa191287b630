use Rattle.iris_runs.proofs.AtRest.{still_at_rest}
use Rattle.iris_runs.proofs.good_laws.still_cities_are_at_rest.Goals as goal

pub returns : goal.returns
returns c = still_at_rest
