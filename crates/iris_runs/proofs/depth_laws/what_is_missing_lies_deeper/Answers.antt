use Rattle.iris_runs.proofs.Depths.{missing_fits}
use Rattle.iris_runs.proofs.depth_laws.what_is_missing_lies_deeper.Goals as goal

pub returns : goal.returns
returns c = missing_fits
