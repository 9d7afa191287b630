use Rattle.iris_gather.proofs.LaidAt.{laid_at}
use Rattle.iris_gather.proofs.laid.laid_at_names.Goals as goal

pub returns : goal.returns
returns c = laid_at
