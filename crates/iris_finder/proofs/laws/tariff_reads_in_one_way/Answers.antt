use Rattle.iris_finder.proofs.Terms.{said_by_parts, said_together}
use Rattle.iris_finder.proofs.laws.tariff_reads_in_one_way.Goals as goal

pub returns : goal.returns
returns c = λ attrs t. (said_by_parts attrs t, said_together attrs t)
