use Rattle.std.proofs.Common.{filter}
use Rattle.iris_need.specs.Pieces.{view_of}
use Rattle.iris_need.specs.Needs.{looks, is_missing}
use Rattle.iris_need.proofs.Merged.{merged_ordered, support_ordered}
use Rattle.iris_need.proofs.laws.needs_are_ordered.Goals as goal

pub returns-clause-missing : goal.returns-clause-missing
returns-clause-missing c query start view = merged_ordered (filter (is_missing start (view_of view)) (looks query start (view_of view)))

pub returns-clause-support : goal.returns-clause-support
returns-clause-support c = support_ordered
