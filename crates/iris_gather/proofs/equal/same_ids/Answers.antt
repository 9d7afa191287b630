use Rattle.std.proofs.lemmas.Slice.Eq.{slice_eq-Decides}
use Rattle.iris_base.proofs.Labels.{label_eq-Decides}
use Rattle.iris_gather.proofs.SameParts.{match_from_decides}
use Rattle.iris_gather.proofs.equal.same_ids.Goals as goal

pub returns : goal.returns
returns c = match_from_decides c.eq.result (slice_eq-Decides label_eq-Decides c.args.one.now c.args.other.now c.eq.result c.eq.ensures)
