use Rattle.std.proofs.Common.{◌∙◌, sym}
use Rattle.iris_need.proofs.Walked.{own_ids, own_full}
use Rattle.iris_need.proofs.walk.Walk.look_at_start.Goals as goal

pub returns-in_ok-see_ids-in-Ids : goal.returns-in_ok-see_ids-in-Ids
returns-in_ok-see_ids-in-Ids c = c.in_ok-see_ids-in-Ids.ensures.look ∙ sym (own_ids c.args.self.now c.args.needs.now c.args.name.now c.args.level c.in-Ids.is)

pub returns-in_ok-see_full-in-Full : goal.returns-in_ok-see_full-in-Full
returns-in_ok-see_full-in-Full c = c.in_ok-see_full-in-Full.ensures.look ∙ sym (own_full c.args.self.now c.args.needs.now c.args.name.now c.args.level c.in-Full.is)
