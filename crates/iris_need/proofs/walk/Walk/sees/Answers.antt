use Rattle.iris_need.proofs.Walked.{under_is}
use Rattle.iris_need.proofs.walk.Walk.sees.Goals as goal

pub returns : goal.returns
returns c = under_is c.is_under.result c.args.name.now c.args.self.now.above.now c.is_under.ensures
