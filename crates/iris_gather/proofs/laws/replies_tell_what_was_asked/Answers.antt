use Rattle.iris_gather.proofs.Gathered.{reply_meets, gathered_replies}
use Rattle.iris_gather.proofs.laws.replies_tell_what_was_asked.Goals as goal

pub returns-clause-met : goal.returns-clause-met
returns-clause-met c g ask need pieces reply = reply_meets g.view need.name need.level pieces reply

pub returns-clause-replies : goal.returns-clause-replies
returns-clause-replies c g some sound = gathered_replies g.start g.view some sound.gathered
