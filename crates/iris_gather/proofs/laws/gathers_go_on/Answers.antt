use Rattle.iris_gather.proofs.Life.{settled_sound, replied_sound}
use Rattle.iris_gather.proofs.laws.gathers_go_on.Goals as goal

pub returns-clause-settled : goal.returns-clause-settled
returns-clause-settled c = settled_sound

pub returns-clause-replied : goal.returns-clause-replied
returns-clause-replied c = replied_sound
