use Rattle.iris_json.proofs.KindReading.{not_sole}
use Rattle.iris_json.proofs.keys.sole_at.Goals as goal

pub returns-else-items-eq1-clause-missing : goal.returns-else-items-eq1-clause-missing
returns-else-items-eq1-clause-missing c missing d is = not_sole _ c.in_ok-items.items.now d c.in_ok-items.ensures c.if-items-eq1.false is
