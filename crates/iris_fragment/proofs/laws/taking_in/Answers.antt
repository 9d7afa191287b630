use Rattle.iris_fragment.proofs.AfterTaking.{skipped, held_then, owned_stays, placed_then, stays_if_held}
use Rattle.iris_fragment.proofs.laws.taking_in.Goals as goal

pub returns-clause-skipped : goal.returns-clause-skipped
returns-clause-skipped c = skipped

pub returns-clause-held : goal.returns-clause-held
returns-clause-held c = held_then

pub returns-clause-owned : goal.returns-clause-owned
returns-clause-owned c = owned_stays

pub returns-clause-placed : goal.returns-clause-placed
returns-clause-placed c = placed_then

pub returns-clause-stays : goal.returns-clause-stays
returns-clause-stays c = stays_if_held
