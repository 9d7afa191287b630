use Rattle.iris_gather.proofs.Indexed.{kept-lent}
use Rattle.iris_gather.proofs.gathers.Gathers.give_back.Goals as goal

pub invariant_of-self : goal.invariant_of-self
invariant_of-self c = kept-lent _ _ _ c.args.number _ c.self.invariant c.set_lent.ensures
