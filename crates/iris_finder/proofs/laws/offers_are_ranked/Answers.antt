use Rattle.iris_finder.proofs.OfferOrder.{ranked_is, ranked_once}
use Rattle.iris_finder.proofs.laws.offers_are_ranked.Goals as goal

pub returns-clause-ranked : goal.returns-clause-ranked
returns-clause-ranked c = ranked_is

pub returns-clause-once : goal.returns-clause-once
returns-clause-once c = λ offers ordered are. ranked_once offers ordered are.same are.rise
