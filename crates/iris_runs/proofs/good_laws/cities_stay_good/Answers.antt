use Rattle.iris_runs.proofs.StayArrived.{arrived_good}
use Rattle.iris_runs.proofs.StayPosted.{query_good, update_good, counted_good}
use Rattle.iris_runs.proofs.StayDecided.{decided_good}
use Rattle.iris_runs.proofs.StayGiven.{given_good}
use Rattle.iris_runs.proofs.StayQuiet.{advanced_good, interrupted_good, evicted_good, lent_good, back_good, forgotten_good}
use Rattle.iris_runs.proofs.good_laws.cities_stay_good.Goals as goal

pub returns-clause-query : goal.returns-clause-query
returns-clause-query c = query_good

pub returns-clause-update : goal.returns-clause-update
returns-clause-update c = update_good

pub returns-clause-counted : goal.returns-clause-counted
returns-clause-counted c = counted_good

pub returns-clause-lent : goal.returns-clause-lent
returns-clause-lent c = lent_good

pub returns-clause-back : goal.returns-clause-back
returns-clause-back c = back_good

pub returns-clause-evicted : goal.returns-clause-evicted
returns-clause-evicted c = evicted_good

pub returns-clause-advanced : goal.returns-clause-advanced
returns-clause-advanced c = advanced_good

pub returns-clause-forgotten : goal.returns-clause-forgotten
returns-clause-forgotten c = forgotten_good

pub returns-clause-given : goal.returns-clause-given
returns-clause-given c = given_good

pub returns-clause-decision : goal.returns-clause-decision
returns-clause-decision c = decided_good

pub returns-clause-arrival : goal.returns-clause-arrival
returns-clause-arrival c = arrived_good

pub returns-clause-interrupted : goal.returns-clause-interrupted
returns-clause-interrupted c = interrupted_good
