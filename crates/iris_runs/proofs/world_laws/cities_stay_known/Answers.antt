use Rattle.iris_runs.proofs.Counted.{counted_known}
use Rattle.iris_runs.proofs.Knowing.{query_known, update_known, arrival_known, decision_known, commit_known, lent_known, back_known, given_known, forgotten_known, evicted_known, advanced_known}
use Rattle.iris_runs.proofs.world_laws.cities_stay_known.Goals as goal

pub returns-clause-query : goal.returns-clause-query
returns-clause-query c = query_known

pub returns-clause-update : goal.returns-clause-update
returns-clause-update c = update_known

pub returns-clause-counted : goal.returns-clause-counted
returns-clause-counted c = counted_known

pub returns-clause-arrival : goal.returns-clause-arrival
returns-clause-arrival c = arrival_known

pub returns-clause-decision : goal.returns-clause-decision
returns-clause-decision c = decision_known

pub returns-clause-commit : goal.returns-clause-commit
returns-clause-commit c = commit_known

pub returns-clause-lent : goal.returns-clause-lent
returns-clause-lent c = lent_known

pub returns-clause-back : goal.returns-clause-back
returns-clause-back c = back_known

pub returns-clause-given : goal.returns-clause-given
returns-clause-given c = given_known

pub returns-clause-forgotten : goal.returns-clause-forgotten
returns-clause-forgotten c = forgotten_known

pub returns-clause-evicted : goal.returns-clause-evicted
returns-clause-evicted c = evicted_known

pub returns-clause-advanced : goal.returns-clause-advanced
returns-clause-advanced c = advanced_known
