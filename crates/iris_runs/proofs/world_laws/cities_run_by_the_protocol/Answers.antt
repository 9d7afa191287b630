use Rattle.iris_runs.proofs.WorldTies.{query_is, update_is, arrival_is, decision_is, commit_is, lent_is, back_is, outdated_is, given_is, forgotten_is, evicted_is, advanced_is}
use Rattle.iris_runs.proofs.world_laws.cities_run_by_the_protocol.Goals as goal

pub returns-clause-query : goal.returns-clause-query
returns-clause-query c = query_is

pub returns-clause-update : goal.returns-clause-update
returns-clause-update c = update_is

pub returns-clause-arrival : goal.returns-clause-arrival
returns-clause-arrival c = arrival_is

pub returns-clause-decision : goal.returns-clause-decision
returns-clause-decision c = decision_is

pub returns-clause-commit : goal.returns-clause-commit
returns-clause-commit c = commit_is

pub returns-clause-lent : goal.returns-clause-lent
returns-clause-lent c = lent_is

pub returns-clause-back : goal.returns-clause-back
returns-clause-back c = back_is

pub returns-clause-outdated : goal.returns-clause-outdated
returns-clause-outdated c = outdated_is

pub returns-clause-given : goal.returns-clause-given
returns-clause-given c = given_is

pub returns-clause-forgotten : goal.returns-clause-forgotten
returns-clause-forgotten c = forgotten_is

pub returns-clause-evicted : goal.returns-clause-evicted
returns-clause-evicted c = evicted_is

pub returns-clause-advanced : goal.returns-clause-advanced
returns-clause-advanced c = advanced_is
