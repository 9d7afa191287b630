use Rattle.iris_runs.proofs.AmongCities.{begun_among, query_among, update_among, delivered_among, interrupted_among, decided_among, lent_among, given_among, evicted_among, advanced_among, forgotten_among}
use Rattle.iris_runs.proofs.among_laws.cities_keep_their_agents.Goals as goal

pub returns-clause-begun : goal.returns-clause-begun
returns-clause-begun c = begun_among

pub returns-clause-query : goal.returns-clause-query
returns-clause-query c = query_among

pub returns-clause-update : goal.returns-clause-update
returns-clause-update c = update_among

pub returns-clause-arrival : goal.returns-clause-arrival
returns-clause-arrival c = delivered_among

pub returns-clause-interrupted : goal.returns-clause-interrupted
returns-clause-interrupted c = interrupted_among

pub returns-clause-decision : goal.returns-clause-decision
returns-clause-decision c = decided_among

pub returns-clause-lent : goal.returns-clause-lent
returns-clause-lent c = lent_among

pub returns-clause-given : goal.returns-clause-given
returns-clause-given c = given_among

pub returns-clause-evicted : goal.returns-clause-evicted
returns-clause-evicted c = evicted_among

pub returns-clause-advanced : goal.returns-clause-advanced
returns-clause-advanced c = advanced_among

pub returns-clause-forgotten : goal.returns-clause-forgotten
returns-clause-forgotten c = forgotten_among
