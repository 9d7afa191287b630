use Rattle.iris_copies.proofs.Caches.{taken_all_holds, touched_holds, evicted_from_holds, last_evicted_holds, trimmed_holds, owned_in_holds, released_in_holds}
use Rattle.iris_copies.proofs.fragment_laws.caches_hold_copies.Goals as goal

pub returns-clause-taken : goal.returns-clause-taken
returns-clause-taken c = taken_all_holds

pub returns-clause-touched : goal.returns-clause-touched
returns-clause-touched c = touched_holds

pub returns-clause-evicted : goal.returns-clause-evicted
returns-clause-evicted c = evicted_from_holds

pub returns-clause-last_evicted : goal.returns-clause-last_evicted
returns-clause-last_evicted c = last_evicted_holds

pub returns-clause-trimmed : goal.returns-clause-trimmed
returns-clause-trimmed c = trimmed_holds

pub returns-clause-owned : goal.returns-clause-owned
returns-clause-owned c = owned_in_holds

pub returns-clause-released : goal.returns-clause-released
returns-clause-released c = released_in_holds
