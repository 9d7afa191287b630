use Rattle.iris_copies.proofs.Fragments.{nothing_held, taken_holds, evicted_holds, owned_holds, released_holds}
use Rattle.iris_copies.proofs.fragment_laws.fragments_hold_copies.Goals as goal

pub returns-clause-nothing : goal.returns-clause-nothing
returns-clause-nothing c = nothing_held

pub returns-clause-taken : goal.returns-clause-taken
returns-clause-taken c = taken_holds

pub returns-clause-evicted : goal.returns-clause-evicted
returns-clause-evicted c = evicted_holds

pub returns-clause-owned : goal.returns-clause-owned
returns-clause-owned c = owned_holds

pub returns-clause-released : goal.returns-clause-released
returns-clause-released c = released_holds
