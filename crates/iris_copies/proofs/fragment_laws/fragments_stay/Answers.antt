use Rattle.iris_copies.proofs.Fragments.{holds_later, entry_holds, renewed_holds, forgotten_holds}
use Rattle.iris_copies.proofs.fragment_laws.fragments_stay.Goals as goal

pub returns-clause-later : goal.returns-clause-later
returns-clause-later c = holds_later

pub returns-clause-entry : goal.returns-clause-entry
returns-clause-entry c = entry_holds

pub returns-clause-renewed : goal.returns-clause-renewed
returns-clause-renewed c = renewed_holds

pub returns-clause-forgotten : goal.returns-clause-forgotten
returns-clause-forgotten c = forgotten_holds
