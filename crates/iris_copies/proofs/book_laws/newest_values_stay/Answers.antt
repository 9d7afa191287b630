use Rattle.std.proofs.Common.{refl}
use Rattle.iris_copies.proofs.Times.{newest_held, newest_stays, newest_made, newest_forgotten}
use Rattle.iris_copies.proofs.book_laws.newest_values_stay.Goals as goal

pub returns-clause-held : goal.returns-clause-held
returns-clause-held c = newest_held

pub returns-clause-entry : goal.returns-clause-entry
returns-clause-entry c = newest_stays

pub returns-clause-update : goal.returns-clause-update
returns-clause-update c h now name number changes local old version is may was = newest_made h now name number changes local now version is may refl was.version_is

pub returns-clause-forgotten : goal.returns-clause-forgotten
returns-clause-forgotten c = newest_forgotten
