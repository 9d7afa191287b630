use Rattle.iris_copies.proofs.Seen.{view_goes_on, copies_go_on}
use Rattle.iris_copies.proofs.view_laws.views_stay.Goals as goal

pub returns-clause-view : goal.returns-clause-view
returns-clause-view c = view_goes_on

pub returns-clause-copies : goal.returns-clause-copies
returns-clause-copies c = copies_go_on
