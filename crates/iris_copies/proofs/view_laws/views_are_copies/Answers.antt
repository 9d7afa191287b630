use Rattle.iris_copies.proofs.Seen.{needed_copies, needed_fresh}
use Rattle.iris_copies.proofs.view_laws.views_are_copies.Goals as goal

pub returns-clause-copies : goal.returns-clause-copies
returns-clause-copies c h now floor view is = is.copies

pub returns-clause-fresh : goal.returns-clause-fresh
returns-clause-fresh c h now floor view is = is.fresh

pub returns-clause-copies_for : goal.returns-clause-copies_for
returns-clause-copies_for c = needed_copies

pub returns-clause-fresh_for : goal.returns-clause-fresh_for
returns-clause-fresh_for c = needed_fresh
