use Rattle.iris_copies.proofs.Seen.{nothing_seen, added_view, laid_view, laid_usable, decided_view}
use Rattle.iris_copies.proofs.view_laws.views_take_copies.Goals as goal

pub returns-clause-nothing : goal.returns-clause-nothing
returns-clause-nothing c = nothing_seen

pub returns-clause-piece : goal.returns-clause-piece
returns-clause-piece c = added_view

pub returns-clause-pieces : goal.returns-clause-pieces
returns-clause-pieces c = laid_view

pub returns-clause-laid : goal.returns-clause-laid
returns-clause-laid c = laid_usable

pub returns-clause-decided : goal.returns-clause-decided
returns-clause-decided c = decided_view
