use Rattle.iris_copies.proofs.FragmentPieces.{usable_copies, usable_fresh}
use Rattle.iris_copies.proofs.fragment_laws.usable_pieces_are_copies.Goals as goal

pub returns-clause-copies : goal.returns-clause-copies
returns-clause-copies c = usable_copies

pub returns-clause-fresh : goal.returns-clause-fresh
returns-clause-fresh c = usable_fresh
