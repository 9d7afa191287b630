use Rattle.iris_copies.proofs.FragmentPieces.{held_copy, own_piece}
use Rattle.iris_copies.proofs.fragment_laws.held_pieces_are_copies.Goals as goal

pub returns-clause-copy : goal.returns-clause-copy
returns-clause-copy c = held_copy

pub returns-clause-newest : goal.returns-clause-newest
returns-clause-newest c h now f name level piece holds own found = (own_piece h now f name level piece holds own found).newest_is

pub returns-clause-present : goal.returns-clause-present
returns-clause-present c h now f name level piece holds own found = (own_piece h now f name level piece holds own found).stamped
