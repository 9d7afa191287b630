use Rattle.std.proofs.Common.{◌≡◌}
use Rattle.iris_need.specs.Pieces.{laid_over}
use Rattle.iris_gather.specs.Laid.{laid}
use Rattle.iris_gather.proofs.laid.lay.Given as goal

abbrev pub invariant-loop-piece : goal.invariant-loop-piece
invariant-loop-piece l = laid_over l.piece-iterator.rest.items l.over ≡ laid l.fragment l.floor l.now l.view
