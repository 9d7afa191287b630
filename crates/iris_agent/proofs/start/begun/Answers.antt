use Rattle.iris_agent.proofs.StartTies.{left_more}
use Rattle.iris_agent.proofs.start.begun.Goals as goal

pub loop-piece-preserved : goal.loop-piece-preserved
loop-piece-preserved c =
    left_more c.args.pieces.now c.loop-piece.piece-index c.piece-item.result c.loop-piece.cache.cache c.begin.new.cache.cache _ c.loop-piece-test.true c.piece-item.is c.in_ok-begin.ensures c.loop-piece.invariant
