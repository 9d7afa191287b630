use Rattle.std.proofs.Common.{drop, fold}
use Rattle.iris_agent.specs.Starts.{piece_begun}
use Rattle.iris_agent.proofs.StartTies.{AreLeft}
use Rattle.iris_agent.proofs.start.begun.Given as goal

abbrev pub invariant-loop-piece : goal.invariant-loop-piece
invariant-loop-piece l = AreLeft l.cache.cache (drop l.piece-index l.pieces) (fold piece_begun l.initial.cache.cache l.pieces)
