use Rattle.iris_protocol.specs.World.{start, run}
use Rattle.iris_protocol.proofs.Runs.{run_keeps, start_good}
use Rattle.iris_protocol.proofs.Quiets.{settled}
use Rattle.iris_protocol.proofs.laws.settles_are_quiet.Goals as goal

pub returns : goal.returns
returns c owner epoch rows events ok choices fits most lent e = settled choices fits most (run events (start owner epoch rows)) (run_keeps events (start owner epoch rows) ok (start_good owner epoch rows)) lent e
