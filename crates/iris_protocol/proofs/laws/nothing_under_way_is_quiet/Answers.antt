use Rattle.iris_protocol.specs.World.{start, run}
use Rattle.iris_protocol.proofs.Runs.{run_keeps, start_good}
use Rattle.iris_protocol.proofs.Quiets.{quiet_of}
use Rattle.iris_protocol.proofs.laws.nothing_under_way_is_quiet.Goals as goal

pub returns : goal.returns
returns c owner epoch rows events ok still due lent = quiet_of (run events (start owner epoch rows)) (run_keeps events (start owner epoch rows) ok (start_good owner epoch rows)) still due lent
