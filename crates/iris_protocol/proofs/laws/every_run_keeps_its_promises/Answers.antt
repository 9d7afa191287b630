use Rattle.iris_protocol.specs.World.{start, run}
use Rattle.iris_protocol.proofs.Runs.{run_keeps, start_good}
use Rattle.iris_protocol.proofs.Says.{clauses_of}
use Rattle.iris_protocol.proofs.laws.every_run_keeps_its_promises.Goals as goal

pub returns : goal.returns
returns c owner epoch rows events ok = clauses_of (run events (start owner epoch rows)) (run_keeps events (start owner epoch rows) ok (start_good owner epoch rows))
