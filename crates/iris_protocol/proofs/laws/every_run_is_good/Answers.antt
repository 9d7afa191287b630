use Rattle.iris_protocol.specs.World.{start}
use Rattle.iris_protocol.proofs.Runs.{run_keeps, start_good}
use Rattle.iris_protocol.proofs.laws.every_run_is_good.Goals as goal

pub returns : goal.returns
returns c owner epoch rows events ok = run_keeps events (start owner epoch rows) ok (start_good owner epoch rows)
