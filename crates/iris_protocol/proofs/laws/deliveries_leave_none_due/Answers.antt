use Rattle.iris_protocol.specs.World.{start, run}
use Rattle.iris_protocol.specs.Settle.{delivers}
use Rattle.iris_protocol.proofs.Runs.{run_keeps, start_good}
use Rattle.iris_protocol.proofs.Dues.{delivers_none_due, delivers_keeps, all_wait}
use Rattle.iris_protocol.proofs.laws.deliveries_leave_none_due.Goals as goal

pub returns : goal.returns
returns c owner epoch rows events ok choices fits k none =
    let good = run_keeps events (start owner epoch rows) ok (start_good owner epoch rows) in
    let due = delivers_none_due choices (run events (start owner epoch rows)) k good none in
    (due, all_wait (delivers choices (run events (start owner epoch rows)) k) (delivers_keeps choices fits (run events (start owner epoch rows)) k good) due)
