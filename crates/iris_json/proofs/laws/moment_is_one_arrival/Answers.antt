use Rattle.iris_json.proofs.ZoneOnce.{arrival_once}
use Rattle.iris_json.proofs.laws.moment_is_one_arrival.Goals as goal

pub returns : goal.returns
returns c = record { once = arrival_once }
