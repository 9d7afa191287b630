use Rattle.iris_json.proofs.LineReading.{line_once}
use Rattle.iris_json.proofs.laws.text_is_one_line.Goals as goal

pub returns : goal.returns
returns c = record { once = line_once }
