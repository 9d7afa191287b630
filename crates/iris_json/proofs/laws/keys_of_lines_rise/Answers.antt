use Rattle.iris_json.proofs.OutKeys.{rising}
use Rattle.iris_json.proofs.laws.keys_of_lines_rise.Goals as goal

pub returns : goal.returns
returns c = rising
