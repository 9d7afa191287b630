use Rattle.std.proofs.Common.{◌≡◌, ◌++◌, take}
use Rattle.iris_json.specs.Rows.{cite_data}
use Rattle.iris_json.proofs.Written.{all_tokens}
use Rattle.iris_json.proofs.row.put_cites.Given as goal

abbrev pub invariant-loop-cite : goal.invariant-loop-cite
invariant-loop-cite l = l.out ≡ l.initial.out ++ all_tokens cite_data (take l.cite-index l.cites)
