use Rattle.std.proofs.Common.{◌≡◌, ◌++◌, take}
use Rattle.iris_json.specs.Rows.{state_data}
use Rattle.iris_json.proofs.Written.{all_tokens}
use Rattle.iris_json.proofs.row.put_states.Given as goal

abbrev pub invariant-loop-state : goal.invariant-loop-state
invariant-loop-state l = l.out ≡ l.initial.out ++ all_tokens state_data (take l.state-index l.states)
