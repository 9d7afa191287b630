use Rattle.std.proofs.Common.{◌≡◌, append_assoc, take, take_all}
use Rattle.iris_json.specs.Rows.{state_data}
use Rattle.iris_json.proofs.Written.{array_written}
use Rattle.iris_json.proofs.row.put_states.Goals as goal

pub returns : goal.returns
returns c =
    let all : take c.loop-state.state-index c.args.states.now ≡ c.args.states.now = take_all _ _ c.loop-state-test.false in
    rw (
      c.in_ok-end_array.ensures,
      c.loop-state.invariant,
      all,
      c.in_ok-begin_array.ensures,
      array_written state_data c.args.states.now,
    )
    (simp append_assoc)
