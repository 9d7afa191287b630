use Rattle.std.proofs.Common.{◌-◌, ◌≤◌, length, drop, arith, length-take}
use Rattle.std.proofs.lemmas.Result.{err_from_is_err_and}
use Rattle.iris_cli.proofs.Bytes.{part_put, more_put}
use Rattle.iris_cli.proofs.sink.StdSinkSink.put.Goals as goal

pub returns-in_err-written-clause-bytes : goal.returns-in_err-written-clause-bytes
returns-in_err-written-clause-bytes g c =
    let p = err_from_is_err_and c.from_residual.result c.from_residual.ensures.1 in
    rw p.1 (part_put _ _ _ c.loop-written.written c.args.bytes.now c.loop-written.invariant.added c.in_err-written.ensures.bytes)

pub loop-written-preserved : goal.loop-written-preserved
loop-written-preserved g c =
    let within = c.loop-written.invariant.within in
    let most = length-take (length c.args.bytes.now - c.loop-written.written) (drop c.loop-written.written c.args.bytes.now) in
    let bound : c.in_ok-written.field-0 ≤ length c.args.bytes.now - c.loop-written.written = omega (arith, c.in_ok-written.ensures.bound, most) in
    record {
      within = omega (arith, bound, within);
      added = more_put _ _ _ c.loop-written.written c.in_ok-written.field-0 c.args.bytes.now c.loop-written.invariant.added within bound c.in_ok-written.ensures.bytes;
      later = omega (arith, c.loop-written.invariant.later, c.in_ok-written.ensures.cause.later);
    }
