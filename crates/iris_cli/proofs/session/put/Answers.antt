use Rattle.std.proofs.lemmas.Result.{err_from_is_err_and}
use Rattle.iris_cli.specs.Run.{out_line}
use Rattle.iris_cli.proofs.Putting.{writes_nothing}
use Rattle.iris_cli.proofs.session.put.Goals as goal

pub returns-in_err-push : goal.returns-in_err-push
returns-in_err-push g c =
    let p = err_from_is_err_and c.from_residual-in_err-push.result c.from_residual-in_err-push.ensures.1 in
    rw (p.1, p.2) (record { writes = writes_nothing (g.K.Sink.held c.args.sink.now) (g.K.Sink.faults c.args.sink.now) (out_line c.args.out.now) })
