use Rattle.std.proofs.Common.{◌-◌, ◌+◌, length, rules}
use Rattle.std.proofs.lemmas.Result.{err_from_is_err_and}
use Rattle.iris_cli.proofs.Lines.{fails_taken}
use Rattle.iris_cli.proofs.line.take_line.Goals as goal

pub returns-in_err-take_until_lf-clause-took : goal.returns-in_err-take_until_lf-clause-took
returns-in_err-take_until_lf-clause-took g c =
    let p = err_from_is_err_and c.from_residual.result c.from_residual.ensures.1 in
    rw (p.1, p.2) (fails_taken c.args.limit (c.args.limit + 1 - length c.parts.line.items) _ _ _ _ _ c.in_err-take_until_lf.field-0.0 c.parts.invariant.so (search rules) c.in_err-take_until_lf.ensures.took)
