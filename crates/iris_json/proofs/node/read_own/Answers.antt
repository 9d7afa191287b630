use Rattle.std.proofs.lemmas.Result.{err_from_is_err_and}
use Rattle.iris_json.proofs.AttrReading.{same_error}
use Rattle.iris_json.proofs.node.read_own.Goals as goal

pub returns-in_err-local-clause-only : goal.returns-in_err-local-clause-only
returns-in_err-local-clause-only c label local own =
    let p = err_from_is_err_and c.from_residual-in_err-local.result c.from_residual-in_err-local.ensures.1 in
    rw (p.1, p.2) (same_error _ _ (label, local) (c.in_err-local.ensures.only local own.2))
