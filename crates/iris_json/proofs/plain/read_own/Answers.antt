use Rattle.std.proofs.lemmas.Result.{err_from_is_err_and}
use Rattle.iris_json.proofs.AttrReading.{same_error}
use Rattle.iris_json.proofs.plain.read_own.Goals as goal

pub returns-in_err-text-clause-only : goal.returns-in_err-text-clause-only
returns-in_err-text-clause-only c tag attrs text own =
    let p = err_from_is_err_and c.from_residual-in_err-text.result c.from_residual-in_err-text.ensures.1 in
    rw (p.1, p.2) (same_error _ _ (tag, attrs, text) (c.in_err-text.ensures.only text own.text_at))
