use Rattle.std.proofs.Common.{arith, refl}
use Rattle.std.proofs.lemmas.Result.{err_from_is_err_and}
use Rattle.iris_json.proofs.KindReading.{empty, not_empty}
use Rattle.iris_json.proofs.ChangeReading.{so_start, so_step, so_found, are_len, are_each, refused_too}
use Rattle.iris_json.proofs.changes.changes_in.Goals as goal
use Rattle.iris_json.proofs.changes.changes_in.Goals.{then-is_empty-via-then-is_empty, then-is_empty-via-else-is_empty+then-items-gt-MAX_CHANGES}

pub returns-then-is_empty-clause-refused : goal.returns-then-is_empty-clause-refused
returns-then-is_empty-clause-refused c = (
  refl,
  λ changes are. (let len = are_len _ changes are in elim c.then-is_empty.branch [
    | then-is_empty-via-then-is_empty w ↦ omega (arith, len.1, empty _ _ c.is_empty.ensures w.if-is_empty.true)
    | then-is_empty-via-else-is_empty+then-items-gt-MAX_CHANGES w ↦ omega (arith, len.2, w.if-items-gt-MAX_CHANGES.true)
  ]),
)

pub loop-item-init : goal.loop-item-init
loop-item-init c = so_start c.args.items.now _ c.in_ok-changes.ensures.items

pub returns-in_err-read_change-clause-refused : goal.returns-in_err-read_change-clause-refused
returns-in_err-read_change-clause-refused c =
    let p = err_from_is_err_and c.from_residual-in_err-read_change.result c.from_residual-in_err-read_change.ensures.1 in
    rw (p.1, p.2) (refused_too _ _ _ _ (λ none changes are. (let here = are_each _ changes _ c.item-item.result c.loop-item-test.true c.item-item.is are in none here.0 here.1)) c.in_err-read_change.ensures.refused)

pub loop-item-preserved : goal.loop-item-preserved
loop-item-preserved c = so_step _ _ _ c.loop-item.invariant c.item-item.result c.loop-item-test.true c.item-item.is _ c.in_ok-read_change.ensures.found _ c.in_ok-push.ensures.items

pub returns-clause-found : goal.returns-clause-found
returns-clause-found c = rw c.from_vec.ensures (so_found _ _ _ c.loop-item.invariant c.loop-item-test.false (not_empty _ _ c.is_empty.ensures c.if-is_empty.false) (omega (arith, c.if-items-gt-MAX_CHANGES.false)))
