use Rattle.iris_json.proofs.KindReading.{empty, not_empty}
use Rattle.std.proofs.Common.{rules, ◌∙◌, ap, sym, ◌≡◌, ◌⊎◌, inl, inr, length, codes}
use Rattle.std.proofs.lemmas.Result.{err_from_is_err_and}
use Rattle.iris_json.proofs.AttrReading.{same_error}
use Rattle.iris_json.proofs.PlainReading.{so_start, so_step, plain_there, so_found, so_form, so_canonical, own_same, not_both, plain_once, kids_of_it, inside, less_deep}
use Rattle.iris_json.proofs.plain.+read_plain.Goals as goal
use Rattle.iris_json.proofs.plain.+read_plain.Goals.{else-not-is_empty-via-then-not-is_empty+else-not-is_empty-2, else-not-is_empty-via-else-not-is_empty}

pub returns-in_err-tag-clause-only : goal.returns-in_err-tag-clause-only
returns-in_err-tag-clause-only t c plain is =
    let p = err_from_is_err_and c.from_residual.result c.from_residual.ensures.1 in
    let s = inside _ _ plain c.in-Some.ensures is in
    rw (p.1, p.2) (same_error _ _ plain (c.in_err-tag.ensures.only _ _ _ s.2))

pub returns-in_err-items-clause-only : goal.returns-in_err-items-clause-only
returns-in_err-items-clause-only t c plain is = let s = inside _ _ plain c.in-Some.ensures is in absurd (c.in_err-items.ensures.refused s.0 s.3)

pub loop-item-init : goal.loop-item-init
loop-item-init t c = so_start _ _ c.in_ok-kids.ensures.items

pub returns-in_err-read_plain-clause-only : goal.returns-in_err-read_plain-clause-only
returns-in_err-read_plain-clause-only t c plain is =
    let p = err_from_is_err_and c.from_residual-in_err-read_plain.result c.from_residual-in_err-read_plain.ensures.1 in
    let k = kids_of_it _ _ c.in_ok-items.items.now plain c.in-Some.ensures c.in_ok-items.ensures.only is in
    let next = plain_there _ k.0 _ c.item-item.result k.1 c.loop-item-test.true c.item-item.is in
    rw (p.1, p.2) (same_error _ _ plain (c.in_err-read_plain.ensures.only next.0 next.1))

pub loop-item-preserved : goal.loop-item-preserved
loop-item-preserved t c =
    so_step _ _ _ c.loop-item.invariant c.item-item.result c.loop-item-test.true c.item-item.is c.in_ok-read_plain.field-0 c.in_ok-read_plain.ensures.found c.in_ok-read_plain.ensures.form c.in_ok-read_plain.ensures.canonical _ c.in_ok-push.ensures.items

pub read_plain-requires : goal.read_plain-requires
read_plain-requires t c = (less_deep (codes "kids") t _ _ _ _ c.item-item.result c.in-Some.ensures c.in_ok-items.ensures.found c.loop-item-test.true c.item-item.is c.decreases, tt)

pub returns-clause-found : goal.returns-clause-found
returns-clause-found t c =
    let own = own_same _ c.in_ok-tag.tag _ _ _ _ c.attrs.view_is c.text.view_is c.in_ok-tag.ensures.found in
    let apart : (length c.in_ok-items.items.now ≡ 0) ⊎ (length c.text.inside.text.bytes.items ≡ 0) = elim c.else-not-is_empty.branch [
      | else-not-is_empty-via-then-not-is_empty+else-not-is_empty-2 w ↦ inr (ap length c.text.view_is ∙ ap length (sym w.as_str.ensures) ∙ empty _ _ w.is_empty-then-not-is_empty.ensures (search rules))
      | else-not-is_empty-via-else-not-is_empty w ↦ inl (empty _ _ c.is_empty.ensures (search rules))
    ] in
    so_found _ _ _ _ _ c.loop-item.invariant c.in-Some.ensures _ _ _ _ own c.in_ok-items.ensures.found c.loop-item-test.false c.in_ok-siblings.ensures.is apart

pub returns-then-not-is_empty-2-clause-only : goal.returns-then-not-is_empty-2-clause-only
returns-then-not-is_empty-2-clause-only t c plain is =
    not_both _ _ c.in_ok-items.items.now plain _ _ _ c.in-Some.ensures c.in_ok-items.ensures.only c.in_ok-tag.ensures.found (not_empty _ _ c.is_empty.ensures (search rules))
    (rw (← c.as_str.ensures) (not_empty _ _ c.is_empty-then-not-is_empty.ensures (search rules))) is

pub returns-clause-form : goal.returns-clause-form
returns-clause-form t c =
    so_form _ _ c.loop-item.invariant.form _ _ _ _ _ _ (returns-clause-found t c) c.attrs.view_is c.text.view_is c.in_ok-tag.ensures.texts c.in_ok-siblings.ensures.is

pub returns-clause-canonical : goal.returns-clause-canonical
returns-clause-canonical t c = so_canonical _ c.loop-item.invariant.canonical _ c.in_ok-siblings.ensures.is

pub returns-clause-only : goal.returns-clause-only
returns-clause-only t c plain is = plain_once _ _ plain (returns-clause-found t c) is
