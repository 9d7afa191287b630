use Rattle.std.proofs.lemmas.Result.{err_from_is_err_and}
use Rattle.serde_json.specs.Data.{object}
use Rattle.serde_json.specs.View.{members_view}
use Rattle.iris_json.proofs.AttrReading.{same_error}
use Rattle.iris_json.proofs.PlainReading.{so_start, so_step, plain_there, plains_there, all_found, all_form, all_canonical, plains_at_once}
use Rattle.iris_json.proofs.plain.read_plains.Goals as goal

pub loop-item-init : goal.loop-item-init
loop-item-init c = so_start _ _ c.in_ok-plains.ensures.items

pub loop-item-preserved : goal.loop-item-preserved
loop-item-preserved c =
    so_step _ _ _ c.loop-item.invariant c.item-item.result c.loop-item-test.true c.item-item.is c.in_ok-read_plain.field-0 c.in_ok-read_plain.ensures.found c.in_ok-read_plain.ensures.form c.in_ok-read_plain.ensures.canonical _ c.in_ok-push.ensures.items

pub returns-in_err-read_plain-clause-only : goal.returns-in_err-read_plain-clause-only
returns-in_err-read_plain-clause-only c plains at =
    let p = err_from_is_err_and c.from_residual-in_err-read_plain.result c.from_residual-in_err-read_plain.ensures.1 in
    let k = plains_there (object (members_view c.args.members.now.entries)) c.in_ok-items.items.now plains c.in_ok-items.ensures.only at in
    let next = plain_there _ k.0 _ c.item-item.result k.1 c.loop-item-test.true c.item-item.is in
    rw (p.1, p.2) (same_error _ _ plains (c.in_err-read_plain.ensures.only next.0 next.1))

pub returns-clause-found : goal.returns-clause-found
returns-clause-found c = all_found (object (members_view c.args.members.now.entries)) _ _ _ c.loop-item.invariant c.in_ok-items.ensures.found c.loop-item-test.false _ c.in_ok-siblings.ensures.is

pub returns-clause-form : goal.returns-clause-form
returns-clause-form c = all_form _ _ _ c.loop-item.invariant _ c.in_ok-siblings.ensures.is

pub returns-clause-canonical : goal.returns-clause-canonical
returns-clause-canonical c = all_canonical _ _ _ c.loop-item.invariant _ c.in_ok-siblings.ensures.is

pub returns-clause-only : goal.returns-clause-only
returns-clause-only c plains at = plains_at_once (object (members_view c.args.members.now.entries)) _ plains (returns-clause-found c) at

pub returns-in_err-items-clause-only : goal.returns-in_err-items-clause-only
returns-in_err-items-clause-only c plains at = absurd (c.in_err-items.ensures.refused at.0 at.2)
