use Rattle.std.proofs.Common.{◌≡◌, rules, Some, None, Err, get_or}
use Rattle.std.proofs.lemmas.Result.{IfOk-weaker}
use Rattle.iris_base.specs.declared.error.NameError.TheVariants.{BadName}
use Rattle.iris_base.specs.NameText.{IsNameText}
use Rattle.iris_base.specs.NameReader.{step}
use Rattle.iris_base.specs.Stops.{StopsAt}
use Rattle.iris_base.proofs.NameReading.{starts, reads_on, stops_name, answered, read_back}
use Rattle.iris_base.proofs.reading.read_name.Goals as goal

pub loop-at-init : goal.loop-at-init
loop-at-init c = rw (c.new.ensures.items, c.new-2.ensures.items) starts

pub loop-at-preserved : goal.loop-at-preserved
loop-at-preserved c =
    let goes : step c.loop-at.reader (get_or c.as_bytes-bytes.result.now c.loop-at.at 0) ≡ Some c.step.new.self = search rules in
    reads_on _ _ _ _ c.loop-at-test.true c.loop-at.invariant.0 c.loop-at.invariant.1 c.loop-at.invariant.2 goes

pub returns-then-not-branch-clause-err : goal.returns-then-not-branch-clause-err
returns-then-not-branch-clause-err c =
    let stuck : step c.loop-at.reader (get_or c.as_bytes-bytes.result.now c.loop-at.at 0) ≡ None = search rules in
    rw (← c.as_bytes-bytes.ensures.value) (stops_name _ _ _ c.loop-at-test.true c.loop-at.invariant.0 c.loop-at.invariant.1 c.loop-at.invariant.2 stuck)

pub returns-then-not-branch-clause-only : goal.returns-then-not-branch-clause-only
returns-then-not-branch-clause-only c =
    let stuck : step c.loop-at.reader (get_or c.as_bytes-bytes.result.now c.loop-at.at 0) ≡ None = search rules in
    let stops : StopsAt IsNameText c.args.text.now c.loop-at.at
    = rw (← c.as_bytes-bytes.ensures.value) (stops_name _ _ _ c.loop-at-test.true c.loop-at.invariant.0 c.loop-at.invariant.1 c.loop-at.invariant.2 stuck) in
    read_back (Err (BadName c.loop-at.at)) c.args.text.now tt stops

pub returns-clause-ok : goal.returns-clause-ok
returns-clause-ok c =
    let all = answered _ _ _ _ c.loop-at-test.false c.loop-at.invariant.0 c.loop-at.invariant.1 c.loop-at.invariant.2 c.finish.ensures.ok c.finish.ensures.err in
    rw (← c.as_bytes-bytes.ensures.value) (IfOk-weaker c.finish.result _ _ (λ name h. h.1) all.0)

pub returns-clause-form : goal.returns-clause-form
returns-clause-form c =
    let all = answered _ _ _ _ c.loop-at-test.false c.loop-at.invariant.0 c.loop-at.invariant.1 c.loop-at.invariant.2 c.finish.ensures.ok c.finish.ensures.err in
    IfOk-weaker c.finish.result _ _ (λ name h. h.0) all.0

pub returns-clause-only : goal.returns-clause-only
returns-clause-only c =
    let all = answered _ _ _ _ c.loop-at-test.false c.loop-at.invariant.0 c.loop-at.invariant.1 c.loop-at.invariant.2 c.finish.ensures.ok c.finish.ensures.err in
    rw (← c.as_bytes-bytes.ensures.value) (read_back c.finish.result _ all.0 all.1)

pub returns-clause-err : goal.returns-clause-err
returns-clause-err c =
    let all = answered _ _ _ _ c.loop-at-test.false c.loop-at.invariant.0 c.loop-at.invariant.1 c.loop-at.invariant.2 c.finish.ensures.ok c.finish.ensures.err in
    rw (← c.as_bytes-bytes.ensures.value) all.1
