use Rattle.std.proofs.Common.{refl, arith}
use Rattle.iris_xpath.proofs.Digits.{value_more, small_more, fits_more, fits_times, small_all}
use Rattle.iris_xpath.proofs.operands.value_of.Goals as goal

pub overflow_mul-value : goal.overflow_mul-value
overflow_mul-value c =
    let l = c.loop-digit-test.true in
    let q = c.requires in
    fits_times c.loop-digit.value c.loop-digit.digit-index c.loop-digit.invariant.1 (omega (arith, l, q))

pub overflow_add-value : goal.overflow_add-value
overflow_add-value c =
    let l = c.loop-digit-test.true in
    let q = c.requires in
    fits_more c.loop-digit.value c.digit_of.result c.loop-digit.digit-index c.loop-digit.invariant.1 c.digit_of.ensures.small (omega (arith, l, q))

pub loop-digit-preserved : goal.loop-digit-preserved
loop-digit-preserved c = (value_more _ _ _ _ _ _ c.loop-digit-test.true refl c.loop-digit.invariant.0 c.digit_of.ensures.value, small_more _ _ _ c.loop-digit.invariant.1 c.digit_of.ensures.small)

pub returns-clause-small : goal.returns-clause-small
returns-clause-small c =
    let l = c.loop-digit-test.false in
    let q = c.requires in
    let k = c.loop-digit.auto.digit-index-end in
    small_all _ _ c.loop-digit.invariant.1 (omega (arith, k, q))
