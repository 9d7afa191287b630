use Rattle.std.proofs.Common.{◌≡◌, ◌∙◌, ◌&&◌, arith, true, sym, ap, get_or}
use Rattle.std.proofs.lemmas.List.Folds.{list_all_more}
use Rattle.iris_finder.specs.Tariff.{is_digit}
use Rattle.iris_finder.proofs.Digits.{below_limit, most_digits, digit_bound, one_digit, one_place}
use Rattle.iris_finder.proofs.amount.number_of.Goals as goal

pub overflow_mul-number : goal.overflow_mul-number
overflow_mul-number c = omega (arith, below_limit c.loop-digit.number c.loop-digit.digit-index (omega arith) c.loop-digit.invariant.small)

pub overflow_add-number : goal.overflow_add-number
overflow_add-number c = omega (arith, below_limit c.loop-digit.number c.loop-digit.digit-index (omega arith) c.loop-digit.invariant.small)

pub loop-digit-preserved : goal.loop-digit-preserved
loop-digit-preserved c =
    let is : is_digit (get_or c.args.digits.now c.loop-digit.digit-index 0) ≡ true = sym c.is_ascii_digit.ensures.value ∙ c.if-not-is_ascii_digit.false in
    record {
      are_digits = list_all_more is_digit c.args.digits.now c.loop-digit.digit-index 0 c.loop-digit-test.true ∙ ap (λ b. b && is_digit (get_or c.args.digits.now c.loop-digit.digit-index 0)) c.loop-digit.invariant.are_digits ∙ is;
      value = one_digit c.args.digits.now c.loop-digit.digit-index _ _ c.loop-digit-test.true is c.from.ensures c.loop-digit.invariant.value;
      small = one_place _ _ c.loop-digit.digit-index (get_or c.args.digits.now c.loop-digit.digit-index 0) c.loop-digit.invariant.small (digit_bound _ is) c.from.ensures;
    }

pub returns-clause-small : goal.returns-clause-small
returns-clause-small c = omega (arith, most_digits c.loop-digit.number c.loop-digit.digit-index (omega arith) c.loop-digit.invariant.small)
