use Rattle.std.proofs.Common.{◌≡◌, ◌<◌, ◌^◌, take, true}
use Rattle.std.specs.List.{list_all}
use Rattle.std.specs.Str.Parse.{digits_value}
use Rattle.iris_finder.specs.Tariff.{is_digit}
use Rattle.iris_finder.proofs.amount.number_of.Given as goal

-- the digits so far
abbrev pub invariant-loop-digit : goal.invariant-loop-digit
invariant-loop-digit l = record {
  are_digits : list_all is_digit (take l.digit-index l.digits) ≡ true;
  value : l.number ≡ digits_value 10 (take l.digit-index l.digits);
  small : l.number < 10 ^ l.digit-index;
}
