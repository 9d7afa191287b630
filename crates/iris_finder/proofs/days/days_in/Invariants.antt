use Rattle.std.proofs.Common.{◌≡◌, length, take, true, map, ◌==◌}
use Rattle.std.specs.List.{list_all}
use Rattle.iris_finder.specs.Tariff.{is_day}
use Rattle.iris_finder.proofs.days.days_in.Given as goal

-- the days so far
abbrev pub invariant-loop-i : goal.invariant-loop-i
invariant-loop-i l = record {
  seven : length l.days ≡ 7;
  are_days : list_all is_day (take l.i l.text) ≡ true;
  told : take l.i l.days ≡ map (λ b. b == 49) (take l.i l.text);
}
