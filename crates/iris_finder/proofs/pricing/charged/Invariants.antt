use Rattle.std.proofs.Common.{◌≡◌, ◌*◌, ◌-◌}
use Rattle.std.specs.Prelude.{min}
use Rattle.iris_finder.specs.Tariff.{terms}
use Rattle.iris_finder.specs.Price.{charged}
use Rattle.iris_finder.proofs.pricing.charged.Given as goal

-- the charged minutes of the days so far
abbrev pub invariant-loop-day : goal.invariant-loop-day
invariant-loop-day l = l.total ≡ charged (terms l.tariff) l.arrival (min l.stay (1440 * l.day - l.arrival.minute))
