-- The asks that a gather makes.
use Rattle.std.specs.Prelude.{◌+◌, ◌-◌, nat_lt, if◌then◌else◌, List, length, slice_get, Option, Some, None}
use Rattle.iris_need.specs.declared.need.Need.{Need}
use Rattle.iris_gather.specs.Gathers.{Gathering}
use Rattle.iris_runs.specs.Moments.{Wanted, Moment}

abbrev pub wanted_by : Gathering → Wanted → Option Need → Wanted
wanted_by g before None = before
wanted_by g before (Some need) = record { floor = g.floor; name = need.name; level = need.level }

-- the moment once a gather asked for these needs, with the numbers from the next one on
abbrev pub asked_by : Moment → Gathering → List Need → Moment
asked_by m g needs = record m {
  asks = m.asks + length needs;
  wanted = λ ask. if nat_lt ask m.asks then m.wanted ask else wanted_by g (m.wanted ask) (slice_get needs (ask - m.asks));
}
