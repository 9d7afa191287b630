-- The zone of a city, and what its clocks show.
use Rattle.std.specs.Prelude.{◌≡◌, ℕ, ℤ, pos, ◌+◌, ◌*◌, ◌+ℤ◌, ◌*ℤ◌, List, IsSome}
use Rattle.jiff.specs.Placed.{IsPosixZone}
use Rattle.jiff.specs.Words.{read_whole, offset_at, nanos_of_seconds, civil_nanos, weekday_of}
use Rattle.jiff_core.specs.declared.civil.datetime.DateTime.{DateTime}
use Rattle.jiff_tz.specs.declared.timezone.TimeZone.{TimeZone}
use Rattle.iris_json.specs.declared.find.Arrival.{Arrival}

-- the text is that of a POSIX zone, as `jiff` reads it
abbrev pub IsZone : List ℕ → Type 0
IsZone text = IsSome (read_whole text)

-- a moment in nanoseconds since 1970, of one in milliseconds
abbrev pub nanos_of : ℕ → ℤ
nanos_of ms = pos ms *ℤ pos 1_000_000

-- the clocks of a zone show that date and time at a moment in milliseconds since 1970
abbrev pub Shows : TimeZone → ℕ → DateTime → Type 0
Shows zone ms local = civil_nanos local ≡ nanos_of ms +ℤ nanos_of_seconds (offset_at zone (nanos_of ms))

-- by the clocks of the zone of that text, that is the day of the week, from Monday, and the minute of the day at that moment
pub record IsArrival (text : List ℕ) (ms : ℕ) (arrival : Arrival) : Type 0 where
  pub zone : TimeZone
  pub local : DateTime
  pub is_zone : IsPosixZone text zone
  pub shows : Shows zone ms local
  pub weekday : arrival.weekday ≡ weekday_of local.date
  pub minute : arrival.minute ≡ 60 * local.time.hour + local.time.minute
