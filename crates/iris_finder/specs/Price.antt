-- What a stay costs: a count of its minutes, one by one.
use Rattle.std.specs.Prelude.{ℕ, ◌+◌, ◌-◌, ◌*◌, ◌/◌, ◌%◌, Bool, false, not, ◌&&◌, ◌==◌, nat_le, nat_lt, min, max, if◌then◌else◌, slice_index_or, count_by}
use Rattle.std.specs.List.{range_with_len}
use Rattle.std.specs.Int.{div_ceil}
use Rattle.iris_base.specs.declared.limits.TheConstants.{MINUTES_A_DAY}
use Rattle.iris_json.specs.declared.find.Arrival.{Arrival}
use Rattle.iris_finder.specs.declared.limits.TheConstants.{DAYS_A_WEEK}
use Rattle.iris_finder.specs.Tariff.{Terms}

-- the minute of the day at a minute of the stay, which is counted from 0
abbrev pub minute_of_day : Arrival → ℕ → ℕ
minute_of_day arrival m = (arrival.minute + m) % MINUTES_A_DAY

-- the day of the week then, from Monday, which is 0
abbrev pub weekday : Arrival → ℕ → ℕ
weekday arrival m = (arrival.weekday + (arrival.minute + m) / MINUTES_A_DAY) % DAYS_A_WEEK

-- whether a minute of the stay is charged: it is not one of the free ones, its day is charged, and so is that minute of the day
abbrev pub is_charged : Terms → Arrival → ℕ → Bool
is_charged t arrival m =
    nat_le t.free m && slice_index_or t.days (weekday arrival m) false && nat_le t.from (minute_of_day arrival m) && nat_lt (minute_of_day arrival m) t.to

-- how many minutes of a stay are charged
abbrev pub charged : Terms → Arrival → ℕ → ℕ
charged t arrival stay = count_by (is_charged t arrival) (range_with_len 0 stay)

-- at most the cap, where there is one
abbrev pub capped : ℕ → ℕ → ℕ
capped cap price = if cap == 0 then price else min cap price

-- what a stay costs: the rate for each started unit of charged minutes, at most the cap
abbrev pub price_of : Terms → Arrival → ℕ → ℕ
price_of t arrival stay = capped t.cap (t.rate * div_ceil (charged t arrival stay) t.unit)

-- whether a stay is longer than the longest, where there is one
abbrev pub is_too_long : Terms → ℕ → Bool
is_too_long t stay = not (t.most == 0) && nat_lt t.most stay

-- ---- for the code: by days

-- how many of the charged minutes of a stay lie on a day, counted from that of the arrival
abbrev pub charged_on : Terms → Arrival → ℕ → ℕ → ℕ
charged_on t arrival stay day =
    if slice_index_or t.days ((arrival.weekday + day) % DAYS_A_WEEK) false
    then min (MINUTES_A_DAY * day + t.to - arrival.minute) stay - max (MINUTES_A_DAY * day + t.from - arrival.minute) t.free
    else 0
