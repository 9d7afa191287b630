-- The charged minutes of a stay, day by day.
use Rattle.std.proofs.Common.{◌≡◌, ℕ, ◌+◌, ◌-◌, ◌*◌, ◌%◌, ◌≤◌, false, ◌&&◌, ap}
use Rattle.std.specs.Prelude.{nat_le, nat_lt, min, slice_index_or}
use Rattle.iris_json.specs.declared.find.Arrival.{Arrival}
use Rattle.iris_finder.specs.Tariff.{Terms}
use Rattle.iris_finder.specs.Price.{is_charged, charged, charged_on}
use Rattle.iris_finder.proofs.Minutes.{one_day_more}

-- those before the end of a day are those before its beginning and those of the day
pub day_step : (t : Terms) (arrival : Arrival) (stay day : ℕ) → t.to ≤ 1440
    → charged t arrival (min stay (1440 * day - arrival.minute)) + charged_on t arrival stay day ≡ charged t arrival (min stay (1440 * (day + 1) - arrival.minute))
day_step t arrival stay day fits =
    one_day_more (is_charged t arrival) (slice_index_or t.days ((arrival.weekday + day) % 7) false) t.free t.from t.to arrival.minute stay day fits
    (λ k on. ap (λ (n : ℕ). ((nat_le t.free k && slice_index_or t.days ((arrival.weekday + n) % 7) false) && nat_le t.from ((arrival.minute + k) % 1440)) && nat_lt ((arrival.minute + k) % 1440) t.to) on)
