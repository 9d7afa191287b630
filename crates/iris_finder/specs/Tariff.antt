-- What the attributes of a block say of its tariff.
use Rattle.std.specs.Prelude.{ℕ, ◌<◌, ◌≡◌, ◌-◌, Bool, true, ◌&&◌, ◌||◌, ◌==◌, nat_le, nat_lt, if◌then◌else◌, List, [], ◌∷◌, length, map, Option, Some, None, codes}
use Rattle.std.specs.List.{list_all}
use Rattle.std.specs.Str.Parse.{digits_value}
use Rattle.iris_base.specs.declared.limits.TheConstants.{MAX_STAY, MINUTES_A_DAY}
use Rattle.iris_tree.specs.Attrs.{Pairs, value_of}
use Rattle.iris_finder.specs.declared.limits.TheConstants.{MAX_RATE, DEFAULT_UNIT, MAX_CAP, MAX_AMOUNT_DIGITS, DAYS_A_WEEK}
use Rattle.iris_finder.specs.declared.tariff.Tariff.{Tariff}

-- what a tariff says: cents, minutes and minutes of the day, and of each day from Monday on whether it is charged
pub record Terms : Type 0 where
  pub rate : ℕ
  pub unit : ℕ
  pub free : ℕ
  pub cap : ℕ
  pub most : ℕ
  pub from : ℕ
  pub to : ℕ
  pub days : List Bool

-- what a tariff of the program says
abbrev pub terms : Tariff → Terms
terms t = record { rate = t.rate; unit = t.unit; free = t.free; cap = t.cap; most = t.most; from = t.from; to = t.to; days = t.days }

-- ---- numbers

-- a byte that is a digit
abbrev pub is_digit : ℕ → Bool
is_digit b = nat_le 48 b && nat_le b 57

-- the number that 1 to 8 digits write; any other text writes none
abbrev pub number_of : List ℕ → Option ℕ
number_of text = if nat_le 1 (length text) && nat_le (length text) MAX_AMOUNT_DIGITS && list_all is_digit text then Some (digits_value 10 text) else None

-- the number, where there is one from the least to the most
abbrev pub within : ℕ → ℕ → Option ℕ → Option ℕ
within least most None = None
within least most (Some n) = if nat_le least n && nat_le n most then Some n else None

-- the number that an attribute tells: its own where it is absent, and else one from the least to the most
abbrev pub told : ℕ → ℕ → ℕ → Option (List ℕ) → Option ℕ
told least most absent None = Some absent
told least most absent (Some text) = within least most (number_of text)

-- ---- days

-- a byte that tells of a day whether it is charged
abbrev pub is_day : ℕ → Bool
is_day b = (b == 48) || (b == 49)

-- the days that seven of `0` and `1` tell, `1` those that are charged; any other text tells none
abbrev pub days_of : List ℕ → Option (List Bool)
days_of text = if (length text == DAYS_A_WEEK) && list_all is_day text then Some (map (λ b. b == 49) text) else None

-- the days that an attribute tells: all where it is absent
abbrev pub days_told : Option (List ℕ) → Option (List Bool)
days_told None = Some (true ∷ true ∷ true ∷ true ∷ true ∷ true ∷ true ∷ [])
days_told (Some text) = days_of text

-- ---- what each attribute tells

-- cents a started unit
abbrev pub rate_of : Pairs → Option ℕ
rate_of attrs = told 0 MAX_RATE 0 (value_of attrs (codes "rate"))

-- the minutes of a unit
abbrev pub unit_of : Pairs → Option ℕ
unit_of attrs = told 1 MINUTES_A_DAY DEFAULT_UNIT (value_of attrs (codes "unit"))

-- the first minutes of a stay, which are not charged
abbrev pub free_of : Pairs → Option ℕ
free_of attrs = told 0 MAX_STAY 0 (value_of attrs (codes "free"))

-- the greatest price in cents; 0 is none
abbrev pub cap_of : Pairs → Option ℕ
cap_of attrs = told 0 MAX_CAP 0 (value_of attrs (codes "cap"))

-- the minutes of the longest stay; 0 is none
abbrev pub most_of : Pairs → Option ℕ
most_of attrs = told 0 MAX_STAY 0 (value_of attrs (codes "most"))

-- the first minute of the day that is charged
abbrev pub from_of : Pairs → Option ℕ
from_of attrs = told 0 (MINUTES_A_DAY - 1) 0 (value_of attrs (codes "from"))

-- the first minute after it that is not
abbrev pub to_of : Pairs → Option ℕ
to_of attrs = told 1 MINUTES_A_DAY MINUTES_A_DAY (value_of attrs (codes "to"))

-- the days that are charged
abbrev pub charged_days_of : Pairs → Option (List Bool)
charged_days_of attrs = days_told (value_of attrs (codes "days"))

-- ---- tariffs

-- the attributes say that: each tells its part, and some minutes of the day are charged
pub record Say (attrs : Pairs) (t : Terms) : Type 0 where
  pub rate : rate_of attrs ≡ Some t.rate
  pub unit : unit_of attrs ≡ Some t.unit
  pub free : free_of attrs ≡ Some t.free
  pub cap : cap_of attrs ≡ Some t.cap
  pub most : most_of attrs ≡ Some t.most
  pub from : from_of attrs ≡ Some t.from
  pub to : to_of attrs ≡ Some t.to
  pub days : charged_days_of attrs ≡ Some t.days
  pub charged : t.from < t.to

-- the same as a value, part by part

-- what a function gives of a value, where there is one
abbrev pub given : {A B : Type 0} → Option A → (A → Option B) → Option B
given None f = None
given (Some a) f = f a

-- terms by which some minutes of the day are charged
abbrev pub charging : Terms → Option Terms
charging t = if nat_lt t.from t.to then Some t else None

-- what the attributes say, if anything
abbrev pub terms_of : Pairs → Option Terms
terms_of attrs =
    given (rate_of attrs) (λ rate. given (unit_of attrs) (λ unit. given (free_of attrs) (λ free. given (cap_of attrs) (λ cap.
    given (most_of attrs) (λ most. given (from_of attrs) (λ from. given (to_of attrs) (λ to. given (charged_days_of attrs) (λ days.
    charging (record { rate = rate; unit = unit; free = free; cap = cap; most = most; from = from; to = to; days = days })))))))))
