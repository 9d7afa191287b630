-- What an agent has, as its events speak of it: by the names of nodes and by numbers.
use Rattle.std.specs.Prelude.{ℕ, nat_eq, Bool, true, if◌then◌else◌, List, Option}
use Rattle.std.specs.List.{list_any}
use Rattle.std.specs.BTreeMap.{is_at}
use Rattle.std.specs.Ordering.{nat_cmp}
use Rattle.std.specs.Cmp.Lexicographic.{pointwise}
use Rattle.iris_base.specs.declared.name.Label.{Label}
use Rattle.iris_base.specs.NameOrder.{label_eq}
use Rattle.iris_cache.specs.Recency.{Cache}
use Rattle.iris_migrate.specs.Titles.{Seat, Seats, seat_at}
use Rattle.iris_gather.specs.declared.entries.OpenGather.{OpenGather}
use Rattle.iris_gather.specs.OpenGathers.{OpenGathers, gather_at}

-- What an agent has: its id, the kinds and the top node's label of the city, what it holds, what it knows of nodes that move, its open gathers by number, and the asks that it opened or parked.
pub record Holdings : Type 0 where
  pub id : List ℕ
  pub kinds : List (List ℕ)
  pub top : Label
  pub cache : Cache
  pub titles : Seats
  pub gathers : OpenGathers
  pub asked : List ℕ

-- the same, with what it knows of each node, the gather of each number, and whether it opened or parked an ask
pub record Tables : Type 0 where
  pub id : List ℕ
  pub kinds : List (List ℕ)
  pub top : Label
  pub cache : Cache
  pub seat : List Label → Seat
  pub gather : ℕ → Option OpenGather
  pub asked : ℕ → Bool

-- whether a number is among these
abbrev pub is_among : List ℕ → ℕ → Bool
is_among numbers number = list_any (is_at (nat_cmp number)) numbers

unfoldable pub tables_of : Holdings → Tables
tables_of h = record { id = h.id; kinds = h.kinds; top = h.top; cache = h.cache; seat = seat_at h.titles; gather = gather_at h.gathers; asked = is_among h.asked }

-- a table with another value at that number
abbrev pub at_number : {A : Type 0} → (ℕ → A) → ℕ → A → ℕ → A
at_number table number value other = if nat_eq other number then value else table other

-- a table with another value at that name
abbrev pub at_name : {A : Type 0} → (List Label → A) → List Label → A → List Label → A
at_name table name value other = if pointwise label_eq other name then value else table other

-- ---- changes of one table

abbrev pub with_cache : Tables → Cache → Tables
with_cache t cache = record t { cache = cache }

abbrev pub with_seat : Tables → List Label → Seat → Tables
with_seat t name seat = record t { seat = at_name t.seat name seat }

abbrev pub with_gather : Tables → ℕ → Option OpenGather → Tables
with_gather t number gather = record t { gather = at_number t.gather number gather }

-- the ask was opened or parked here
abbrev pub with_asked : Tables → ℕ → Tables
with_asked t ask = record t { asked = at_number t.asked ask true }
