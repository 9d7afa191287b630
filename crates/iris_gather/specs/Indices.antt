-- The indices by which open gathers are found.
use Rattle.std.specs.Prelude.{◌≡◌, ℕ, Bool, true, nat_eq, if◌then◌else◌, List, Option, Some, is_some}
use Rattle.std.specs.Map.{lookup}
use Rattle.std.specs.BTreeMap.{is_at}
use Rattle.std.specs.BTreeSet.{contains}
use Rattle.std.specs.Ordering.{nat_cmp}
use Rattle.iris_gather.specs.declared.parent.Parent.{Parent}
use Rattle.iris_gather.specs.declared.entries.OpenGather.{OpenGather}
use Rattle.iris_gather.specs.declared.indices.Indices.{Indices}
use Rattle.iris_gather.specs.Gathers.{AskTable, need_at}
use Rattle.iris_gather.specs.OpenGathers.{OpenGathers, gather_at, is_ready, is_request, is_ask, serves_request, serves_ask, awaits}

-- the gather's number at that key
abbrev pub number_at : List (ℕ × ℕ) → ℕ → Option ℕ
number_at index key = lookup (is_at (nat_cmp key)) index

-- that key now has that, and all others are as before
abbrev pub IsWith : List (ℕ × ℕ) → List (ℕ × ℕ) → ℕ → Option ℕ → Type 0
IsWith old new key value = (other : ℕ) → number_at new other ≡ (if nat_eq other key then value else number_at old other)

-- those asks now have that, and all others are as before
abbrev pub AreWith : List (ℕ × ℕ) → List (ℕ × ℕ) → AskTable → Option ℕ → Type 0
AreWith old new asks value = (ask : ℕ) → number_at new ask ≡ (if is_some (need_at asks ask) then value else number_at old ask)

-- the same at each key
abbrev pub AreSame : List (ℕ × ℕ) → List (ℕ × ℕ) → Type 0
AreSame old new = (key : ℕ) → number_at new key ≡ number_at old key

-- whether the gather of that number is among those that are ready
abbrev pub has_number : Indices → ℕ → Bool
has_number indices number = contains nat_cmp indices.ready number

-- An index finds by each key the one gather that has it, and nothing by any other key.
pub record Finds (has : ℕ → Option OpenGather → Bool) (gathers : OpenGathers) (index : List (ℕ × ℕ)) : Type 0 where
  pub sound : (key number : ℕ) → number_at index key ≡ Some number → has key (gather_at gathers number) ≡ true
  pub whole : (key number : ℕ) → has key (gather_at gathers number) ≡ true → number_at index key ≡ Some number

-- The indices are those of these gathers.
pub record AreIndices (gathers : OpenGathers) (indices : Indices) : Type 0 where
  pub ready : (number : ℕ) → has_number indices number ≡ is_ready (gather_at gathers number)
  pub pending : Finds awaits gathers indices.pending
  pub requests : Finds serves_request gathers indices.requests
  pub asks : Finds serves_ask gathers indices.asks

-- ---- what the small calls leave

-- one number is ready now or is not, and the others are as before
abbrev pub IsReadyWith : Indices → Indices → ℕ → Bool → Type 0
IsReadyWith old new number ready = (other : ℕ) → has_number new other ≡ (if nat_eq other number then ready else has_number old other)

-- the parent leads to that number, or to none, and all other parents are as before
pub record ServesWith (old new : Indices) (parent : Parent) (number : Option ℕ) : Type 0 where
  pub requests : (key : ℕ) → number_at new.requests key ≡ (if is_request key parent then number else number_at old.requests key)
  pub asks : (key : ℕ) → number_at new.asks key ≡ (if is_ask key parent then number else number_at old.asks key)

-- all parents are as before
abbrev pub ServesSame : Indices → Indices → Type 0
ServesSame old new = AreSame old.requests new.requests × AreSame old.asks new.asks
