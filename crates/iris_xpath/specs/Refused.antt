-- Why a text is refused.
use Rattle.std.specs.Prelude.{◌≡◌, ◌≤◌, ◌<◌, ◌+◌, ℕ, List, length, take, drop, ◌-◌, slice_get, Option, Some, None}
use Rattle.iris_xpath.specs.declared.expression.NameTest.{NameTest}
use Rattle.iris_xpath.specs.Syntax.{Syntax}
use Rattle.iris_xpath.specs.declared.error.QueryError.{QueryError}
use Rattle.iris_xpath.specs.declared.error.QueryError.TheVariants as errors
use Rattle.iris_xpath.specs.declared.error.OutsidePart.{OutsidePart}
use Rattle.iris_xpath.specs.Spells.{Reads, IsPrefix}
use Rattle.iris_xpath.specs.Machine.{Configuration, at, inside, run, start}
use Rattle.iris_xpath.specs.Outside.{what_at, last_of}

-- the first bytes begin a query, and one more do not, or the text ends there and is no query
abbrev pub Judged : (List ℕ → NameTest) → List ℕ → ℕ → Type 0
Judged n text p = (p ≤ length text) × IsPrefix n (take p text) × (p < length text → IsPrefix n (take (p + 1) text) → ⊥) × (p ≡ length text → (q : Syntax) → Reads n text q → ⊥)

-- the last of some bytes
abbrev pub last_byte : List ℕ → Option ℕ
last_byte bs = slice_get bs (length bs - 1)

-- what stands at the front of the rest, in a configuration and after a byte
abbrev pub what_in : Option Configuration → Option ℕ → List ℕ → Option OutsidePart
what_in None before rest = None
what_in (Some (at state fs)) before rest = what_at (last_of state) before rest
what_in (Some (inside q text side fs)) before rest = None

-- the part of XPath 1.0 that stands at an offset, after the state to which the bytes before it lead
abbrev pub what_there : (List ℕ → NameTest) → List ℕ → ℕ → Option OutsidePart
what_there n text p = what_in (run n start (take p text)) (last_byte (take p text)) (drop p text)

-- why a text is no spelling of a query
abbrev pub Refused : (List ℕ → NameTest) → List ℕ → QueryError → Type 0
Refused n text (errors.Syntax p) = Judged n text p × (what_there n text p ≡ None)
Refused n text (errors.Outside p what) = Judged n text p × (what_there n text p ≡ Some what)
Refused n text (errors.TooLarge which) = ⊥
Refused n text errors.Memory = Unit {0}

-- a refusal at that offset, of that part
abbrev pub IsAt : QueryError → ℕ → Option OutsidePart → Type 0
IsAt (errors.Syntax p) i w = (p ≡ i) × (w ≡ None)
IsAt (errors.Outside p what) i w = (p ≡ i) × (w ≡ Some what)
IsAt (errors.TooLarge which) i w = ⊥
IsAt errors.Memory i w = ⊥
