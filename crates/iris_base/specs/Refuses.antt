-- Why a text was refused.
use Rattle.std.specs.Prelude.{ℕ, List}
use Rattle.iris_base.specs.declared.error.TextError.{TextError}
use Rattle.iris_base.specs.declared.error.TextError.TheVariants.{BadText, Memory}
use Rattle.iris_base.specs.declared.error.NameError.{NameError}
use Rattle.iris_base.specs.declared.error.NameError.TheVariants as names
use Rattle.iris_base.specs.Stops.{StopsAt}
use Rattle.iris_base.specs.NameText.{IsNameText}

-- the error is just where the text goes off the form, and never running out of memory
abbrev pub Refuses : (List ℕ → Type 0) → List ℕ → TextError → Type 0
Refuses P bytes (BadText at) = StopsAt P bytes at
Refuses P bytes Memory = ⊥

-- the error is just where the text goes off the form of names, or there was no memory
abbrev pub RefusesName : List ℕ → NameError → Type 0
RefusesName bytes (names.BadName at) = StopsAt IsNameText bytes at
RefusesName bytes names.Memory = Unit {0}
