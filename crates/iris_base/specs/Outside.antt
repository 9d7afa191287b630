-- What calls on something outside do to bytes and to counts of faults.
use Rattle.std.specs.Prelude.{◌≡◌, ℕ, ◌≤◌, ◌<◌, List, [], ◌∷◌, ◌++◌, Result, Ok, Err, IsErrOf}
use Rattle.std.specs.declared.option.Option.{Option}
use Rattle.std.specs.declared.option.Option.TheVariants.{Some, None}
use Rattle.std.specs.Io.KnownBytes.{Appends, Consumes, IsAtEnd, Keeps}

-- the count of faults never falls, and has risen where the call failed
pub record HasCause {T E : Type 0} (failure : E) (before now : ℕ) (result : Result T E) : Type 0 where
  pub later : before ≤ now
  pub failed : IsErrOf result failure → before < now

-- a byte was taken, or the end was met, or at an error nothing was taken
abbrev pub TakesByte : {E : Type 0} → Option (List ℕ) → Option (List ℕ) → Result (Option ℕ) E → Type 0
TakesByte old new (Ok (Some byte)) = Consumes old new (byte ∷ [])
TakesByte old new (Ok None) = Consumes old new [] × IsAtEnd new
TakesByte old new (Err e) = Keeps old new

-- all bytes were added, or at an error a part of them from the front
abbrev pub Puts : {E : Type 0} → Option (List ℕ) → Option (List ℕ) → Result (Unit {0}) E → List ℕ → Type 0
Puts old new (Ok u) bytes = Appends old new bytes
Puts old new (Err e) bytes = (part : List ℕ) × (more : List ℕ) × (bytes ≡ part ++ more) × Appends old new part
