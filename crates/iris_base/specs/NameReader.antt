-- Reading a name from the left, byte by byte: for private clauses alone. Proofs show that what is read whole is just the texts of names.
use Rattle.std.specs.Prelude.{◌≡◌, ℕ, ◌+◌, ◌<◌, ◌≤◌, Bool, ◌&&◌, ◌==◌, nat_lt, Option, Some, None, List, [], ◌∷◌, ◌++◌, length, if◌then◌else◌, option_and_then, reverse}
use Rattle.iris_base.specs.declared.name.Label.{Label}
use Rattle.iris_base.specs.declared.letters.Letters.{Letters}
use Rattle.iris_base.specs.declared.letters.Letters.TheVariants.{Lower, Word}
use Rattle.iris_base.specs.declared.letters.TheConstants.{DASH, DOT}
use Rattle.iris_base.specs.declared.limits.TheConstants.{MAX_KIND_BYTES, MAX_ID_BYTES, MAX_LABELS}
use Rattle.iris_base.specs.Letters.{allows}
use Rattle.iris_base.specs.Forms.{AllowsBelow, IsKind}
use Rattle.iris_base.specs.NameText.{AreLabels}
use Rattle.iris_base.specs.declared.error.NameError.{NameError}
use Rattle.iris_base.specs.declared.error.NameError.TheVariants.{BadName, Memory}

-- the labels that are read, from the node up, the kind of the one under way if it is read, and the bytes of the part under way
pub record Reading : Type 0 where
  pub done : List Label
  pub kind : Option (List ℕ)
  pub part : List ℕ

abbrev pub start : Reading
start = record { done = []; kind = None; part = [] }

-- the form of the part under way
abbrev pub letters_of : Option (List ℕ) → Letters
letters_of None = Lower
letters_of (Some kind) = Word

abbrev pub max_bytes_of : Option (List ℕ) → ℕ
max_bytes_of None = MAX_KIND_BYTES
max_bytes_of (Some kind) = MAX_ID_BYTES

-- whether a word of that form goes on with the byte
unfoldable pub takes : Letters → ℕ → List ℕ → ℕ → Bool
takes letters most part b = nat_lt (length part) most && allows letters letters (length part) b

-- whether the byte is the separator, behind a part that is not empty
unfoldable pub ends : ℕ → List ℕ → ℕ → Bool
ends separator part b = nat_lt 0 (length part) && b == separator

-- a separator behind the part
abbrev pub close : Option (List ℕ) → Reading → ℕ → Option Reading
close None r b = if ends DASH r.part b then Some (record { done = r.done; kind = Some r.part; part = [] }) else None
close (Some kind) r b =
    if ends DOT r.part b && nat_lt (length r.done + 1) MAX_LABELS then Some (record { done = r.done ++ record { kind = kind; id = r.part } ∷ []; kind = None; part = [] }) else None

unfoldable pub step : Reading → ℕ → Option Reading
step r b =
    if takes (letters_of r.kind) (max_bytes_of r.kind) r.part b then Some (record { done = r.done; kind = r.kind; part = r.part ++ b ∷ [] }) else close r.kind r b

unfoldable pub run : Reading → List ℕ → Option Reading
run r [] = Some r
run r (b ∷ bs) = option_and_then (λ s. run s bs) (step r b)

-- at most so many bytes, each such as may stand there
pub record IsFront (letters : Letters) (most : ℕ) (part : List ℕ) : Type 0 where
  pub fits : length part ≤ most
  pub each : AllowsBelow letters letters part (length part)

abbrev pub IsReadKind : Option (List ℕ) → Type 0
IsReadKind None = Unit {0}
IsReadKind (Some kind) = IsKind kind

-- what a reading has
pub record IsReading (r : Reading) : Type 0 where
  pub labels : AreLabels r.done
  pub few : length r.done < MAX_LABELS
  pub kind : IsReadKind r.kind
  pub part : IsFront (letters_of r.kind) (max_bytes_of r.kind) r.part

-- the name that ends with the label under way
pub record Finishes (r : Reading) (name : List Label) : Type 0 where
  pub kind : List ℕ
  pub kind_is : r.kind ≡ Some kind
  pub some : 0 < length r.part
  pub name_is : name ≡ record { kind = kind; id = r.part } ∷ reverse r.done

-- why it ends with none: no whole label is under way, or there was no memory
abbrev pub IsOpen : Reading → Type 0
IsOpen r = (kind : List ℕ) → r.kind ≡ Some kind → 0 < length r.part → ⊥

abbrev pub Unfinished : Reading → ℕ → NameError → Type 0
Unfinished r end (BadName at) = (at ≡ end) × IsOpen r
Unfinished r end Memory = Unit {0}
