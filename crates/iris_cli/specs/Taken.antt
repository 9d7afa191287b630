-- What the reader of a script takes of its source for the next line, and which limit that passes.
use Rattle.std.specs.Prelude.{◌≡◌, ◌≢◌, ℕ, zero, suc, ◌+◌, ◌≤◌, ◌<◌, Bool, true, false, List, [], ◌∷◌, ◌++◌, length, Option, None, Result, Ok, Err, OnSome}
use Rattle.std.specs.Io.KnownBytes.{Consumes, IsAtEnd}
use Rattle.iris_base.specs.declared.limits.TheConstants.{MAX_CITY_BYTES, MAX_LINE_BYTES, MAX_SCRIPT_BYTES, MAX_LINES}
use Rattle.iris_json.specs.declared.out.Which.{Which}
use Rattle.iris_json.specs.declared.out.Which.TheVariants as limits
use Rattle.iris_json.specs.declared.out.Why.{Why}
use Rattle.iris_json.specs.declared.out.Why.TheVariants as whys
use Rattle.iris_cli.specs.declared.halt.Halt.{Halt}
use Rattle.iris_cli.specs.declared.halt.Halt.TheVariants.{ReadFault, WriteFault, BadLine, Limit, Memory}
use Rattle.iris_cli.specs.Lines.{NoLf, ended, IsLine}

-- how far the reading of a script is: its present line without the LF, the number of that line, from 1, and how many bytes may follow
pub record ScriptState : Type 0 where
  pub line : List ℕ
  pub number : ℕ
  pub room : ℕ

-- the greatest number of bytes of the line after so many, without its LF: the first is the city line
abbrev pub max_line_bytes : ℕ → ℕ
max_line_bytes zero = MAX_CITY_BYTES
max_line_bytes (suc number) = MAX_LINE_BYTES

-- ---- within the limits, after `number` lines, where the script may have `room` bytes more

-- the line may follow with its LF
abbrev pub LineFollows : ℕ → ℕ → List ℕ → Type 0
LineFollows number room line = (number < MAX_LINES) × IsLine (max_line_bytes number) line × (length (ended line) ≤ room)

-- these bytes of the next line, and no LF yet, pass no limit
pub record IsWithinLimits (number room : ℕ) (front : List ℕ) : Type 0 where
  pub no_lf : NoLf front
  pub line : length front ≤ max_line_bytes number
  pub script : length front ≤ room
  pub lines : front ≢ [] → number < MAX_LINES

-- ---- past a limit

-- more bytes of the next line, and no LF yet, than it may have
abbrev pub IsLong : ℕ → List ℕ → Type 0
IsLong number front = NoLf front × (max_line_bytes number < length front)

-- These bytes of the next line, and its LF where that is the last of them, pass that limit, which permits so much, and none before it in the list `line`, `script`, `lines`.
pub data IsFirstLimit (number room : ℕ) (front : List ℕ) : Which → ℕ → Type 0 where
  line : IsLong number front → IsFirstLimit number room front limits.Line (max_line_bytes number)
  script : room < length front → (IsLong number front → ⊥) → IsFirstLimit number room front limits.Script MAX_SCRIPT_BYTES
  lines : number ≡ MAX_LINES → front ≢ [] → (IsLong number front → ⊥) → (room < length front → ⊥) → IsFirstLimit number room front limits.Lines MAX_LINES

-- The last of these bytes of the next line is the first that passes a limit. Of the limits that it passes this is the first in the list, and the count is one more than it.
pub record PassesLimit (number room : ℕ) (front : List ℕ) (which : Which) (count : ℕ) : Type 0 where
  pub fit : List ℕ
  pub byte : ℕ
  pub front_is : front ≡ fit ++ byte ∷ []
  pub within : IsWithinLimits number room fit
  pub limit : ℕ
  pub past : IsFirstLimit number room front which limit
  pub count_is : count ≡ limit + 1

-- ---- the next line

-- The end of the text was met where a line must be: there is no line at all, or the bytes after the last LF are none.
pub data MeetsEnd (s t : ScriptState) (old new : Option (List ℕ)) : Why → Option ℕ → Type 0 where
  empty : Consumes old new [] → OnSome old (IsAtEnd new) → s.number ≡ 0 → t.number ≡ s.number + 1 → MeetsEnd s t old new whys.Empty None
  truncated : (cut : List ℕ) → Consumes old new cut → IsWithinLimits s.number s.room cut → cut ≢ [] → OnSome old (IsAtEnd new) → t.number ≡ s.number + 1 → MeetsEnd s t old new whys.Truncated None

-- What is taken for the next line: it and its LF; or nothing at the end of the text; or why neither.
abbrev pub TakesNext : ScriptState → Option (List ℕ) → Option (List ℕ) → ScriptState → Result Bool Halt → Type 0
TakesNext s old new t (Ok true) = Consumes old new (ended t.line) × LineFollows s.number s.room t.line × (t.number ≡ s.number + 1) × (t.room + length (ended t.line) ≡ s.room)
TakesNext s old new t (Ok false) = Consumes old new [] × OnSome old (IsAtEnd new) × (0 < s.number)
TakesNext s old new t (Err ReadFault) = (cut : List ℕ) × Consumes old new cut × IsWithinLimits s.number s.room cut
TakesNext s old new t (Err WriteFault) = ⊥
TakesNext s old new t (Err (BadLine why node)) = MeetsEnd s t old new why node
TakesNext s old new t (Err (Limit which count)) = (front : List ℕ) × Consumes old new front × PassesLimit s.number s.room front which count
TakesNext s old new t (Err Memory) = (cut : List ℕ) × Consumes old new cut
