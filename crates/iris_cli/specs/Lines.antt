-- What a line is, and what the reader of one line takes.
use Rattle.std.specs.Prelude.{◌≡◌, ◌≢◌, ℕ, ◌≤◌, ◌<◌, ◌+◌, ◌==◌, false, List, [], ◌∷◌, ◌++◌, length, Result, Ok, Err, OnSome}
use Rattle.std.specs.List.{AllByRecursion}
use Rattle.std.specs.declared.option.Option.{Option}
use Rattle.std.specs.Io.KnownBytes.{Consumes, IsAtEnd}
use Rattle.iris_base.specs.declared.faults.Fault.{Fault}
use Rattle.iris_base.specs.declared.faults.Fault.TheVariants.{Failed, Memory}
use Rattle.iris_cli.specs.declared.line.NextLine.{NextLine}
use Rattle.iris_cli.specs.declared.line.NextLine.TheVariants as lines
use Rattle.iris_cli.specs.declared.source.LinePart.{LinePart}
use Rattle.iris_cli.specs.declared.source.LinePart.TheVariants.{More, Last, End}

-- the byte that ends a line
abbrev pub LF : ℕ
LF = 10

-- the byte is no LF
abbrev pub IsNoLf : ℕ → Type 0
IsNoLf byte = (byte == LF) ≡ false

-- no byte is an LF
abbrev pub NoLf : List ℕ → Type 0
NoLf bytes = AllByRecursion IsNoLf bytes

-- a line of at most so many bytes, without its LF
abbrev pub IsLine : ℕ → List ℕ → Type 0
IsLine limit line = NoLf line × (length line ≤ limit)

-- a line with its LF
abbrev pub ended : List ℕ → List ℕ
ended line = line ++ LF ∷ []

-- Bytes of a line were taken, at most `most`, and put behind those of before: some of them; or the last and the LF; or none at the end.
-- Where there was no memory bytes without LF were taken.
abbrev pub TakesPart : ℕ → Option (List ℕ) → Option (List ℕ) → List ℕ → List ℕ → Result LinePart Fault → Type 0
TakesPart most old new before after (Ok More) = (part : List ℕ) × (after ≡ before ++ part) × Consumes old new part × NoLf part × (length part ≤ most) × (part ≢ [])
TakesPart most old new before after (Ok Last) = (part : List ℕ) × (after ≡ before ++ part) × Consumes old new (ended part) × NoLf part × (length part < most)
TakesPart most old new before after (Ok End) = (after ≡ before) × Consumes old new [] × OnSome old (IsAtEnd new)
TakesPart most old new before after (Err Failed) = (after ≡ before) × Consumes old new []
TakesPart most old new before after (Err Memory) = (cut : List ℕ) × Consumes old new cut × NoLf cut

-- The reader of one line took these bytes of the source, and the LF of a whole line; at most one byte past the limit.
-- Where there was no memory it took bytes without LF.
abbrev pub TakesLine : ℕ → Option (List ℕ) → Option (List ℕ) → List ℕ → Result NextLine Fault → Type 0
TakesLine limit old new line (Ok lines.Whole) = Consumes old new (ended line) × IsLine limit line
TakesLine limit old new line (Ok lines.End) = Consumes old new [] × OnSome old (IsAtEnd new)
TakesLine limit old new line (Ok lines.Cut) = Consumes old new line × IsLine limit line × (line ≢ []) × OnSome old (IsAtEnd new)
TakesLine limit old new line (Ok lines.Long) = Consumes old new line × NoLf line × (length line ≡ limit + 1)
TakesLine limit old new line (Err Failed) = Consumes old new line × IsLine limit line
TakesLine limit old new line (Err Memory) = (cut : List ℕ) × Consumes old new cut × NoLf cut
