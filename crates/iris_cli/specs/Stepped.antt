-- The play of a script before its last line: one line of it, and its lines so far.
use Rattle.std.specs.Prelude.{◌≡◌, ◌≢◌, ℕ, ◌+◌, List, [], ◌++◌, ◌⊎◌, length, Option, Some, None, Result, Ok, Err}
use Rattle.std.specs.List.{flat_map}
use Rattle.std.specs.Io.KnownBytes.{Appends}
use Rattle.iris_base.specs.declared.limits.TheConstants.{MAX_SCRIPT_BYTES}
use Rattle.iris_cli.specs.declared.halt.Halt.{Halt}
use Rattle.iris_cli.specs.declared.halt.Halt.TheVariants.{ReadFault, WriteFault, BadLine, Limit, Memory}
use Rattle.iris_cli.specs.declared.status.Status.{Status}
use Rattle.iris_cli.specs.declared.status.Status.TheVariants as statuses
use Rattle.iris_cli.specs.declared.event.Event.{Event}
use Rattle.iris_cli.specs.Lines.{ended}
use Rattle.iris_cli.specs.LineSays.{LineSays, IsNoEvent, IsToldOf}
use Rattle.iris_cli.specs.Run.{World, out_lines, brings, after}
use Rattle.iris_cli.specs.Taken.{IsWithinLimits}
use Rattle.iris_cli.specs.Played.{room_after, AreLines, DoneSo, IsRefusedCity, WritesFront, IsFault, IsPast, last_line}

-- a front of the bytes was added
abbrev pub IsPartOf : Option (List ℕ) → Option (List ℕ) → List ℕ → Type 0
IsPartOf old new bytes = (part : List ℕ) × (unwritten : List ℕ) × (bytes ≡ part ++ unwritten) × Appends old new part

-- ---- one line

-- a city line is refused where it is none, unless there was no memory
abbrev pub RefusesCityLine : List ℕ → Halt → Type 0
RefusesCityLine line (BadLine why node) = IsRefusedCity line (BadLine why node)
RefusesCityLine line (Limit which count) = IsRefusedCity line (Limit which count)
RefusesCityLine line Memory = Unit {0}
RefusesCityLine line ReadFault = ⊥
RefusesCityLine line WriteFault = ⊥

-- a front of what the line brings about was added
abbrev pub AddsFront : World → List ℕ → Option (List ℕ) → Option (List ℕ) → Type 0
AddsFront w line old new = Appends old new []
    ⊎ ((event : Event) × LineSays w.site.kinds line event × IsPartOf old new (out_lines (brings w event)))

-- the line was done, or why not
abbrev pub Stepped : World → World → List ℕ → Option (List ℕ) → Option (List ℕ) → Result (Unit {0}) Halt → Type 0
Stepped w next line old new (Ok u) = (event : Event) × LineSays w.site.kinds line event × (next ≡ after w event) × Appends old new (out_lines (brings w event))
Stepped w next line old new (Err (BadLine why node)) = IsNoEvent w.site.kinds line × IsToldOf line (BadLine why node) × Appends old new []
Stepped w next line old new (Err (Limit which count)) = ⊥
Stepped w next line old new (Err WriteFault) = AddsFront w line old new
Stepped w next line old new (Err Memory) = AddsFront w line old new
Stepped w next line old new (Err ReadFault) = ⊥

-- ---- the lines so far

-- so many lines were done, the source has the rest, and the script may have `room` bytes more
abbrev pub IsSoFar : Option (List ℕ) → Option (List ℕ) → Option (List ℕ) → Option (List ℕ) → ℕ → ℕ → Option World → Type 0
IsSoFar None now old new number room w = Unit {0}
IsSoFar (Some text) None old new number room w = ⊥
IsSoFar (Some text) (Some rest) old new number room w = (lines : List (List ℕ)) × (done : List ℕ) × (text ≡ flat_map ended lines ++ rest) × AreLines lines × DoneSo lines done w × Appends old new done
    × (number ≡ length lines) × (room + length (flat_map ended lines) ≡ MAX_SCRIPT_BYTES)

-- what is so of the rest of the script where its lines were done up to this end
abbrev pub Halts : List (List ℕ) → Option World → List ℕ → List ℕ → List ℕ → ℕ → Result (Unit {0}) Halt → Type 0
Halts lines w rest left part number (Ok u) = (lines ≢ []) × (rest ≡ []) × (left ≡ []) × (part ≡ [])
Halts lines w rest left part number (Err (BadLine why node)) = IsFault lines w rest left number why node × (part ≡ [])
Halts lines w rest left part number (Err (Limit which count)) = IsPast lines w rest left which count × (part ≡ [])
Halts lines w rest left part number (Err ReadFault) = (cut : List ℕ) × (rest ≡ cut ++ left) × IsWithinLimits (length lines) (room_after lines) cut × (part ≡ [])
Halts lines w rest left part number (Err WriteFault) = WritesFront lines w rest left part
Halts lines w rest left part number (Err Memory) = WritesFront lines w rest left part

-- the script was run up to this end
abbrev pub RanTo : Option (List ℕ) → Option (List ℕ) → Option (List ℕ) → Option (List ℕ) → ℕ → Result (Unit {0}) Halt → Type 0
RanTo None now old new number result = Unit {0}
RanTo (Some text) None old new number result = ⊥
RanTo (Some text) (Some left) old new number result = (lines : List (List ℕ)) × (rest : List ℕ) × (w : Option World) × (done : List ℕ) × (part : List ℕ)
    × (text ≡ flat_map ended lines ++ rest) × AreLines lines × DoneSo lines done w × Appends old new (done ++ part) × Halts lines w rest left part number result

-- ---- the last line

-- the status of such an end, on that line
abbrev pub status_of : ℕ → Result (Unit {0}) Halt → Status
status_of number (Ok u) = statuses.Done
status_of number (Err (BadLine why node)) = statuses.BadScript number why node
status_of number (Err (Limit which count)) = statuses.Limit which count
status_of number (Err ReadFault) = statuses.ReadFault
status_of number (Err WriteFault) = statuses.WriteFault
status_of number (Err Memory) = statuses.Memory

-- the last line of the status was added, if it has one; or a front of it, where the sink failed or there was no memory
abbrev pub Closes : Option (List ℕ) → Option (List ℕ) → Status → Status → Type 0
Closes old new told result = ((result ≡ told) × Appends old new (last_line told))
    ⊎ (((result ≡ statuses.WriteFault) ⊎ (result ≡ statuses.Memory)) × IsPartOf old new (last_line told))
