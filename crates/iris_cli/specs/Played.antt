-- What `play` wrote of a script, by the status that it answered.
use Rattle.std.specs.Prelude.{◌≡◌, ◌≢◌, ℕ, ◌+◌, ◌-◌, ◌≤◌, List, [], ◌∷◌, ◌++◌, ◌⊎◌, length, Option, Some, None}
use Rattle.std.specs.List.{flat_map, AllByRecursion}
use Rattle.std.specs.Io.KnownBytes.{Appends}
use Rattle.iris_base.specs.declared.limits.TheConstants.{MAX_CITY_BYTES, MAX_LINE_BYTES, MAX_SCRIPT_BYTES, MAX_LINES}
use Rattle.iris_json.specs.CityLine.{ReadsCity, RefusesCity}
use Rattle.iris_json.specs.declared.city.City.{City}
use Rattle.iris_json.specs.declared.city.CityError.{CityError}
use Rattle.iris_json.specs.declared.out.Why.{Why}
use Rattle.iris_json.specs.declared.out.Why.TheVariants as whys
use Rattle.iris_json.specs.declared.out.Which.{Which}
use Rattle.iris_json.specs.declared.out.Out.{Out}
use Rattle.iris_json.specs.declared.out.Out.TheVariants as outs
use Rattle.iris_cli.specs.declared.halt.Halt.{Halt}
use Rattle.iris_cli.specs.declared.halt.Halt.TheVariants as halts
use Rattle.iris_cli.specs.declared.status.Status.{Status}
use Rattle.iris_cli.specs.declared.status.Status.TheVariants.{Done, Usage, BadScript, ReadFault, WriteFault, Limit, Memory}
use Rattle.iris_cli.specs.declared.event.Event.{Event}
use Rattle.iris_cli.specs.Halt.{of_city}
use Rattle.iris_cli.specs.Lines.{ended, IsLine}
use Rattle.iris_cli.specs.LineSays.{LineSays, IsNoEvent, IsToldOf}
use Rattle.iris_cli.specs.Served.{IsServedCity, IsUnservedCity, not_served}
use Rattle.iris_cli.specs.Run.{World, out_line, out_lines, brings, RunsScript}
use Rattle.iris_cli.specs.Allowed.{BringsAllowed, ScriptAllowed}
use Rattle.iris_cli.specs.Taken.{PassesLimit, LineFollows, IsWithinLimits}

-- ---- the lines that were done

-- how many bytes a script may have after these lines
abbrev pub room_after : List (List ℕ) → ℕ
room_after lines = MAX_SCRIPT_BYTES - length (flat_map ended lines)

-- each line is within its limit: the city line, and those after it
abbrev pub AreShort : List (List ℕ) → Type 0
AreShort [] = Unit {0}
AreShort (city ∷ lines) = IsLine MAX_CITY_BYTES city × AllByRecursion (IsLine MAX_LINE_BYTES) lines

-- the lines of a script: the city line, lines after it, and not too many of them nor of their bytes
pub record AreLines (lines : List (List ℕ)) : Type 0 where
  pub each : AreShort lines
  pub few : length lines ≤ MAX_LINES
  pub short : length (flat_map ended lines) ≤ MAX_SCRIPT_BYTES

-- the bytes that lines wrote, the first of them the city, and where that left the city
abbrev pub DoneSo : List (List ℕ) → List ℕ → Option World → Type 0
DoneSo [] written None = written ≡ []
DoneSo [] written (Some w) = ⊥
DoneSo (city ∷ lines) written None = ⊥
DoneSo (city ∷ lines) written (Some w) = RunsScript city lines written w

-- ---- a line that is refused

-- the line is of no city that is served
abbrev pub IsNoCityLine : List ℕ → Type 0
IsNoCityLine line = (city : City) (agent : List ℕ) → ReadsCity line city → IsServedCity city agent → ⊥

-- what is told of a line of no city: what it lacks to be one, or, where the city is not served yet, that it is of no form
abbrev pub IsToldOfCity : List ℕ → Halt → Type 0
IsToldOfCity line halt = ((error : CityError) × RefusesCity line error × (of_city error ≡ halt)) ⊎ (IsUnservedCity line × (halt ≡ not_served))

-- the line is of no city that is served, and that is told of it
abbrev pub IsRefusedCity : List ℕ → Halt → Type 0
IsRefusedCity line halt = IsNoCityLine line × IsToldOfCity line halt

-- the next line is no line of a script where the run stands, and that is told of it
abbrev pub IsRefused : Option World → List ℕ → Halt → Type 0
IsRefused None line halt = IsRefusedCity line halt
IsRefused (Some w) line halt = IsNoEvent w.site.kinds line × IsToldOf line halt

-- the rest begins with a line that is refused so, and that was taken
abbrev pub BeginsRefused : List (List ℕ) → Option World → List ℕ → List ℕ → Halt → Type 0
BeginsRefused lines w rest left halt = (bad : List ℕ) × (rest ≡ ended bad ++ left) × LineFollows (length lines) (room_after lines) bad × IsRefused w bad halt

-- ---- how the rest of the script begins

-- What is wrong with the rest, how much of it was not taken, and which line that is: there is no byte at all, the bytes after the last LF are no line, or a line is refused.
pub data IsFault (lines : List (List ℕ)) (w : Option World) (rest left : List ℕ) (line : ℕ) : Why → Option ℕ → Type 0 where
  empty : lines ≡ [] → rest ≡ [] → left ≡ [] → line ≡ 1 → IsFault lines w rest left line whys.Empty None
  truncated : IsWithinLimits (length lines) (room_after lines) rest → rest ≢ [] → left ≡ [] → line ≡ length lines + 1 → IsFault lines w rest left line whys.Truncated None
  refused : (why : Why) (node : Option ℕ) → BeginsRefused lines w rest left (halts.BadLine why node) → line ≡ length lines + 1 → IsFault lines w rest left line why node

-- the bytes that were taken pass that limit: of a line, of the script, or of the city
abbrev pub IsPast : List (List ℕ) → Option World → List ℕ → List ℕ → Which → ℕ → Type 0
IsPast lines w rest left which count = ((front : List ℕ) × (rest ≡ front ++ left) × PassesLimit (length lines) (room_after lines) front which count)
    ⊎ BeginsRefused lines w rest left (halts.Limit which count)

-- Nothing was written; or a front of what the next line writes, which is one of a script, was taken with its LF, and brings about only answers that are allowed.
abbrev pub WritesFront : List (List ℕ) → Option World → List ℕ → List ℕ → List ℕ → Type 0
WritesFront lines None rest left part = part ≡ []
WritesFront lines (Some w) rest left part = (part ≡ [])
    ⊎ ((line : List ℕ) × (event : Event) × (unwritten : List ℕ) × (rest ≡ ended line ++ left) × LineFollows (length lines) (room_after lines) line × LineSays w.site.kinds line event × BringsAllowed w event
    × (out_lines (brings w event) ≡ part ++ unwritten))

-- ---- the last line

-- the last line of a run that ends so, if it has one
abbrev pub last_out : Status → Option Out
last_out (BadScript line why node) = Some (outs.Ended line why node)
last_out (Limit which count) = Some (outs.Limit count which)
last_out Done = None
last_out Usage = None
last_out ReadFault = None
last_out WriteFault = None
last_out Memory = None

-- the bytes of a line, if there is one
abbrev pub line_bytes : Option Out → List ℕ
line_bytes None = []
line_bytes (Some out) = out_line out

-- the bytes of the last line, none where there is none
abbrev pub last_line : Status → List ℕ
last_line status = line_bytes (last_out status)

-- the script has the fault that a last line tells
abbrev pub IsTold : List (List ℕ) → Option World → List ℕ → List ℕ → Status → Type 0
IsTold lines w rest left (BadScript line why node) = IsFault lines w rest left line why node
IsTold lines w rest left (Limit which count) = IsPast lines w rest left which count
IsTold lines w rest left Done = ⊥
IsTold lines w rest left Usage = ⊥
IsTold lines w rest left ReadFault = ⊥
IsTold lines w rest left WriteFault = ⊥
IsTold lines w rest left Memory = ⊥

-- a front of what comes next was written: of the next line's lines, or of a last line
abbrev pub IsStopped : List (List ℕ) → Option World → List ℕ → List ℕ → List ℕ → Type 0
IsStopped lines w rest left part = WritesFront lines w rest left part
    ⊎ ((status : Status) × (unwritten : List ℕ) × IsTold lines w rest left status × (last_line status ≡ part ++ unwritten))

-- ---- the play

-- what is so of the rest of the script, of what was left at exit, and of what was written behind the lines of the lines that were done
abbrev pub Ending : List (List ℕ) → Option World → List ℕ → List ℕ → List ℕ → Status → Type 0
Ending lines w rest left part Done = (lines ≢ []) × (rest ≡ []) × (left ≡ []) × (part ≡ [])
Ending lines w rest left part Usage = ⊥
Ending lines w rest left part (BadScript line why node) = IsTold lines w rest left (BadScript line why node) × (part ≡ last_line (BadScript line why node))
Ending lines w rest left part (Limit which count) = IsTold lines w rest left (Limit which count) × (part ≡ last_line (Limit which count))
Ending lines w rest left part ReadFault = (cut : List ℕ) × (rest ≡ cut ++ left) × IsWithinLimits (length lines) (room_after lines) cut × (part ≡ [])
Ending lines w rest left part WriteFault = IsStopped lines w rest left part
Ending lines w rest left part Memory = IsStopped lines w rest left part

-- The script splits into lines that were done whole and a rest; what was written is what they write, and a part behind it. Each answer that they brought about is allowed.
pub record Played (text left written : List ℕ) (status : Status) : Type 0 where
  pub lines : List (List ℕ)
  pub rest : List ℕ
  pub world : Option World
  pub done : List ℕ
  pub part : List ℕ
  pub text_is : text ≡ flat_map ended lines ++ rest
  pub are_lines : AreLines lines
  pub did : DoneSo lines done world
  pub allowed : ScriptAllowed lines
  pub written_is : written ≡ done ++ part
  pub ending : Ending lines world rest left part status

-- what a play adds to a sink, where the source tells what it has left and the sink what it holds
abbrev pub PlaysOn : Option (List ℕ) → Option (List ℕ) → Option (List ℕ) → Option (List ℕ) → Status → Type 0
PlaysOn None now old new status = Unit {0}
PlaysOn (Some text) None old new status = ⊥
PlaysOn (Some text) (Some left) old new status = (written : List ℕ) × Appends old new written × Played text left written status
