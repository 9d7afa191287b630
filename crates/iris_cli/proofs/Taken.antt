-- Which limit the bytes of the next line pass.
use Rattle.std.proofs.Common.{◌≡◌, ◌≢◌, ℕ, zero, suc, ◌+◌, ◌-◌, ◌<◌, ◌≤◌, List, [], ◌∷◌, ◌++◌, length, refl, ap, arith, length-append, Ok, Err}
use Rattle.std.specs.declared.option.Option.{Option}
use Rattle.std.specs.Io.KnownBytes.{Consumes}
use Rattle.iris_base.specs.declared.limits.TheConstants.{MAX_SCRIPT_BYTES, MAX_LINES}
use Rattle.iris_json.specs.declared.out.Which.TheVariants as limits
use Rattle.iris_cli.specs.declared.halt.Halt.TheVariants.{Limit}
use Rattle.iris_cli.specs.declared.line.NextLine.{NextLine}
use Rattle.iris_cli.specs.declared.line.NextLine.TheVariants as lines
use Rattle.iris_cli.specs.Lines.{LF, NoLf, IsLine, ended, TakesLine}
use Rattle.iris_cli.specs.Taken.{ScriptState, max_line_bytes, IsWithinLimits, PassesLimit, TakesNext}
use Rattle.iris_cli.specs.Taken as passed
use Rattle.iris_cli.proofs.Bytes.{none_left}

-- bytes without LF, and the last of them
split_last : (bytes : List ℕ) (n : ℕ) → NoLf bytes → length bytes ≡ n + 1 → (fit : List ℕ) × (byte : ℕ) × (bytes ≡ fit ++ byte ∷ []) × NoLf fit × (length fit ≡ n)
split_last [] n clean l = absurd (omega (arith, l))
split_last (x ∷ []) n clean l = ([], x, refl, tt, omega (arith, l))
split_last (x ∷ y ∷ bytes) n clean l =
    let rest = split_last (y ∷ bytes) (n - 1) clean.1 (omega (arith, l)) in
    let size = rest.4 in (x ∷ rest.0, rest.1, ap (λ v. x ∷ v) rest.2, (clean.0, rest.3), omega (arith, size, l))

-- a whole line has an LF
has_lf : (line : List ℕ) → NoLf (ended line) → ⊥
has_lf [] clean = let e = clean.0 in cc
has_lf (x ∷ line) clean = has_lf line clean.1

some_bytes : (number : ℕ) → 1 ≤ max_line_bytes number
some_bytes zero = omega arith
some_bytes (suc number) = omega arith

-- the line is too long, and the script is not before it
pub past_line : (number room : ℕ) (line : List ℕ) → number < MAX_LINES → NoLf line → length line ≡ max_line_bytes number + 1 → max_line_bytes number ≤ room → PassesLimit number room line limits.Line (max_line_bytes number + 1)
past_line number room line few clean l fits =
    let s = split_last line (max_line_bytes number) clean l in
    let size = s.4 in
    record {
      fit = s.0;
      byte = s.1;
      front_is = s.2;
      within = record { no_lf = s.3; line = omega (arith, size); script = omega (arith, size, fits); lines = λ some. few };
      limit = max_line_bytes number;
      past = passed.line (clean, omega (arith, l));
      count_is = refl;
    }

-- the script is too long before the line is
pub past_script : (number room : ℕ) (line : List ℕ) → number < MAX_LINES → NoLf line → length line ≡ room + 1 → room < max_line_bytes number → PassesLimit number room line limits.Script (MAX_SCRIPT_BYTES + 1)
past_script number room line few clean l short =
    let s = split_last line room clean l in
    let size = s.4 in
    record {
      fit = s.0;
      byte = s.1;
      front_is = s.2;
      within = record { no_lf = s.3; line = omega (arith, size, short); script = omega (arith, size); lines = λ some. few };
      limit = MAX_SCRIPT_BYTES;
      past = passed.script (omega (arith, l)) (λ long. let long_by = long.1 in omega (arith, long_by, l, short));
      count_is = refl;
    }

-- the LF of a line is the byte that is too many for the script
pub past_script_at_lf : (number room : ℕ) (line : List ℕ) → number < MAX_LINES → IsLine (max_line_bytes number) line → length line ≡ room → PassesLimit number room (ended line) limits.Script (MAX_SCRIPT_BYTES + 1)
past_script_at_lf number room line few is l =
    let size : length (ended line) ≡ length line + 1 = length-append line (LF ∷ []) in
    record {
      fit = line;
      byte = LF;
      front_is = refl;
      within = record { no_lf = is.0; line = is.1; script = omega (arith, l); lines = λ some. few };
      limit = MAX_SCRIPT_BYTES;
      past = passed.script (omega (arith, size, l)) (λ long. has_lf line long.0);
      count_is = refl;
    }

-- ---- past the last line

only_byte : (front : List ℕ) → length front ≡ 1 → (byte : ℕ) × (front ≡ byte ∷ [])
only_byte [] l = absurd (omega (arith, l))
only_byte (x ∷ []) l = (x, refl)
only_byte (x ∷ y ∷ front) l = absurd (omega (arith, l))

nothing : (number room : ℕ) → IsWithinLimits number room []
nothing number room = record { no_lf = tt; line = omega arith; script = omega arith; lines = λ some. absurd (some refl) }

-- a byte after the last line, for which the script has no room either
pub past_script_and_lines : (number room : ℕ) (front : List ℕ) → length front ≡ 1 → room ≡ 0 → PassesLimit number room front limits.Script (MAX_SCRIPT_BYTES + 1)
past_script_and_lines number room front l full =
    let b = only_byte front l in
    let some = some_bytes number in
    record {
      fit = [];
      byte = b.0;
      front_is = b.1;
      within = nothing number room;
      limit = MAX_SCRIPT_BYTES;
      past = passed.script (omega (arith, l, full)) (λ long. let long_by = long.1 in omega (arith, long_by, l, some));
      count_is = refl;
    }

-- a byte after the last line
pub past_lines : (number room : ℕ) (front : List ℕ) → number ≡ MAX_LINES → length front ≡ 1 → 0 < room → PassesLimit number room front limits.Lines (MAX_LINES + 1)
past_lines number room front last l free =
    let b = only_byte front l in
    let some = some_bytes number in
    record {
      fit = [];
      byte = b.0;
      front_is = b.1;
      within = nothing number room;
      limit = MAX_LINES;
      past = passed.lines last (λ e. let z : length front ≡ 0 = ap length e in omega (arith, z, l)) (λ long. let long_by = long.1 in omega (arith, long_by, l, some)) (λ long. omega (arith, long, l, free));
      count_is = refl;
    }

one_byte : (old new : Option (List ℕ)) (line : List ℕ) (next : NextLine) → TakesLine 0 old new line (Ok next) → next ≢ lines.End → (front : List ℕ) × Consumes old new front × (length front ≡ 1)
one_byte old new line lines.Whole took more = let size : length (ended line) ≡ length line + 1 = length-append line (LF ∷ []) in let short = took.1.1 in (ended line, took.0, omega (arith, size, short))
one_byte old new line lines.End took more = absurd (more refl)
one_byte old new line lines.Cut took more = absurd (took.2 (none_left line (let short = took.1.1 in omega (arith, short))))
one_byte old new line lines.Long took more = (line, took.0, let size = took.2 in omega (arith, size))

-- one byte was taken after the last line, for which the script has no room either
pub takes_past_script : (s t : ScriptState) (old new : Option (List ℕ)) (line : List ℕ) (next : NextLine) → TakesLine 0 old new line (Ok next) → next ≢ lines.End → s.room ≡ 0 → TakesNext s old new t (Err (Limit limits.Script (MAX_SCRIPT_BYTES + 1)))
takes_past_script s t old new line next took more full = let one = one_byte old new line next took more in (one.0, one.1, past_script_and_lines s.number s.room one.0 one.2 full)

-- one byte was taken after the last line
pub takes_past_lines : (s t : ScriptState) (old new : Option (List ℕ)) (line : List ℕ) (next : NextLine) → TakesLine 0 old new line (Ok next) → next ≢ lines.End → s.number ≡ MAX_LINES → 0 < s.room → TakesNext s old new t (Err (Limit limits.Lines (MAX_LINES + 1)))
takes_past_lines s t old new line next took more last free = let one = one_byte old new line next took more in (one.0, one.1, past_lines s.number s.room one.0 last one.2 free)
