-- Which bytes a set of letters has.
use Rattle.std.specs.Prelude.{ℕ, Bool, ◌||◌, ◌==◌, if◌then◌else◌}
use Rattle.std.specs.Char.{is_ascii_lowercase, is_ascii_digit, is_ascii_alphanumeric, is_ascii_alphabetic}
use Rattle.iris_base.specs.declared.letters.TheConstants.{DASH, UNDERSCORE}
use Rattle.iris_base.specs.declared.letters.Letters.{Letters}
use Rattle.iris_base.specs.declared.letters.Letters.TheVariants.{Lower, LowerOrDigit, Word, Letter, WordOrDash}

abbrev pub has : Letters → ℕ → Bool
has Lower c = is_ascii_lowercase c
has LowerOrDigit c = is_ascii_lowercase c || is_ascii_digit c
has Word c = is_ascii_alphanumeric c || c == UNDERSCORE
has Letter c = is_ascii_alphabetic c
has WordOrDash c = (is_ascii_alphanumeric c || c == UNDERSCORE) || c == DASH

-- whether a byte may stand at an index: the first byte is in one set, the later ones in another
unfoldable pub allows : Letters → Letters → ℕ → ℕ → Bool
allows first later i c = has (if i == 0 then first else later) c
