-- The forms of short texts.
use Rattle.std.specs.Prelude.{◌≡◌, ℕ, true, ◌<◌, ◌≤◌, List, length, slice_index}
use Rattle.iris_base.specs.declared.letters.Letters.{Letters}
use Rattle.iris_base.specs.declared.letters.Letters.TheVariants.{Lower, LowerOrDigit, Word, Letter, WordOrDash}
use Rattle.iris_base.specs.declared.limits.TheConstants.{MAX_KIND_BYTES, MAX_ID_BYTES, MAX_TAG_BYTES, MAX_AGENT_BYTES}
use Rattle.iris_base.specs.Letters.{allows}

-- the first bytes are such as may stand there
abbrev pub AllowsBelow : Letters → Letters → List ℕ → ℕ → Type 0
AllowsBelow first later bytes n = (k : ℕ) → k < n → allows first later k (slice_index bytes k) ≡ true

-- at least one byte and at most so many, each such as may stand there
pub record IsWord (first later : Letters) (most : ℕ) (bytes : List ℕ) : Type 0 where
  pub some : 0 < length bytes
  pub fits : length bytes ≤ most
  pub each : AllowsBelow first later bytes (length bytes)

abbrev pub IsKind : List ℕ → Type 0
IsKind = IsWord Lower Lower MAX_KIND_BYTES

abbrev pub IsId : List ℕ → Type 0
IsId = IsWord Word Word MAX_ID_BYTES

abbrev pub IsTag : List ℕ → Type 0
IsTag = IsWord Letter WordOrDash MAX_TAG_BYTES

abbrev pub IsAgentId : List ℕ → Type 0
IsAgentId = IsWord LowerOrDigit LowerOrDigit MAX_AGENT_BYTES
