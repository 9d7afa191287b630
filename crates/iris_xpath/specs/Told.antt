-- What the reader's answers say.
use Rattle.std.specs.Prelude.{◌≡◌, ◌≤◌, ◌<◌, ℕ, List, length, Some, None, Result, Ok, Err}
use Rattle.iris_xpath.specs.declared.expression.NameTest.{NameTest}
use Rattle.iris_xpath.specs.Syntax.{Syntax}
use Rattle.iris_xpath.specs.declared.error.QueryError.{QueryError}
use Rattle.iris_xpath.specs.declared.error.QueryError.TheVariants as errors
use Rattle.iris_xpath.specs.declared.error.QueryLimit.{QueryLimit}
use Rattle.iris_xpath.specs.declared.error.QueryLimit.TheVariants as which
use Rattle.iris_xpath.specs.Grammar.{Main}
use Rattle.iris_xpath.specs.Spells.{Spells}
use Rattle.iris_xpath.specs.Parens.{parens_of}
use Rattle.iris_xpath.specs.Tally.{limit_of}
use Rattle.iris_xpath.specs.Refused.{Refused}
use Rattle.iris_xpath.specs.Trees.{named}
use Rattle.iris_base.specs.declared.limits.TheConstants.{MAX_QUERY_BYTES}

-- the text is a spelling of the query, and keeps the limits
abbrev pub Found : (List ℕ → NameTest) → List ℕ → Syntax → Type 0
Found n text q = (length text ≤ MAX_QUERY_BYTES) × ((m : Main) × Spells n text q m × (limit_of q (parens_of m) ≡ None))

-- for some kinds, some text is a spelling of the query and keeps the limits
pub record IsQuery (q : Syntax) : Type 0 where
  pub kinds : List (List ℕ)
  pub text : List ℕ
  pub found : Found (named kinds) text q

-- the limit is the first that is passed
abbrev pub Passes : (List ℕ → NameTest) → List ℕ → QueryLimit → Type 0
Passes n text w = (q : Syntax) × ((m : Main) × Spells n text q m × (limit_of q (parens_of m) ≡ Some w))

-- the limit is passed, and none before it
abbrev pub Passed : (List ℕ → NameTest) → List ℕ → QueryLimit → Type 0
Passed n text which.Bytes = MAX_QUERY_BYTES < length text
Passed n text which.Digits = Passes n text which.Digits
Passed n text which.Steps = Passes n text which.Steps
Passed n text which.Path = Passes n text which.Path
Passed n text which.Operands = Passes n text which.Operands
Passed n text which.Parens = Passes n text which.Parens
Passed n text which.Depth = Passes n text which.Depth

-- why a text is no query
abbrev pub Told : (List ℕ → NameTest) → List ℕ → QueryError → Type 0
Told n text (errors.Syntax p) = Refused n text (errors.Syntax p)
Told n text (errors.Outside p what) = Refused n text (errors.Outside p what)
Told n text (errors.TooLarge w) = Passed n text w
Told n text errors.Memory = Unit {0}

-- that query is given, or there is no memory
abbrev pub Gives : Syntax → Result Syntax QueryError → Type 0
Gives q (Ok v) = v ≡ q
Gives q (Err (errors.Syntax p)) = ⊥
Gives q (Err (errors.Outside p what)) = ⊥
Gives q (Err (errors.TooLarge w)) = ⊥
Gives q (Err errors.Memory) = Unit {0}
