-- Printing and reading again.
use Rattle.std.specs.Prelude.{ℕ, List, ◌≤◌, length}
use Rattle.iris_xpath.specs.declared.expression.NameTest.{NameTest}
use Rattle.iris_xpath.specs.Syntax.{Syntax}
use Rattle.iris_xpath.specs.Trees.{named}
use Rattle.iris_xpath.specs.Spells.{Reads}
use Rattle.iris_xpath.specs.Printed.{printed}
use Rattle.iris_xpath.specs.Told.{Found}
use Rattle.iris_base.specs.declared.limits.TheConstants.{MAX_QUERY_BYTES}

-- the reader may give the query, for some text
abbrev pub IsRead : (List ℕ → NameTest) → Syntax → Type 0
IsRead n q = (text : List ℕ) × Found n text q

-- with the kinds with which the query was read, its printed form is a spelling of it, and one that the reader
-- takes, where it is not too long
abbrev pub ReadsAgain : Syntax → Type 0
ReadsAgain q = (kinds : List (List ℕ)) → IsRead (named kinds) q → Reads (named kinds) (printed q) q × (length (printed q) ≤ MAX_QUERY_BYTES → Found (named kinds) (printed q) q)
