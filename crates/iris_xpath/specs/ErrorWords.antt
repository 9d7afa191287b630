-- The words for what is outside the query language, and for its limits.
use Rattle.std.specs.Prelude.{ℕ, List, codes}
use Rattle.iris_xpath.specs.declared.error.OutsidePart.{OutsidePart}
use Rattle.iris_xpath.specs.declared.error.OutsidePart.TheVariants as parts
use Rattle.iris_xpath.specs.declared.error.QueryLimit.{QueryLimit}
use Rattle.iris_xpath.specs.declared.error.QueryLimit.TheVariants as limits

-- the word for a part of XPath 1.0 that is outside the language
abbrev pub part_word : OutsidePart → List ℕ
part_word parts.Union = codes "union"
part_word parts.Variable = codes "variable"
part_word parts.Decimal = codes "decimal"
part_word parts.Arithmetic = codes "arithmetic"
part_word parts.Axis = codes "axis"
part_word parts.TruthValue = codes "truth value"
part_word parts.Function = codes "function"
part_word parts.Position = codes "position"
part_word parts.Literal = codes "literal"
part_word parts.Absolute = codes "absolute"
part_word parts.MainPath = codes "main path"
part_word parts.Dots = codes "dots"
part_word parts.Attribute = codes "attribute"

-- the word for a limit of queries
abbrev pub limit_word : QueryLimit → List ℕ
limit_word limits.Bytes = codes "bytes"
limit_word limits.Digits = codes "digits"
limit_word limits.Steps = codes "steps"
limit_word limits.Path = codes "path"
limit_word limits.Operands = codes "operands"
limit_word limits.Parens = codes "parens"
limit_word limits.Depth = codes "depth"
