-- Parts of syntax trees.
use Rattle.std.specs.Prelude.{ℕ, ℤ, pos, neg_ℤ, Bool, true, false, ◌&&◌, ◌||◌, nat_le, ◌+◌, ◌-◌, ◌*◌, if◌then◌else◌, length, List, [], ◌∷◌, ◌++◌, Some, None, codes}
use Rattle.std.specs.Str.{bytes_eq}
use Rattle.iris_base.specs.declared.limits.TheConstants.{MAX_DIGITS}
use Rattle.iris_xpath.specs.declared.operands.TheConstants.{TOO_LONG}
use Rattle.iris_xpath.specs.Bytes.{is_digit}
use Rattle.iris_xpath.specs.declared.expression.Separator.{Separator}
use Rattle.iris_xpath.specs.declared.expression.NameTest.{NameTest}
use Rattle.iris_xpath.specs.declared.expression.NameTest.TheVariants.{Any, Kind, Tag}
use Rattle.iris_xpath.specs.declared.expression.Step.{Step}
use Rattle.iris_xpath.specs.declared.expression.Part.{Part}
use Rattle.iris_xpath.specs.declared.expression.Path.{Path}
use Rattle.iris_xpath.specs.declared.expression.Comparison.{Comparison}
use Rattle.iris_xpath.specs.declared.expression.Comparison.TheVariants.{Equal, NotEqual, Less, LessOrEqual, Greater, GreaterOrEqual}
use Rattle.iris_xpath.specs.declared.expression.Operand.{Operand}
use Rattle.iris_xpath.specs.declared.expression.Operand.TheVariants as operands
use Rattle.iris_xpath.specs.declared.expression.Expression.{Expression}
use Rattle.iris_xpath.specs.declared.expression.Expression.TheOpen.{Expression-F}
use Rattle.iris_xpath.specs.declared.expression.Expression.TheViews.{out-Expression, roll-Expression}

-- a step with no predicate
abbrev pub step_of : Separator → NameTest → Step Expression
step_of sep test = record { separator = sep; test = test; predicates = [] }

-- a step with one predicate more
abbrev pub with_predicate : Step Expression → Expression → Step Expression
with_predicate s e = record { separator = s.separator; test = s.test; predicates = s.predicates ++ e ∷ [] }

-- whether a word is one of the kinds
abbrev pub has : List (List ℕ) → List ℕ → Bool
has [] word = false
has (kind ∷ kinds) word = bytes_eq kind word || has kinds word

-- what a word tests: a kind, or else a tag
abbrev pub named : List (List ℕ) → List ℕ → NameTest
named kinds word = if has kinds word then Kind word else Tag word

-- whether a test is of that name
abbrev pub is_name : List ℕ → NameTest → Bool
is_name name Any = false
is_name name (Kind kind) = bytes_eq kind name
is_name name (Tag tag) = bytes_eq tag name

-- whether there is no expression
abbrev pub is_none : List Expression → Bool
is_none [] = true
is_none (e ∷ es) = false

-- whether a step is the word `not` alone
abbrev pub is_not : Step Expression → Bool
is_not s = is_name (codes "not") s.test && is_none s.predicates

-- an expression, or its `not`
abbrev pub negated_if : Bool → Expression → Expression
negated_if false e = e
negated_if true e = roll-Expression (Expression-F.Not e)

-- a path alone
abbrev pub exists_of : Path Expression → Expression
exists_of path = roll-Expression (Expression-F.Path path)

-- a comparison
abbrev pub compare_of : Operand Expression → Comparison → Operand Expression → Expression
compare_of left c right = roll-Expression (Expression-F.Compare left c right)

-- a path with no attribute, as an operand
abbrev pub path_of : List (Part Expression) → Operand Expression
path_of ps = operands.Path (record { parts = ps; attribute = None })

-- a path that ends in an attribute, as an operand
abbrev pub attribute_of : Separator → List ℕ → List (Part Expression) → Operand Expression
attribute_of sep name ps = operands.Path (record { parts = ps; attribute = Some (record { separator = sep; name = name }) })

-- the sign with `=` behind it
abbrev pub or_equal : Comparison → Comparison
or_equal Equal = Equal
or_equal NotEqual = NotEqual
or_equal Less = LessOrEqual
or_equal LessOrEqual = LessOrEqual
or_equal Greater = GreaterOrEqual
or_equal GreaterOrEqual = GreaterOrEqual

-- ---- an `and` in an `and`, or an `or` in an `or`, gives its parts

-- the parts of an `and`; any other expression is its only part
abbrev pub and_parts : Expression → Expression-F Expression → List Expression
and_parts e (Expression-F.And es) = es
and_parts e (Expression-F.Or es) = e ∷ []
and_parts e (Expression-F.Not i) = e ∷ []
and_parts e (Expression-F.Path path) = e ∷ []
and_parts e (Expression-F.Compare left c right) = e ∷ []

-- the parts of an `or`; any other expression is its only part
abbrev pub or_parts : Expression → Expression-F Expression → List Expression
or_parts e (Expression-F.Or es) = es
or_parts e (Expression-F.And es) = e ∷ []
or_parts e (Expression-F.Not i) = e ∷ []
or_parts e (Expression-F.Path path) = e ∷ []
or_parts e (Expression-F.Compare left c right) = e ∷ []

-- the parts of an `and` with one expression more
abbrev pub add_and : List Expression → Expression → List Expression
add_and es e = es ++ and_parts e (out-Expression e)

-- the parts of an `or` with one expression more
abbrev pub add_or : List Expression → Expression → List Expression
add_or es e = es ++ or_parts e (out-Expression e)

-- the `and` of some expressions and one more
abbrev pub joined_and : List Expression → Expression → Expression
joined_and [] e = e
joined_and (x ∷ xs) e = roll-Expression (Expression-F.And (add_and (x ∷ xs) e))

-- the `or` of some expressions and one more
abbrev pub joined_or : List Expression → Expression → Expression
joined_or [] e = e
joined_or (x ∷ xs) e = roll-Expression (Expression-F.Or (add_or (x ∷ xs) e))

-- ---- numbers

-- a number, or its negative
abbrev pub signed : Bool → ℕ → ℤ
signed false n = pos n
signed true n = neg_ℤ (pos n)

-- the value of a digit
abbrev pub digit_of : ℕ → ℕ
digit_of b = if is_digit b then b - 48 else 0

-- the number that is written before digits and by them
abbrev pub value_after : ℕ → List ℕ → ℕ
value_after v [] = v
value_after v (b ∷ bs) = value_after (v * 10 + digit_of b) bs

-- the number that digits write
abbrev pub value_of : List ℕ → ℕ
value_of digits = value_after 0 digits

-- the number of these digits, or the mark where they are too many
abbrev pub number_of : Bool → List ℕ → ℤ
number_of negative digits = if nat_le (length digits) MAX_DIGITS then signed negative (value_of digits) else TOO_LONG
