-- What of a query the limits count.
use Rattle.std.specs.Prelude.{ℕ, Bool, true, false, ◌||◌, ◌+◌, ◌-◌, ◌^◌, nat_lt, if◌then◌else◌, length, List, [], ◌∷◌, map, Option, Some, None}
use Rattle.std.specs.Prelude.{max, min}
use Rattle.std.specs.Ordering.{int_eq}
use Rattle.std.specs.List.{list_any}
use Rattle.iris_xpath.specs.declared.expression.Separator.{Separator}
use Rattle.iris_xpath.specs.declared.expression.Separator.TheVariants.{Slash, DoubleSlash}
use Rattle.iris_xpath.specs.declared.expression.NameTest.{NameTest}
use Rattle.iris_xpath.specs.declared.expression.NameTest.TheVariants.{Any, Kind, Tag}
use Rattle.iris_xpath.specs.declared.expression.Step.{Step}
use Rattle.iris_xpath.specs.declared.expression.Part.{Part}
use Rattle.iris_xpath.specs.declared.expression.Part.TheVariants as parts
use Rattle.iris_xpath.specs.declared.expression.Path.{Path}
use Rattle.iris_xpath.specs.declared.expression.Attribute.{Attribute}
use Rattle.iris_xpath.specs.declared.expression.Operand.{Operand}
use Rattle.iris_xpath.specs.declared.expression.Operand.TheVariants as operands
use Rattle.iris_xpath.specs.declared.expression.Expression.{Expression}
use Rattle.iris_xpath.specs.declared.expression.Expression.TheOpen.{Expression-F}
use Rattle.iris_xpath.specs.declared.expression.Expression.TheFolds.{fold-Expression}
use Rattle.iris_xpath.specs.Syntax.{Syntax}
use Rattle.iris_base.specs.declared.limits.TheConstants.{MAX_STEPS, MAX_PATH_PARTS, MAX_OPERANDS, MAX_PARENTHESES, MAX_NESTING}
use Rattle.iris_xpath.specs.declared.tally.Tally.{Tally}
use Rattle.iris_xpath.specs.declared.operands.TheConstants.{TOO_LONG}
use Rattle.iris_xpath.specs.declared.error.QueryLimit.{QueryLimit}
use Rattle.iris_xpath.specs.declared.error.QueryLimit.TheVariants as which

-- nothing is counted
abbrev pub nothing : Tally
nothing = record { is_long = false; path = 0; operands = 0; depth = 0 }

-- what is counted of two together
abbrev pub both : Tally → Tally → Tally
both a b = record { is_long = a.is_long || b.is_long; path = max a.path b.path; operands = a.operands + b.operands; depth = max a.depth b.depth }

-- what is counted of a list, and before it
abbrev pub joined : Tally → List Tally → Tally
joined t [] = t
joined t (x ∷ xs) = joined (both t x) xs

-- a literal or a number is an operand
abbrev pub operand_of : Bool → Tally
operand_of long = record { is_long = long; path = 0; operands = 1; depth = 0 }

-- a path of that many parts is an operand, one deeper than what is in it where it is counted
abbrev pub path_of : Tally → ℕ → Bool → Tally
path_of t len counted = record { is_long = t.is_long; path = max t.path len; operands = t.operands + 1; depth = if counted then t.depth + 1 else t.depth }

-- the number of parts of a path, its attribute counted
abbrev pub path_len : {X : Type 0} → List X → Option Attribute → ℕ
path_len ps None = length ps
path_len ps (Some a) = length ps + 1

-- whether a separator is `//`
abbrev pub is_double : Separator → Bool
is_double Slash = false
is_double DoubleSlash = true

-- whether a test is `*` or a kind
abbrev pub is_wide : NameTest → Bool
is_wide Any = true
is_wide (Kind kind) = true
is_wide (Tag tag) = false

-- whether a part has a kind, `*`, `..` or `//`
abbrev pub goes_far : {X : Type 0} → Part X → Bool
goes_far parts.Itself = false
goes_far parts.Parent = true
goes_far (parts.Step s) = is_double s.separator || is_wide s.test

-- whether the attribute follows `//`
abbrev pub is_deep : Option Attribute → Bool
is_deep None = false
is_deep (Some a) = is_double a.separator

-- a path with a kind test, `*`, `..` or `//`
abbrev pub is_counted : {X : Type 0} → List (Part X) → Option Attribute → Bool
is_counted ps a = is_deep a || list_any goes_far ps

-- what is counted of a part
abbrev pub part_of : Part Tally → Tally
part_of parts.Itself = nothing
part_of parts.Parent = nothing
part_of (parts.Step s) = joined nothing s.predicates

-- what is counted of a path
abbrev pub path_tally : Path Tally → Tally
path_tally p = path_of (joined nothing (map part_of p.parts)) (path_len p.parts p.attribute) (is_counted p.parts p.attribute)

-- what is counted of a side of a comparison
abbrev pub operand_tally : Operand Tally → Tally
operand_tally (operands.Path p) = path_tally p
operand_tally (operands.Literal t) = operand_of false
operand_tally (operands.Number v) = operand_of (int_eq v TOO_LONG)

-- what is counted of an expression, by what is of its parts
abbrev pub tally_step : Expression-F Tally → Tally
tally_step (Expression-F.Or ts) = joined nothing ts
tally_step (Expression-F.And ts) = joined nothing ts
tally_step (Expression-F.Not t) = t
tally_step (Expression-F.Path p) = path_tally p
tally_step (Expression-F.Compare l c r) = both (operand_tally l) (operand_tally r)

-- what is counted of an expression
abbrev pub tally_of : Expression → Tally
tally_of = fold-Expression Tally tally_step

-- what is counted of predicates
abbrev pub tally_all : List Expression → Tally
tally_all es = joined nothing (map tally_of es)

-- what is counted of a part, with its predicates
abbrev pub tally_part : Part Expression → Tally
tally_part parts.Itself = nothing
tally_part parts.Parent = nothing
tally_part (parts.Step s) = tally_all s.predicates

-- what is counted of a path, with its predicates
abbrev pub tally_path : Path Expression → Tally
tally_path p = path_of (joined nothing (map tally_part p.parts)) (path_len p.parts p.attribute) (is_counted p.parts p.attribute)

-- what is counted of a side of a comparison, with its predicates
abbrev pub tally_operand : Operand Expression → Tally
tally_operand (operands.Path p) = tally_path p
tally_operand (operands.Literal t) = operand_of false
tally_operand (operands.Number v) = operand_of (int_eq v TOO_LONG)

-- what is counted of the predicates of all steps
abbrev pub main_tally : Syntax → Tally
main_tally q = joined nothing (map (λ (s : Step Expression). tally_all s.predicates) q)

-- the first of the limits before that of parentheses that is passed
abbrev pub excess : Syntax → Option QueryLimit
excess q =
    if (main_tally q).is_long then Some which.Digits
    else (if nat_lt MAX_STEPS (length q) then Some which.Steps
    else (if nat_lt MAX_PATH_PARTS (main_tally q).path then Some which.Path
    else (if nat_lt MAX_OPERANDS (main_tally q).operands then Some which.Operands else None)))

-- the first limit that is passed, of those behind that of the bytes, where parentheses are nested so deep
abbrev pub limit_behind : Option QueryLimit → Syntax → ℕ → Option QueryLimit
limit_behind (Some w) q parens = Some w
limit_behind None q parens = if nat_lt MAX_PARENTHESES parens then Some which.Parens else (if nat_lt MAX_NESTING (main_tally q).depth then Some which.Depth else None)

-- the first limit that is passed, of those behind that of the bytes
abbrev pub limit_of : Syntax → ℕ → Option QueryLimit
limit_of q parens = limit_behind (excess q) q parens

-- the nesting depth: the greatest number of counted paths, one inside another
abbrev pub depth_of : Syntax → ℕ
depth_of q = (main_tally q).depth

-- ---- for the code: counts stay at the greatest number that it has

-- the greatest number of the code
abbrev pub most : ℕ
most = 2 ^ 64 - 1

-- the same, each count at most that number
abbrev pub capped : Tally → Tally
capped t = record { is_long = t.is_long; path = min t.path most; operands = min t.operands most; depth = min t.depth most }
