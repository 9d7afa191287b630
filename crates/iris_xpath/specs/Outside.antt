-- Which part of XPath 1.0 stands where no query goes on.
use Rattle.std.specs.Prelude.{ℕ, Bool, true, false, not, ◌&&◌, ◌||◌, ◌==◌, if◌then◌else◌, List, [], ◌∷◌, Option, Some, None, is_some, codes, take, drop, length}
use Rattle.std.specs.Str.{bytes_eq}
use Rattle.iris_xpath.specs.declared.expression.Separator.TheVariants.{Slash, DoubleSlash}
use Rattle.iris_xpath.specs.declared.expression.NameTest.{NameTest}
use Rattle.iris_xpath.specs.declared.expression.NameTest.TheVariants.{Any, Kind, Tag}
use Rattle.iris_xpath.specs.declared.expression.Step.{Step}
use Rattle.iris_xpath.specs.declared.expression.Operand.TheVariants as operands
use Rattle.iris_xpath.specs.declared.expression.Expression.{Expression}
use Rattle.iris_xpath.specs.declared.error.OutsidePart.{OutsidePart}
use Rattle.iris_xpath.specs.declared.error.OutsidePart.TheVariants as whats
use Rattle.iris_xpath.specs.declared.state.Side.{Side}
use Rattle.iris_xpath.specs.declared.state.Spot.{Spot}
use Rattle.iris_xpath.specs.declared.state.Spot.TheVariants as spots
use Rattle.iris_xpath.specs.declared.state.Link.TheVariants as links
use Rattle.iris_xpath.specs.declared.state.State.{State}
use Rattle.iris_xpath.specs.declared.state.State.TheVariants as states
use Rattle.iris_xpath.specs.declared.outside.Ending.{Ending}
use Rattle.iris_xpath.specs.declared.outside.Ending.TheVariants as endings
use Rattle.iris_xpath.specs.declared.outside.Last.{Last}
use Rattle.iris_xpath.specs.declared.outside.Last.TheVariants as lasts
use Rattle.iris_xpath.specs.Bytes.{is_digit, is_word_byte}
use Rattle.iris_xpath.specs.Trees.{is_none}

-- ---- what was read last

-- whether a step with this test and these predicates is a word alone
abbrev pub is_word_in : NameTest → List Expression → Bool
is_word_in Any es = false
is_word_in (Kind kind) es = is_none es
is_word_in (Tag tag) es = is_none es

-- whether a step is a word alone
abbrev pub is_word : Step Expression → Bool
is_word s = is_word_in s.test s.predicates

-- an operand with that ending stands before
abbrev pub after_operand : Ending → Side → Last
after_operand ending side = lasts.Operand ending (is_some side.compared)

-- a step of the main path or of a predicate stands before
abbrev pub after_step : Bool → Spot → Last
after_step word (spots.Main ss) = lasts.MainStep word
after_step word (spots.Part ps side) = after_operand (if word then endings.Word else endings.Other) side

-- what was read last, in a state of the reader
abbrev pub last_of : State → Last
last_of states.Start = lasts.Other
last_of (states.Slash (spots.Main ss)) = lasts.MainSeparator
last_of (states.Slash (spots.Part ps side)) = lasts.Other
last_of (states.Separated sep (spots.Main ss)) = lasts.MainSeparator
last_of (states.Separated Slash (spots.Part ps side)) = lasts.Other
last_of (states.Separated DoubleSlash (spots.Part ps side)) = lasts.PartDoubleSlash
last_of (states.InWord sep word spot) = after_step true spot
last_of (states.AfterStep step spot) = after_step (is_word step) spot
last_of (states.Unit level) = lasts.UnitBegins
last_of (states.Dot ps side) = after_operand endings.Other side
last_of (states.AfterDots ps side) = after_operand endings.Other side
last_of (states.AtSign sep ps side) = lasts.AtSign
last_of (states.InAttribute sep word ps side) = after_operand endings.Attribute side
last_of (states.AfterOperand (operands.Path path) side) = after_operand endings.Attribute side
last_of (states.AfterOperand (operands.Literal text) side) = after_operand endings.Literal side
last_of (states.AfterOperand (operands.Number value) side) = after_operand endings.Number side
last_of (states.InLiteral q side) = lasts.Other
last_of (states.Minus side) = lasts.Minus
last_of (states.InDigits negative digits side) = after_operand endings.Digit side
last_of (states.Bang left level) = lasts.Other
last_of (states.Sign compared level) = lasts.RightBegins
last_of (states.Right side) = lasts.RightBegins
last_of (states.AfterGroup e level) = lasts.Group
last_of (states.Link links.And e level) = lasts.UnitBegins
last_of (states.Link links.Or e level) = lasts.UnitBegins
last_of (states.Link links.A e level) = lasts.Other
last_of (states.Link links.An e level) = lasts.Other
last_of (states.Link links.O e level) = lasts.Other

-- ---- the parts of XPath 1.0 that are outside the language

-- an operand that ends in a word
abbrev pub is_word_ending : Ending → Bool
is_word_ending endings.Word = true
is_word_ending endings.Attribute = true
is_word_ending endings.Digit = false
is_word_ending endings.Number = false
is_word_ending endings.Literal = false
is_word_ending endings.Other = false

-- an operand that ends in a digit
abbrev pub is_digit_ending : Ending → Bool
is_digit_ending endings.Word = false
is_digit_ending endings.Attribute = false
is_digit_ending endings.Digit = true
is_digit_ending endings.Number = false
is_digit_ending endings.Literal = false
is_digit_ending endings.Other = false

-- an operand that is a number
abbrev pub is_number_ending : Ending → Bool
is_number_ending endings.Word = false
is_number_ending endings.Attribute = false
is_number_ending endings.Digit = true
is_number_ending endings.Number = true
is_number_ending endings.Literal = false
is_number_ending endings.Other = false

-- an operand that is a literal
abbrev pub is_literal_ending : Ending → Bool
is_literal_ending endings.Word = false
is_literal_ending endings.Attribute = false
is_literal_ending endings.Digit = false
is_literal_ending endings.Number = false
is_literal_ending endings.Literal = true
is_literal_ending endings.Other = false

-- whether a word stands before
abbrev pub after_word : Last → Bool
after_word (lasts.MainStep word) = word
after_word (lasts.Operand ending right) = is_word_ending ending
after_word lasts.Group = false
after_word lasts.MainSeparator = false
after_word lasts.PartDoubleSlash = false
after_word lasts.UnitBegins = false
after_word lasts.RightBegins = false
after_word lasts.AtSign = false
after_word lasts.Minus = false
after_word lasts.Other = false

-- no byte follows that may stand in a word
abbrev pub ends_word : List ℕ → Bool
ends_word [] = true
ends_word (b ∷ bs) = not (is_word_byte b)

-- the word stands at the front, and ends
abbrev pub is_whole_word : List ℕ → List ℕ → Bool
is_whole_word word rest = bytes_eq (take (length word) rest) word && ends_word (drop (length word) rest)

-- `=` stands at the front
abbrev pub is_equals : List ℕ → Bool
is_equals [] = false
is_equals (b ∷ bs) = b == 61

-- `=`, `!=`, `<` or `>` stands at the front
abbrev pub is_sign : List ℕ → Bool
is_sign [] = false
is_sign (b ∷ bs) = (b == 61) || (b == 60) || (b == 62) || ((b == 33) && is_equals bs)

-- `]`, `)`, `and` or `or` stands at the front
abbrev pub closes : ℕ → List ℕ → Bool
closes b rest = (b == 93) || (b == 41) || is_whole_word (codes "and") rest || is_whole_word (codes "or") rest

-- the byte is `.`
abbrev pub is_point : Option ℕ → Bool
is_point None = false
is_point (Some b) = b == 46

-- a digit stands before
abbrev pub ends_in_digit : Last → Bool
ends_in_digit (lasts.MainStep word) = false
ends_in_digit (lasts.Operand ending right) = is_digit_ending ending
ends_in_digit lasts.Group = false
ends_in_digit lasts.MainSeparator = false
ends_in_digit lasts.PartDoubleSlash = false
ends_in_digit lasts.UnitBegins = false
ends_in_digit lasts.RightBegins = false
ends_in_digit lasts.AtSign = false
ends_in_digit lasts.Minus = false
ends_in_digit lasts.Other = false

-- `.` right after a digit, or a digit right after `.`
abbrev pub is_decimal : Last → Option ℕ → ℕ → Bool
is_decimal last before b = if b == 46 then ends_in_digit last else is_digit b && is_point before

-- `+`, `-`, `*`, `div` or `mod` after an operand, or anything after `-`
abbrev pub is_arithmetic : Last → ℕ → List ℕ → Bool
is_arithmetic (lasts.Operand ending right) b rest = (b == 43) || (b == 45) || (b == 42) || is_whole_word (codes "div") rest || is_whole_word (codes "mod") rest
is_arithmetic lasts.Minus b rest = true
is_arithmetic (lasts.MainStep word) b rest = false
is_arithmetic lasts.Group b rest = false
is_arithmetic lasts.MainSeparator b rest = false
is_arithmetic lasts.PartDoubleSlash b rest = false
is_arithmetic lasts.UnitBegins b rest = false
is_arithmetic lasts.RightBegins b rest = false
is_arithmetic lasts.AtSign b rest = false
is_arithmetic lasts.Other b rest = false

-- a sign of comparison after a truth value, or `(` after a sign
abbrev pub is_truth_value : Last → ℕ → List ℕ → Bool
is_truth_value lasts.Group b rest = is_sign rest
is_truth_value (lasts.Operand ending right) b rest = right && is_sign rest
is_truth_value lasts.RightBegins b rest = b == 40
is_truth_value (lasts.MainStep word) b rest = false
is_truth_value lasts.MainSeparator b rest = false
is_truth_value lasts.PartDoubleSlash b rest = false
is_truth_value lasts.UnitBegins b rest = false
is_truth_value lasts.AtSign b rest = false
is_truth_value lasts.Minus b rest = false
is_truth_value lasts.Other b rest = false

-- a number stands before that is no side of a comparison yet
abbrev pub is_lone_number : Last → Bool
is_lone_number (lasts.Operand ending right) = not right && is_number_ending ending
is_lone_number (lasts.MainStep word) = false
is_lone_number lasts.Group = false
is_lone_number lasts.MainSeparator = false
is_lone_number lasts.PartDoubleSlash = false
is_lone_number lasts.UnitBegins = false
is_lone_number lasts.RightBegins = false
is_lone_number lasts.AtSign = false
is_lone_number lasts.Minus = false
is_lone_number lasts.Other = false

-- a literal stands before that is no side of a comparison yet
abbrev pub is_lone_literal : Last → Bool
is_lone_literal (lasts.Operand ending right) = not right && is_literal_ending ending
is_lone_literal (lasts.MainStep word) = false
is_lone_literal lasts.Group = false
is_lone_literal lasts.MainSeparator = false
is_lone_literal lasts.PartDoubleSlash = false
is_lone_literal lasts.UnitBegins = false
is_lone_literal lasts.RightBegins = false
is_lone_literal lasts.AtSign = false
is_lone_literal lasts.Minus = false
is_lone_literal lasts.Other = false

-- `[` or `/` after an attribute
abbrev pub attribute_ends : Ending → ℕ → Option OutsidePart
attribute_ends endings.Attribute b = if (b == 91) || (b == 47) then Some whats.Attribute else None
attribute_ends endings.Word b = None
attribute_ends endings.Digit b = None
attribute_ends endings.Number b = None
attribute_ends endings.Literal b = None
attribute_ends endings.Other b = None

-- the last rows: what may not begin
abbrev pub what_begins : Last → ℕ → Option OutsidePart
what_begins lasts.UnitBegins b = if b == 47 then Some whats.Absolute else None
what_begins lasts.RightBegins b = if b == 47 then Some whats.Absolute else None
what_begins lasts.MainSeparator b = if (b == 46) || (b == 64) then Some whats.MainPath else None
what_begins lasts.PartDoubleSlash b = if b == 46 then Some whats.Dots else None
what_begins lasts.AtSign b = if b == 42 then Some whats.Attribute else None
what_begins (lasts.Operand ending right) b = attribute_ends ending b
what_begins (lasts.MainStep word) b = None
what_begins lasts.Group b = None
what_begins lasts.Minus b = None
what_begins lasts.Other b = None

-- the first row that fits, after what stands before and after a byte, at the front of the rest
abbrev pub what_at : Last → Option ℕ → List ℕ → Option OutsidePart
what_at last before [] = None
what_at last before (b ∷ bs) =
    if b == 124 then Some whats.Union
    else (if b == 36 then Some whats.Variable
    else (if is_decimal last before b then Some whats.Decimal
    else (if is_arithmetic last b (b ∷ bs) then Some whats.Arithmetic
    else (if (b == 58) && after_word last then Some whats.Axis
    else (if is_truth_value last b (b ∷ bs) then Some whats.TruthValue
    else (if (b == 40) && after_word last then Some whats.Function
    else (if is_lone_number last && closes b (b ∷ bs) then Some whats.Position
    else (if is_lone_literal last && closes b (b ∷ bs) then Some whats.Literal
    else what_begins last b))))))))
