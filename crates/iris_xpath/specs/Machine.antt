-- A machine over bytes. Its states hold the syntax trees of what was read.
use Rattle.std.specs.Prelude.{◌≡◌, ℕ, Bool, true, false, ◌==◌, if◌then◌else◌, List, [], ◌∷◌, ◌++◌, Option, Some, None, option_map, option_and_then}
use Rattle.iris_xpath.specs.declared.expression.Separator.{Separator}
use Rattle.iris_xpath.specs.declared.expression.Separator.TheVariants.{Slash, DoubleSlash}
use Rattle.iris_xpath.specs.declared.expression.NameTest.{NameTest}
use Rattle.iris_xpath.specs.declared.expression.NameTest.TheVariants.{Any}
use Rattle.iris_xpath.specs.declared.expression.Step.{Step}
use Rattle.iris_xpath.specs.declared.expression.Part.{Part}
use Rattle.iris_xpath.specs.declared.expression.Part.TheVariants as parts
use Rattle.iris_xpath.specs.declared.expression.Comparison.{Comparison}
use Rattle.iris_xpath.specs.declared.expression.Comparison.TheVariants.{Equal, NotEqual, Less, Greater}
use Rattle.iris_xpath.specs.declared.expression.Operand.{Operand}
use Rattle.iris_xpath.specs.declared.expression.Operand.TheVariants as operands
use Rattle.iris_xpath.specs.declared.expression.Expression.{Expression}
use Rattle.iris_xpath.specs.declared.state.Level.{Level}
use Rattle.iris_xpath.specs.declared.state.Compared.{Compared}
use Rattle.iris_xpath.specs.declared.state.Side.{Side}
use Rattle.iris_xpath.specs.declared.state.Spot.{Spot}
use Rattle.iris_xpath.specs.declared.state.Spot.TheVariants as spots
use Rattle.iris_xpath.specs.declared.state.Frame.{Frame}
use Rattle.iris_xpath.specs.declared.state.Frame.TheVariants as frames
use Rattle.iris_xpath.specs.declared.state.Link.{Link}
use Rattle.iris_xpath.specs.declared.state.Link.TheVariants as links
use Rattle.iris_xpath.specs.declared.state.State.{State}
use Rattle.iris_xpath.specs.declared.state.State.TheVariants as states
use Rattle.iris_xpath.specs.Bytes.{is_letter, is_digit, is_word_byte, is_blank, is_quote}
use Rattle.iris_xpath.specs.Trees.{step_of, is_not, with_predicate, negated_if, joined_and, joined_or, add_and, add_or, attribute_of, number_of, or_equal, path_of, compare_of, exists_of}

-- a state below what is open, or the inside of a literal after its first bytes
pub data Configuration : Type 0 where
  at : State → List Frame → Configuration
  inside : ℕ → List ℕ → Side → List Frame → Configuration

-- the configuration of a state, where there is one, with so much open
abbrev pub below : List Frame → Option State → Option Configuration
below fs p = option_map (λ state. at state fs) p

-- ---- separators and steps

-- the text begins with blanks and a `/`
abbrev pub begin_text : ℕ → Option State
begin_text b = if is_blank b then Some states.Start else (if b == 47 then Some (states.Slash (spots.Main [])) else None)

-- a step begins with a word or `*`
abbrev pub begin_step : Separator → Spot → ℕ → Option State
begin_step sep spot b =
    if is_letter b then Some (states.InWord sep (b ∷ []) spot)
    else (if b == 42 then Some (states.AfterStep (step_of sep Any) spot) else None)

-- `.` stands behind `/` or first, never behind `//`
abbrev pub begin_dots : Separator → List (Part Expression) → Side → Option State
begin_dots Slash ps side = Some (states.Dot ps side)
begin_dots DoubleSlash ps side = None

-- a part begins with `@`, `.`, a word or `*`
abbrev pub begin_part : Separator → List (Part Expression) → Side → ℕ → Option State
begin_part sep ps side b =
    if b == 64 then Some (states.AtSign sep ps side)
    else (if b == 46 then begin_dots sep ps side else begin_step sep (spots.Part ps side) b)

-- what follows a separator: in the main path a step, in a predicate a part
abbrev pub begin_at : Separator → Spot → ℕ → Option State
begin_at sep (spots.Main ss) b = begin_step sep (spots.Main ss) b
begin_at sep (spots.Part ps side) b = begin_part sep ps side b

-- a whole separator, which blanks may follow
abbrev pub after_separator : Separator → Spot → ℕ → Option State
after_separator sep spot b = if is_blank b then Some (states.Separated sep spot) else begin_at sep spot b

-- one `/`, which a second may follow
abbrev pub after_slash : Spot → ℕ → Option State
after_slash spot b = if b == 47 then Some (states.Separated DoubleSlash spot) else after_separator Slash spot b

-- ---- operands

-- an operand begins with a quote, `-`, a digit, or as a part does
abbrev pub begin_operand : Side → ℕ → Option State
begin_operand side b =
    if is_quote b then Some (states.InLiteral b side)
    else (if b == 45 then Some (states.Minus side)
    else (if is_digit b then Some (states.InDigits false (b ∷ []) side) else begin_part Slash [] side b))

-- `@`, which blanks and a word follow
abbrev pub after_at : Separator → List (Part Expression) → Side → ℕ → Option State
after_at sep ps side b =
    if is_blank b then Some (states.AtSign sep ps side)
    else (if is_letter b then Some (states.InAttribute sep (b ∷ []) ps side) else None)

-- `-`, which blanks and digits follow
abbrev pub after_minus : Side → ℕ → Option State
after_minus side b =
    if is_blank b then Some (states.Minus side)
    else (if is_digit b then Some (states.InDigits true (b ∷ []) side) else None)

-- ---- comparisons

-- the right side of a comparison begins
abbrev pub right_of : Operand Expression → Comparison → Level → State
right_of left c level = states.Right (record { compared = Some (record { left = left; comparison = c }); level = level })

-- a sign to which `=` may still belong
abbrev pub sign_of : Operand Expression → Comparison → Level → State
sign_of left c level = states.Sign (record { left = left; comparison = c }) level

-- `!`, which `=` follows
abbrev pub after_bang : Operand Expression → Level → ℕ → Option State
after_bang left level b = if b == 61 then Some (right_of left NotEqual level) else None

-- the right side of a comparison: blanks and an operand
abbrev pub begin_right : Side → ℕ → Option State
begin_right side b = if is_blank b then Some (states.Right side) else begin_operand side b

-- `<` or `>`, to which `=` may still belong
abbrev pub after_sign : Compared → Level → ℕ → Option State
after_sign c level b =
    if b == 61 then Some (right_of c.left (or_equal c.comparison) level)
    else begin_right (record { compared = Some (record { left = c.left; comparison = c.comparison }); level = level }) b

-- ---- units

-- no unit stands before
abbrev pub no_units : Level
no_units = record { ors = []; ands = [] }

-- a unit more, and `and` after it
abbrev pub after_and : Level → Expression → Level
after_and level unit = record { ors = level.ors; ands = add_and level.ands unit }

-- a unit more, and `or` after it
abbrev pub after_or : Level → Expression → Level
after_or level unit = record { ors = add_or level.ors (joined_and level.ands unit); ands = [] }

-- a unit begins with `(` or as an operand does
abbrev pub begin_unit : Level → List Frame → ℕ → Option Configuration
begin_unit level fs b =
    if b == 40 then Some (at (states.Unit no_units) (frames.Paren false level ∷ fs))
    else below fs (begin_operand (record { compared = None; level = level }) b)

-- blanks and a unit
abbrev pub unit : Level → List Frame → ℕ → Option Configuration
unit level fs b = if is_blank b then Some (at (states.Unit level) fs) else begin_unit level fs b

-- the innermost bracket or parenthesis is closed after an expression
abbrev pub close : Expression → List Frame → ℕ → Option Configuration
close e [] b = None
close e (frames.Bracket step spot ∷ fs) b = if b == 93 then Some (at (states.AfterStep (with_predicate step e) spot) fs) else None
close e (frames.Paren negated level ∷ fs) b = if b == 41 then Some (at (states.AfterGroup (negated_if negated e) level) fs) else None

-- a unit ends at `and`, at `or`, or where the innermost bracket or parenthesis is closed
abbrev pub end_unit : Expression → Level → List Frame → ℕ → Option Configuration
end_unit e level fs b =
    if b == 97 then Some (at (states.Link links.A e level) fs)
    else (if b == 111 then Some (at (states.Link links.O e level) fs)
    else close (joined_or level.ors (joined_and level.ands e)) fs b)

-- what follows a closed parenthesis
abbrev pub after_group : Expression → Level → List Frame → ℕ → Option Configuration
after_group e level fs b = if is_blank b then Some (at (states.AfterGroup e level) fs) else end_unit e level fs b

-- an operand that is no side of a comparison is a path
abbrev pub end_alone : Operand Expression → Level → List Frame → ℕ → Option Configuration
end_alone (operands.Path path) level fs b = end_unit (exists_of path) level fs b
end_alone (operands.Literal text) level fs b = None
end_alone (operands.Number value) level fs b = None

-- what follows an operand that is not the right side of a comparison: a sign, or what ends a unit
abbrev pub end_left : Operand Expression → Level → List Frame → ℕ → Option Configuration
end_left o level fs b =
    if b == 33 then Some (at (states.Bang o level) fs)
    else (if b == 61 then Some (at (right_of o Equal level) fs)
    else (if b == 60 then Some (at (sign_of o Less level) fs)
    else (if b == 62 then Some (at (sign_of o Greater level) fs)
    else end_alone o level fs b)))

-- what follows an operand, after the left side and the sign where it has them
abbrev pub end_side : Operand Expression → Option Compared → Level → List Frame → ℕ → Option Configuration
end_side o None level fs b = end_left o level fs b
end_side o (Some c) level fs b = end_unit (compare_of c.left c.comparison o) level fs b

-- what follows an operand and its blanks
abbrev pub end_operand : Operand Expression → Side → List Frame → ℕ → Option Configuration
end_operand o side fs b = end_side o side.compared side.level fs b

-- what follows an operand
abbrev pub after_operand : Operand Expression → Side → List Frame → ℕ → Option Configuration
after_operand o side fs b = if is_blank b then Some (at (states.AfterOperand o side) fs) else end_operand o side fs b

-- the next letter of `and` or `or`
abbrev pub link_if : Bool → Link → Expression → Level → Option State
link_if holds link e level = if holds then Some (states.Link link e level) else None

-- what follows the letters of `and` or `or`
abbrev pub after_link : Link → Expression → Level → List Frame → ℕ → Option Configuration
after_link links.A e level fs b = below fs (link_if (b == 110) links.An e level)
after_link links.An e level fs b = below fs (link_if (b == 100) links.And e level)
after_link links.O e level fs b = below fs (link_if (b == 114) links.Or e level)
after_link links.And e level fs b = if is_word_byte b then None else unit (after_and level e) fs b
after_link links.Or e level fs b = if is_word_byte b then None else unit (after_or level e) fs b

-- ---- paths

-- what follows the parts of a path: a further separator, or what ends an operand
abbrev pub after_path : List (Part Expression) → Side → List Frame → ℕ → Option Configuration
after_path ps side fs b =
    if b == 47 then Some (at (states.Slash (spots.Part ps side)) fs)
    else end_operand (path_of ps) side fs b

-- what follows `.` or `..`
abbrev pub after_dots : List (Part Expression) → Side → List Frame → ℕ → Option Configuration
after_dots ps side fs b = if is_blank b then Some (at (states.AfterDots ps side) fs) else after_path ps side fs b

-- one `.`, which a second may follow
abbrev pub after_dot : List (Part Expression) → Side → List Frame → ℕ → Option Configuration
after_dot ps side fs b =
    if b == 46 then Some (at (states.AfterDots (ps ++ parts.Parent ∷ []) side) fs)
    else after_dots (ps ++ parts.Itself ∷ []) side fs b

-- a parenthesis after a step is that of `not` or none
abbrev pub not_if : Bool → Option Compared → Level → List Frame → Option Configuration
not_if false c level fs = None
not_if true None level fs = Some (at (states.Unit no_units) (frames.Paren true level ∷ fs))
not_if true (Some c) level fs = None

-- `(` after a step opens `not(` only where the step is `not` alone and begins a unit
abbrev pub open_not : Step Expression → List (Part Expression) → Side → List Frame → Option Configuration
open_not step [] side fs = not_if (is_not step) side.compared side.level fs
open_not step (p ∷ ps) side fs = None

-- what follows a step with no blank and no predicate
abbrev pub follow_step : Step Expression → Spot → List Frame → ℕ → Option Configuration
follow_step step (spots.Main ss) fs b = if b == 47 then Some (at (states.Slash (spots.Main (ss ++ step ∷ []))) fs) else None
follow_step step (spots.Part ps side) fs b =
    if b == 40 then open_not step ps side fs else after_path (ps ++ parts.Step step ∷ []) side fs b

-- what follows a step: blanks, a predicate, or what ends it
abbrev pub after_step : Step Expression → Spot → List Frame → ℕ → Option Configuration
after_step step spot fs b =
    if is_blank b then Some (at (states.AfterStep step spot) fs)
    else (if b == 91 then Some (at (states.Unit no_units) (frames.Bracket step spot ∷ fs))
    else follow_step step spot fs b)

-- ---- the machine, in which a function tells what a word tests

-- the name of an attribute goes on with each byte that may stand in it
abbrev pub in_attribute : Separator → List ℕ → List (Part Expression) → Side → List Frame → ℕ → Option Configuration
in_attribute sep word ps side fs b =
    if is_word_byte b then Some (at (states.InAttribute sep (word ++ b ∷ []) ps side) fs) else after_operand (attribute_of sep word ps) side fs b

-- a number goes on with each digit
abbrev pub in_digits : Bool → List ℕ → Side → List Frame → ℕ → Option Configuration
in_digits negative digits side fs b =
    if is_digit b then Some (at (states.InDigits negative (digits ++ b ∷ []) side) fs) else after_operand (operands.Number (number_of negative digits)) side fs b

-- a literal goes on up to its quote
abbrev pub in_literal : ℕ → List ℕ → Side → List Frame → ℕ → Option Configuration
in_literal q text side fs b = if b == q then Some (at (states.AfterOperand (operands.Literal text) side) fs) else Some (inside q (text ++ b ∷ []) side fs)

-- the configuration after one byte
abbrev pub next : (List ℕ → NameTest) → Configuration → ℕ → Option Configuration
next named (at states.Start fs) b = below fs (begin_text b)
next named (at (states.Slash spot) fs) b = below fs (after_slash spot b)
next named (at (states.Separated sep spot) fs) b = below fs (after_separator sep spot b)
next named (at (states.InWord sep word spot) fs) b =
    if is_word_byte b then Some (at (states.InWord sep (word ++ b ∷ []) spot) fs) else after_step (step_of sep (named word)) spot fs b
next named (at (states.AfterStep step spot) fs) b = after_step step spot fs b
next named (at (states.Unit level) fs) b = unit level fs b
next named (at (states.Dot ps side) fs) b = after_dot ps side fs b
next named (at (states.AfterDots ps side) fs) b = after_dots ps side fs b
next named (at (states.AtSign sep ps side) fs) b = below fs (after_at sep ps side b)
next named (at (states.InAttribute sep word ps side) fs) b = in_attribute sep word ps side fs b
next named (at (states.AfterOperand o side) fs) b = after_operand o side fs b
next named (at (states.InLiteral q side) fs) b = in_literal q [] side fs b
next named (at (states.Minus side) fs) b = below fs (after_minus side b)
next named (at (states.InDigits negative digits side) fs) b = in_digits negative digits side fs b
next named (at (states.Bang left level) fs) b = below fs (after_bang left level b)
next named (at (states.Sign compared level) fs) b = below fs (after_sign compared level b)
next named (at (states.Right side) fs) b = below fs (begin_right side b)
next named (at (states.AfterGroup e level) fs) b = after_group e level fs b
next named (at (states.Link link e level) fs) b = after_link link e level fs b
next named (inside q text side fs) b = in_literal q text side fs b

-- the steps, where the text may end in the state
abbrev pub with_last : Spot → Step Expression → Option (List (Step Expression))
with_last (spots.Main ss) step = Some (ss ++ step ∷ [])
with_last (spots.Part ps side) step = None

-- the steps, where the text may end there
abbrev pub accept : (List ℕ → NameTest) → Configuration → Option (List (Step Expression))
accept named (at (states.InWord sep word spot) fs) = with_last spot (step_of sep (named word))
accept named (at (states.AfterStep step spot) fs) = with_last spot step
accept named (at states.Start fs) = None
accept named (at (states.Slash spot) fs) = None
accept named (at (states.Separated sep spot) fs) = None
accept named (at (states.Unit level) fs) = None
accept named (at (states.Dot ps side) fs) = None
accept named (at (states.AfterDots ps side) fs) = None
accept named (at (states.AtSign sep ps side) fs) = None
accept named (at (states.InAttribute sep word ps side) fs) = None
accept named (at (states.AfterOperand o side) fs) = None
accept named (at (states.InLiteral q side) fs) = None
accept named (at (states.Minus side) fs) = None
accept named (at (states.InDigits negative digits side) fs) = None
accept named (at (states.Bang left level) fs) = None
accept named (at (states.Sign compared level) fs) = None
accept named (at (states.Right side) fs) = None
accept named (at (states.AfterGroup e level) fs) = None
accept named (at (states.Link link e level) fs) = None
accept named (inside q text side fs) = None

-- the state after the bytes
abbrev pub run : (List ℕ → NameTest) → Configuration → List ℕ → Option Configuration
run named s [] = Some s
run named s (b ∷ bs) = option_and_then (λ t. run named t bs) (next named s b)

-- where the reader begins
abbrev pub start : Configuration
start = at states.Start []

-- ---- what the code keeps

-- a state in which the next byte is looked at alone
abbrev pub IsBytewise : State → Type 0
IsBytewise (states.InLiteral q side) = ⊥
IsBytewise states.Start = Unit {0}
IsBytewise (states.Slash spot) = Unit {0}
IsBytewise (states.Separated sep spot) = Unit {0}
IsBytewise (states.InWord sep word spot) = Unit {0}
IsBytewise (states.AfterStep step spot) = Unit {0}
IsBytewise (states.Unit level) = Unit {0}
IsBytewise (states.Dot ps side) = Unit {0}
IsBytewise (states.AfterDots ps side) = Unit {0}
IsBytewise (states.AtSign sep ps side) = Unit {0}
IsBytewise (states.InAttribute sep word ps side) = Unit {0}
IsBytewise (states.AfterOperand o side) = Unit {0}
IsBytewise (states.Minus side) = Unit {0}
IsBytewise (states.InDigits negative digits side) = Unit {0}
IsBytewise (states.Bang left level) = Unit {0}
IsBytewise (states.Sign compared level) = Unit {0}
IsBytewise (states.Right side) = Unit {0}
IsBytewise (states.AfterGroup e level) = Unit {0}
IsBytewise (states.Link link e level) = Unit {0}

-- a byte leads to that state, and so much is open then
abbrev pub Turned : Option Configuration → Option State → List Frame → Type 0
Turned None p fs = p ≡ None
Turned (Some (at state now)) p fs = (p ≡ Some state) × (fs ≡ now)
Turned (Some (inside q text side now)) p fs = ⊥
