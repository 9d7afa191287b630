-- What syntax trees say, from each of their parts on.
use Rattle.std.specs.Prelude.{List, [], ◌∷◌, map, Option}
use Rattle.iris_xpath.specs.declared.expression.Expression.{Expression}
use Rattle.iris_xpath.specs.declared.expression.Part.{Part}
use Rattle.iris_xpath.specs.declared.expression.Step.{Step}
use Rattle.iris_xpath.specs.declared.expression.Attribute.{Attribute}
use Rattle.iris_xpath.specs.declared.expression.Operand.{Operand}
use Rattle.iris_xpath.specs.declared.expression.Part.TheVariants as parts
use Rattle.iris_xpath.specs.declared.expression.Operand.TheVariants as operands
use Rattle.iris_xpath.specs.Syntax.{Conditions, conditions_of, condition_of, Steps, end_of, itself, parent, step, Side, values_of, literal, number}

-- what some expressions say
abbrev pub all_conditions : List Expression → Conditions
all_conditions expressions = conditions_of (map condition_of expressions)

-- a path from one of its parts on
abbrev pub steps_from : List (Part Expression) → Option Attribute → Steps
steps_from [] a = end_of a
steps_from (parts.Itself ∷ ps) a = itself (steps_from ps a)
steps_from (parts.Parent ∷ ps) a = parent (steps_from ps a)
steps_from (parts.Step s ∷ ps) a = step s.separator s.test (all_conditions s.predicates) (steps_from ps a)

-- what an operand says
abbrev pub operand_side : Operand Expression → Side
operand_side (operands.Path path) = values_of (steps_from path.parts path.attribute)
operand_side (operands.Literal text) = literal text
operand_side (operands.Number value) = number value

-- the parts, from a step on
abbrev pub step_on : Step Expression → List (Part Expression) → Option Attribute → Steps
step_on s ps a = step s.separator s.test (all_conditions s.predicates) (steps_from ps a)
