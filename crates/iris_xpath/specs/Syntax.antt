-- A query as contracts see it, and as its meaning reads it.
use Rattle.std.specs.Prelude.{ℕ, ℤ, List, [], ◌∷◌, map, Option, Some, None}
use Rattle.iris_xpath.specs.declared.expression.Separator.{Separator}
use Rattle.iris_xpath.specs.declared.expression.NameTest.{NameTest}
use Rattle.iris_xpath.specs.declared.expression.Step.{Step}
use Rattle.iris_xpath.specs.declared.expression.Part.{Part}
use Rattle.iris_xpath.specs.declared.expression.Part.TheVariants as parts
use Rattle.iris_xpath.specs.declared.expression.Attribute.{Attribute}
use Rattle.iris_xpath.specs.declared.expression.Comparison.{Comparison}
use Rattle.iris_xpath.specs.declared.expression.Operand.{Operand}
use Rattle.iris_xpath.specs.declared.expression.Operand.TheVariants as operands
use Rattle.iris_xpath.specs.declared.expression.Expression.{Expression}
use Rattle.iris_xpath.specs.declared.expression.Expression.TheOpen.{Expression-F}
use Rattle.iris_xpath.specs.declared.expression.Expression.TheFolds.{fold-Expression}

-- a query: the steps of its main path, from the top of the document down
abbrev pub Syntax : Type 0
Syntax = List (Step Expression)

-- ---- for recursion: what a predicate says, one constructor a form

mutual
  -- what is said of the place under test
  pub data Condition : Type 0 where
    any_of all_of : Conditions → Condition
    not_so : Condition → Condition
    selects : Steps → Condition
    compares : Side → Comparison → Side → Condition

  pub data Conditions : Type 0 where
    no_conditions : Conditions
    conditions : Condition → Conditions → Conditions

  -- a side of a comparison
  pub data Side : Type 0 where
    values_of : Steps → Side
    literal : List ℕ → Side
    number : ℤ → Side

  -- where a path goes on: nowhere, to an attribute, or by one part and then further
  pub data Steps : Type 0 where
    here : Steps
    attribute : Separator → List ℕ → Steps
    itself parent : Steps → Steps
    step : Separator → NameTest → Conditions → Steps → Steps

abbrev pub conditions_of : List Condition → Conditions
conditions_of [] = no_conditions
conditions_of (c ∷ cs) = conditions c (conditions_of cs)

abbrev pub end_of : Option Attribute → Steps
end_of None = here
end_of (Some a) = attribute a.separator a.name

abbrev pub steps_of : List (Part Condition) → Option Attribute → Steps
steps_of [] a = end_of a
steps_of (parts.Itself ∷ ps) a = itself (steps_of ps a)
steps_of (parts.Parent ∷ ps) a = parent (steps_of ps a)
steps_of (parts.Step s ∷ ps) a = step s.separator s.test (conditions_of s.predicates) (steps_of ps a)

abbrev pub side_of : Operand Condition → Side
side_of (operands.Path path) = values_of (steps_of path.parts path.attribute)
side_of (operands.Literal text) = literal text
side_of (operands.Number value) = number value

abbrev pub condition_step : Expression-F Condition → Condition
condition_step (Expression-F.Or es) = any_of (conditions_of es)
condition_step (Expression-F.And es) = all_of (conditions_of es)
condition_step (Expression-F.Not e) = not_so e
condition_step (Expression-F.Path path) = selects (steps_of path.parts path.attribute)
condition_step (Expression-F.Compare left comparison right) = compares (side_of left) comparison (side_of right)

-- what an expression says
abbrev pub condition_of : Expression → Condition
condition_of = fold-Expression Condition condition_step

-- a step of the main path
pub record MainStep : Type 0 where
  pub separator : Separator
  pub test : NameTest
  pub conditions : Conditions

abbrev pub main_of : Step Expression → MainStep
main_of s = record { separator = s.separator; test = s.test; conditions = conditions_of (map condition_of s.predicates) }
