-- Queries of the thin form, as whole syntax trees.
use Rattle.std.specs.Prelude.{ℕ, Bool, true, false, ◌&&◌, List, [], ◌∷◌, map, Option, Some, None, is_some, unwrap_or}
use Rattle.std.specs.List.{list_all, filter_map}
use Rattle.iris_xpath.specs.declared.expression.Separator.{Separator}
use Rattle.iris_xpath.specs.declared.expression.Separator.TheVariants.{Slash, DoubleSlash}
use Rattle.iris_xpath.specs.declared.expression.NameTest.{NameTest}
use Rattle.iris_xpath.specs.declared.expression.NameTest.TheVariants.{Any, Kind, Tag}
use Rattle.iris_xpath.specs.declared.expression.Step.{Step}
use Rattle.iris_xpath.specs.declared.expression.Part.{Part}
use Rattle.iris_xpath.specs.declared.expression.Attribute.{Attribute}
use Rattle.iris_xpath.specs.declared.expression.Comparison.{Comparison}
use Rattle.iris_xpath.specs.declared.expression.Comparison.TheVariants.{Equal, NotEqual, Less, LessOrEqual, Greater, GreaterOrEqual}
use Rattle.iris_xpath.specs.declared.expression.Operand.{Operand}
use Rattle.iris_xpath.specs.declared.expression.Operand.TheVariants as operands
use Rattle.iris_xpath.specs.declared.expression.Expression.{Expression}
use Rattle.iris_xpath.specs.declared.expression.Expression.TheOpen.{Expression-F}
use Rattle.iris_xpath.specs.declared.expression.Expression.TheViews.{out-Expression, roll-Expression}
use Rattle.iris_xpath.specs.Syntax.{Syntax}
use Rattle.iris_xpath.specs.Thin.{Equals, Main}

-- ---- the tree of a thin query

abbrev pub own_attribute : List ℕ → Operand Expression
own_attribute name = operands.Path (record { parts = []; attribute = Some (record { separator = Slash; name = name }) })

abbrev pub equality_layer : Equals → Expression-F Expression
equality_layer e = Expression-F.Compare (own_attribute e.name) Equal (operands.Literal e.value)

-- the expression `@name='value'`
abbrev pub equality : Equals → Expression
equality e = roll-Expression (equality_layer e)

-- a step with `/`, whose test is a kind
abbrev pub whole_step : Main → Step Expression
whole_step m = record { separator = Slash; test = Kind m.kind; predicates = map equality m.predicates }

-- ---- what of a tree is thin

abbrev pub name_after : Separator → List ℕ → Option (List ℕ)
name_after Slash name = Some name
name_after DoubleSlash name = None

abbrev pub own_name : List (Part Expression) → Option Attribute → Option (List ℕ)
own_name [] (Some a) = name_after a.separator a.name
own_name [] None = None
own_name (p ∷ ps) a = None

-- the attribute of the place itself that an operand is
abbrev pub attribute_name : Operand Expression → Option (List ℕ)
attribute_name (operands.Path path) = own_name path.parts path.attribute
attribute_name (operands.Literal text) = None
attribute_name (operands.Number n) = None

abbrev pub literal_text : Operand Expression → Option (List ℕ)
literal_text (operands.Path path) = None
literal_text (operands.Literal text) = Some text
literal_text (operands.Number n) = None

abbrev pub equals_of : Option (List ℕ) → Comparison → Option (List ℕ) → Option Equals
equals_of (Some name) Equal (Some value) = Some (record { name = name; value = value })
equals_of (Some name) Equal None = None
equals_of (Some name) NotEqual v = None
equals_of (Some name) Less v = None
equals_of (Some name) LessOrEqual v = None
equals_of (Some name) Greater v = None
equals_of (Some name) GreaterOrEqual v = None
equals_of None c v = None

abbrev pub equality_in : Expression-F Expression → Option Equals
equality_in (Expression-F.Or es) = None
equality_in (Expression-F.And es) = None
equality_in (Expression-F.Not e) = None
equality_in (Expression-F.Path path) = None
equality_in (Expression-F.Compare left comparison right) = equals_of (attribute_name left) comparison (literal_text right)

-- the attribute and the text, where an expression is `@name='value'`
abbrev pub equality_of : Expression → Option Equals
equality_of e = equality_in (out-Expression e)

abbrev pub kind_of : NameTest → Option (List ℕ)
kind_of Any = None
kind_of (Kind kind) = Some kind
kind_of (Tag tag) = None

abbrev pub is_slash : Separator → Bool
is_slash Slash = true
is_slash DoubleSlash = false

abbrev pub is_thin_step : Step Expression → Bool
is_thin_step s = is_slash s.separator && is_some (kind_of s.test) && list_all (λ e. is_some (equality_of e)) s.predicates

-- whether each step has `/`, a kind as its test, and predicates of the form `@name='value'` alone
abbrev pub is_thin : Syntax → Bool
is_thin query = list_all is_thin_step query

-- ---- a thin query without its tree

abbrev pub thin_step : Step Expression → Main
thin_step s = record { kind = unwrap_or (kind_of s.test) []; predicates = filter_map equality_of s.predicates }

-- the kinds and the equalities of a query. Only of a thin query are they all that it says.
abbrev pub thin_of : Syntax → List Main
thin_of query = map thin_step query
