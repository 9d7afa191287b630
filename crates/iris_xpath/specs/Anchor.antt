-- Anchored steps, and the lowest node under which all that a query selects lies.
use Rattle.std.specs.Prelude.{◌≡◌, ℕ, ◌≤◌, ◌⊎◌, List, [], ◌∷◌, ◌++◌, length, take, Some, codes}
use Rattle.iris_base.specs.Forms.{IsId}
use Rattle.iris_base.specs.declared.name.Label.{Label}
use Rattle.iris_xpath.specs.declared.expression.Separator.TheVariants.{Slash}
use Rattle.iris_xpath.specs.declared.expression.NameTest.TheVariants.{Kind}
use Rattle.iris_xpath.specs.declared.expression.Step.{Step}
use Rattle.iris_xpath.specs.declared.expression.Path.{Path}
use Rattle.iris_xpath.specs.declared.expression.Comparison.{Comparison}
use Rattle.iris_xpath.specs.declared.expression.Comparison.TheVariants.{Equal}
use Rattle.iris_xpath.specs.declared.expression.Operand.{Operand}
use Rattle.iris_xpath.specs.declared.expression.Operand.TheVariants as operands
use Rattle.iris_xpath.specs.declared.expression.Expression.{Expression}
use Rattle.iris_xpath.specs.Syntax.{Syntax}
use Rattle.iris_xpath.specs.Trees.{compare_of}

-- `@id`
abbrev pub id_path : Path Expression
id_path = record { parts = []; attribute = Some (record { separator = Slash; name = codes "id" }) }

-- `@id` as a side of a comparison
abbrev pub own_id : Operand Expression
own_id = operands.Path id_path

-- a comparison by `=` of `@id` and a literal, in either order, where the literal is a well-formed id
abbrev pub IsIdPredicate : List ℕ → Expression → Type 0
IsIdPredicate id e = IsId id × ((e ≡ compare_of own_id Equal (operands.Literal id)) ⊎ (e ≡ compare_of (operands.Literal id) Equal own_id))

-- no expression of the list is an id predicate
abbrev pub HasNoId : List Expression → Type 0
HasNoId [] = Unit {0}
HasNoId (e ∷ es) = ((id : List ℕ) → IsIdPredicate id e → ⊥) × HasNoId es

-- the first id predicate is of that id
pub record FirstId (id : List ℕ) (es : List Expression) : Type 0 where
  pub front : List Expression
  pub predicate : Expression
  pub back : List Expression
  pub parts : es ≡ front ++ predicate ∷ back
  pub none_before : HasNoId front
  pub is_id : IsIdPredicate id predicate

-- a step with `/`, a kind and at least one id predicate; its label is that kind and the id of the first
pub record Anchored (s : Step Expression) (label : Label) : Type 0 where
  pub slash : s.separator ≡ Slash
  pub kind : s.test ≡ Kind label.kind
  pub id : FirstId label.id s.predicates

-- the step is anchored, with some label
abbrev pub IsAnchored : Step Expression → Type 0
IsAnchored s = (label : Label) × Anchored s label

-- each step is anchored
abbrev pub AllAnchored : Syntax → Type 0
AllAnchored [] = Unit {0}
AllAnchored (s ∷ q) = IsAnchored s × AllAnchored q

-- each step is anchored and has the label at its place
abbrev pub HaveLabels : Syntax → List Label → Type 0
HaveLabels [] [] = Unit {0}
HaveLabels [] (l ∷ ls) = ⊥
HaveLabels (s ∷ q) [] = ⊥
HaveLabels (s ∷ q) (l ∷ ls) = Anchored s l × HaveLabels q ls

-- the greatest n such that the first n steps are all anchored
pub record Lca (q : Syntax) (n : ℕ) : Type 0 where
  pub within : n ≤ length q
  pub all : AllAnchored (take n q)
  pub greatest : (m : ℕ) → m ≤ length q → AllAnchored (take m q) → m ≤ n

-- the labels of those steps
pub record LcaName (q : Syntax) (name : List Label) : Type 0 where
  pub count : Lca q (length name)
  pub labels : HaveLabels (take (length name) q) name

-- ---- for the code: the sides of an id predicate

-- the side is a literal, the well-formed id
abbrev pub IsIdLiteral : List ℕ → Operand Expression → Type 0
IsIdLiteral id side = IsId id × (side ≡ operands.Literal id)

-- the comparison is `=`, one side is `@id` and the other the literal of a well-formed id
abbrev pub IsIdBetween : List ℕ → Operand Expression → Comparison → Operand Expression → Type 0
IsIdBetween id left c right = IsId id × (c ≡ Equal) × (((left ≡ own_id) × (right ≡ operands.Literal id)) ⊎ ((left ≡ operands.Literal id) × (right ≡ own_id)))
