-- The query for the blocks of a hood that have free spaces.
use Rattle.std.specs.Prelude.{ℕ, List, [], ◌∷◌, ◌++◌, None, codes, ◌≡◌, true}
use Rattle.iris_base.specs.declared.name.Label.{Label}
use Rattle.iris_xpath.specs.declared.expression.Separator.TheVariants.{Slash}
use Rattle.iris_xpath.specs.declared.expression.NameTest.TheVariants.{Kind}
use Rattle.iris_xpath.specs.declared.expression.Step.{Step}
use Rattle.iris_xpath.specs.declared.expression.Part.TheVariants as parts
use Rattle.iris_xpath.specs.declared.expression.Expression.{Expression}
use Rattle.iris_xpath.specs.Syntax.{Syntax}
use Rattle.iris_xpath.specs.Trees.{has, exists_of}
use Rattle.iris_xpath.specs.ThinQuery.{equality}

-- its text
abbrev pub query_text : Label → List ℕ → List ℕ
query_text top hood = codes "/" ++ top.kind ++ codes "[@id='" ++ top.id ++ codes "']/hood[@id='" ++ hood ++ codes "']/block[space[@free='yes']]"

-- a step with `/`, a kind and one predicate
abbrev pub kind_step : List ℕ → Expression → Step Expression
kind_step kind predicate = record { separator = Slash; test = Kind kind; predicates = predicate ∷ [] }

-- the predicate `@name='value'`
abbrev pub has_value : List ℕ → List ℕ → Expression
has_value name value = equality (record { name = name; value = value })

-- the predicate `space[@free='yes']`
abbrev pub has_free_space : Expression
has_free_space = exists_of (record { parts = parts.Step (kind_step (codes "space") (has_value (codes "free") (codes "yes"))) ∷ []; attribute = None })

-- its steps: the top node, the hood and the blocks below it that have a free space
abbrev pub query_steps : Label → List ℕ → Syntax
query_steps top hood = kind_step top.kind (has_value (codes "id") top.id) ∷ kind_step (codes "hood") (has_value (codes "id") hood) ∷ kind_step (codes "block") has_free_space ∷ []

-- the kinds of a city with that top node, and with hoods, blocks and spaces
pub record HasKinds (kinds : List (List ℕ)) (top : Label) : Type 0 where
  pub topmost : has kinds top.kind ≡ true
  pub hood : has kinds (codes "hood") ≡ true
  pub block : has kinds (codes "block") ≡ true
  pub space : has kinds (codes "space") ≡ true
