-- What a thin query says, step by step, without its tree. The query is a list of these steps, from the top of the document down.
use Rattle.std.specs.Prelude.{ℕ, List}

-- a predicate: the attribute of that name has that text as its value
pub record Equals : Type 0 where
  pub name : List ℕ
  pub value : List ℕ

-- a step: the kind of node, and the predicates, one after another
pub record Main : Type 0 where
  pub kind : List ℕ
  pub predicates : List Equals
