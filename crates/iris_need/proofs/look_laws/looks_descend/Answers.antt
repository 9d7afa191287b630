use Rattle.iris_need.proofs.Descended.{looked_where, looked_some}
use Rattle.iris_need.proofs.look_laws.looks_descend.Goals as goal

pub returns-clause-from_start : goal.returns-clause-from_start
returns-clause-from_start c = looked_where

pub returns-clause-never_the_document : goal.returns-clause-never_the_document
returns-clause-never_the_document c = looked_some
