use Rattle.iris_need.proofs.Predicates.{holds_is, all_hold_is, ends_same}
use Rattle.iris_need.proofs.meaning_laws.predicates_are_meant.Goals as goal

pub returns-clause-condition : goal.returns-clause-condition
returns-clause-condition c document marks is ids = holds_is document marks (record { in_order = is; plain_ids = ids })

pub returns-clause-all : goal.returns-clause-all
returns-clause-all c document marks is ids = all_hold_is document marks (record { in_order = is; plain_ids = ids })

pub returns-clause-ends : goal.returns-clause-ends
returns-clause-ends c document marks is ids = ends_same document marks (record { in_order = is; plain_ids = ids })
