use Rattle.iris_need.proofs.FullNames.{looks_at_nodes}
use Rattle.iris_need.proofs.Looked.{looks_meant}
use Rattle.iris_need.proofs.meaning_laws.looks_are_meant.Goals as goal

pub returns-clause-looks : goal.returns-clause-looks
returns-clause-looks c document query test is ids = looks_meant document query test (record { in_order = is; plain_ids = ids })

pub returns-clause-nodes : goal.returns-clause-nodes
returns-clause-nodes c document query test is ids = looks_at_nodes document query test (record { in_order = is; plain_ids = ids })
