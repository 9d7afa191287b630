use Rattle.iris_need.proofs.Items.{program_items}
use Rattle.iris_need.proofs.Meant.{ordered_selected, any_order_selected, program_same}
use Rattle.iris_need.proofs.meaning_laws.program_is_meant.Goals as goal

pub returns-clause-items : goal.returns-clause-items
returns-clause-items c = program_items

pub returns-clause-selected : goal.returns-clause-selected
returns-clause-selected c document query is ids = ordered_selected document query (record { in_order = is; plain_ids = ids })

pub returns-clause-alone : goal.returns-clause-alone
returns-clause-alone c document query places is ids = any_order_selected document query places (record { in_order = is; plain_ids = ids })

pub returns-clause-same : goal.returns-clause-same
returns-clause-same c document query is ids = program_same document query (record { in_order = is; plain_ids = ids })
