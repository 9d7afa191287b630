use Rattle.iris_need.proofs.Placed.{placed_same, placed_meant}
use Rattle.iris_need.proofs.SameLooks.{program_alike}
use Rattle.iris_need.proofs.meaning_laws.places_are_told.Goals as goal

pub returns-clause-looks : goal.returns-clause-looks
returns-clause-looks c = program_alike

pub returns-clause-same : goal.returns-clause-same
returns-clause-same c = placed_same

pub returns-clause-selected : goal.returns-clause-selected
returns-clause-selected c document query is ids = placed_meant document query (record { in_order = is; plain_ids = ids })
