use Rattle.iris_need.proofs.FullNames.{full_names_meant}
use Rattle.iris_need.proofs.meaning_laws.full_names_are_meant.Goals as goal

pub returns : goal.returns
returns c document query is ids = full_names_meant document query (record { in_order = is; plain_ids = ids })
