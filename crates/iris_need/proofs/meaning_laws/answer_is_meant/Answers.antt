use Rattle.iris_need.proofs.Meant.{evaluation_meant}
use Rattle.iris_need.proofs.meaning_laws.answer_is_meant.Goals as goal

pub returns : goal.returns
returns c query view document is ids = evaluation_meant query view document (record { in_order = is; plain_ids = ids })
