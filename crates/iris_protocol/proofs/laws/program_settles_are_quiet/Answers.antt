use Rattle.iris_protocol.proofs.Settles.{program_settled}
use Rattle.iris_protocol.proofs.laws.program_settles_are_quiet.Goals as goal

pub returns : goal.returns
returns c outside fair program place most places lent known e = program_settled outside fair program place most places lent known e
