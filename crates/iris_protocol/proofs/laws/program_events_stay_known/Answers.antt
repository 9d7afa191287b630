use Rattle.iris_protocol.proofs.ProgramEvents.{known_keeps}
use Rattle.iris_protocol.proofs.laws.program_events_stay_known.Goals as goal

pub returns : goal.returns
returns c program serving event ok tells known = known_keeps program serving event ok tells known
