use Rattle.iris_gather.proofs.Life.{client_sound, ask_sound}
use Rattle.iris_gather.proofs.laws.gathers_are_opened.Goals as goal

pub returns-clause-client : goal.returns-clause-client
returns-clause-client c = client_sound

pub returns-clause-ask : goal.returns-clause-ask
returns-clause-ask c = ask_sound
