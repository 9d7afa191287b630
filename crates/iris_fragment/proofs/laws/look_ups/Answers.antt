use Rattle.iris_fragment.proofs.NodeChanges.{look_up_put, look_up_left_out, look_up_replaced}
use Rattle.iris_fragment.proofs.laws.look_ups.Goals as goal

pub returns-clause-put : goal.returns-clause-put
returns-clause-put c = look_up_put

pub returns-clause-left_out : goal.returns-clause-left_out
returns-clause-left_out c = look_up_left_out

pub returns-clause-replaced : goal.returns-clause-replaced
returns-clause-replaced c = look_up_replaced
